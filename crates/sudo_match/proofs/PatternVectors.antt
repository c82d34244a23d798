-- Worked examples of the definitions in `specs/Pattern.antt`, each by computation.
use Rattle.std.proofs.Common.{◌≡◌, ℕ, Bool, true, false, List, [], ◌∷◌, ◌++◌, map, refl}
use Rattle.std.specs.Prelude.{codes}
use Rattle.sudo_text.specs.declared.token.Ch.{Ch}
use Rattle.sudo_match.specs.declared.patterns.Slash.TheVariants.{Any, Not}
use Rattle.sudo_match.specs.Class.{Alpha}
use Rattle.sudo_match.specs.Pattern.{InClass, Range, Single}
use Rattle.sudo_match.specs.Pattern.{begins, range_at, items_after, Only, AnyByte, Bracket, One, Star, bracket_after}
use Rattle.sudo_match.specs.Pattern.{part_at, parts_after, parts, cuts, fits}

-- the bytes, none of them escaped; all of them escaped
abbrev pub plain : List ℕ → List Ch
plain bs = map (λ b. record { byte = b; escaped = false }) bs

abbrev pub escaped : List ℕ → List Ch
escaped bs = map (λ b. record { byte = b; escaped = true }) bs

-- the pattern against the text, with `Slash::Any` and with `Slash::Not`
abbrev pub both : List Ch → List ℕ → Bool × Bool
both p t = (fits (parts p) t Any, fits (parts p) t Not)

pub star_fits_empty : both (plain (codes "*")) [] ≡ (true, true)
unfolding parts_after part_at bracket_after items_after range_at begins fits cuts
star_fits_empty = refl

pub any_byte_and_slash : both (plain (codes "?")) (codes "/") ≡ (true, false)
unfolding parts_after part_at bracket_after items_after range_at begins fits cuts
any_byte_and_slash = refl

pub complement_then_star : both (plain (codes "[!a]*")) (codes "b/c") ≡ (true, false)
unfolding parts_after part_at bracket_after items_after range_at begins fits cuts
complement_then_star = refl

pub closing_first : both (plain (codes "[]x]")) (codes "]") ≡ (true, true)
unfolding parts_after part_at bracket_after items_after range_at begins fits cuts
closing_first = refl

pub range_reversed : both (plain (codes "[z-a]")) (codes "m") ≡ (false, false)
unfolding parts_after part_at bracket_after items_after range_at begins fits cuts
range_reversed = refl

pub bracket_not_closed : both (plain (codes "[ab")) (codes "[ab") ≡ (true, true)
unfolding parts_after part_at bracket_after items_after range_at begins fits cuts
bracket_not_closed = refl

pub class_alpha : both (plain (codes "[[:alpha:]]")) (codes "Q") ≡ (true, true)
unfolding parts_after part_at bracket_after items_after range_at begins fits cuts
class_alpha = refl

pub class_unknown : both (plain (codes "[[:word:]]")) (codes "w]") ≡ (true, true)
unfolding parts_after part_at bracket_after items_after range_at begins fits cuts
class_unknown = refl

pub class_unknown_short : both (plain (codes "[[:word:]]")) (codes "w") ≡ (false, false)
unfolding parts_after part_at bracket_after items_after range_at begins fits cuts
class_unknown_short = refl

pub star_escaped : both (escaped (codes "*")) (codes "a") ≡ (false, false)
unfolding parts_after part_at bracket_after items_after range_at begins fits cuts
star_escaped = refl

-- the cut itself: a star, a class, a range, a `-` at the end, a literal `[`
pub cut_of_parts :
    parts (plain (codes "*[![:alpha:]0-9-]?[x")) ≡
    Star ∷ One (Bracket true (InClass Alpha ∷ Range 48 57 ∷ Single 45 ∷ [])) ∷ One AnyByte ∷ One (Only 91) ∷ One (Only 120) ∷ []
unfolding parts_after part_at bracket_after items_after range_at begins
cut_of_parts = refl

-- a class whose colons are escaped
pub escaped-colons :
    parts (plain (codes "[[") ++ escaped (codes ":") ++ plain (codes "alpha") ++ escaped (codes ":") ++ plain (codes "]]")) ≡
    One (Bracket false (InClass Alpha ∷ [])) ∷ []
unfolding parts_after part_at bracket_after items_after range_at begins
escaped-colons = refl

-- a star goes back over several indices
pub goes_back : both (plain (codes "*a*b")) (codes "caxab") ≡ (true, true)
unfolding parts_after part_at bracket_after items_after range_at begins fits cuts
goes_back = refl

-- a written `/` fits itself, and a star holds none
pub written_slash : both (plain (codes "/usr/*")) (codes "/usr/a/b") ≡ (true, false)
unfolding parts_after part_at bracket_after items_after range_at begins fits cuts
written_slash = refl
