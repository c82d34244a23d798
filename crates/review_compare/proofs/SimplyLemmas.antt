-- The tests of characters are those of parts.
use Rattle.std.proofs.Common.{◌≡◌, ℕ, Bool, true, false, not, cond, ◌&&◌, ◌||◌, List, [], ◌∷◌, map, length, Option, Some, None, refl, sym}
use Rattle.std.proofs.Common.{◌∙◌, ap, arith, inl, inr, ◌⊎◌}
use Rattle.std.specs.Prelude.{◌==◌, nat_le}
use Rattle.std.specs.List.{list_any, list_all}
use Rattle.std.proofs.lemmas.Bool.{eqb-true, and_parts, and_from, or_cases, or_left, or_right}
use Rattle.sudo_text.specs.declared.token.Ch.{Ch}
use Rattle.sudo_grammar.specs.declared.kind.Atom.{Atom}
use Rattle.sudo_grammar.specs.declared.kind.Atom.TheVariants as atom
use Rattle.sudo_match.specs.declared.patterns.Slash.{Slash}
use Rattle.sudo_match.specs.declared.patterns.Slash.TheVariants.{Not}
use Rattle.sudo_match.specs.Pattern.{is_plain, parts, parts_after, part_at, Part, One, Star, Only, AnyByte, path_chars, fits}
use Rattle.sudo_match.specs.Matching.{arguments_fit, arguments_slash, command_fits}
use Rattle.sudo_match.proofs.FitsLemmas.{fits-star, fits-one-empty, fits-empty-empty}
use Rattle.sudo_match.proofs.PartLemmas.{parts-cons, parts-empty, part-star, part-any, part-byte}
use Rattle.review_compare.specs.Covering.{disjoint, arguments_cover, arguments_disjoint, parts_cover, parts_disjoint, no_arguments}
use Rattle.review_compare.specs.Covering.{same_slash}
use Rattle.review_compare.specs.Simply.{is_simple, has_few_stars, char_part, same_bool, same_chars, same_arguments, chars_cover}
use Rattle.review_compare.specs.Simply.{same_command, same_commands}
use Rattle.review_compare.specs.Simply.{chars_disjoint, given_cover, given_disjoint, CoversIsSound, DisjointIsSound}
use Rattle.review_compare.proofs.CoveringLemmas.{covers_sound, disjoint_is_sound}

-- ---- Characters

part-one : (c : Ch) (cs : List Ch) → is_plain 91 c ≡ false → part_at c cs ≡ (char_part c, 0)
part-one c cs e = go (is_plain 42 c) (is_plain 63 c) refl refl
  where
    go : (s q : Bool) → is_plain 42 c ≡ s → is_plain 63 c ≡ q → part_at c cs ≡ (
      cond (is_plain 42 c) Star (cond (is_plain 63 c)
          (One AnyByte) (One (Only c.byte))),
      0,
    )
    go true q f g = part-star c cs f ∙ ap (λ b. (cond b Star (cond (is_plain 63 c) (One AnyByte) (One (Only c.byte))), 0)) (sym f)
    go false true f g =
        part-any c cs f g
        ∙ ap (λ b. (cond b (One AnyByte) (One (Only c.byte)), 0)) (sym g)
        ∙ ap (λ b. (cond b Star (cond (is_plain 63 c) (One AnyByte) (One (Only c.byte))), 0)) (sym f)
    go false false f g =
        part-byte c cs f g e
        ∙ ap (λ b. (cond b (One AnyByte) (One (Only c.byte)), 0)) (sym g)
        ∙ ap (λ b. (cond b Star (cond (is_plain 63 c) (One AnyByte) (One (Only c.byte))), 0)) (sym f)

none-first : (a b : Bool) → not (a || b) ≡ true → (a ≡ false) × (not b ≡ true)
none-first true b e = cc
none-first false b e = (refl, e)

pub parts-simple : (cs : List Ch) → not (list_any (is_plain 91) cs) ≡ true → parts cs ≡ map char_part cs
parts-simple [] e = parts-empty
parts-simple (c ∷ cs) e =
    let both = none-first (is_plain 91 c) (list_any (is_plain 91) cs) e in
    parts-cons c cs
    ∙ ap (λ (r : Part × ℕ). r.0 ∷ parts_after r.1 cs) (part-one c cs both.0)
    ∙ ap (λ ps. char_part c ∷ ps) (parts-simple cs both.1)

pub simple-parts : (cs : List Ch) → is_simple cs ≡ true → parts cs ≡ map char_part cs
simple-parts cs e = parts-simple cs (and_parts (not (list_any (is_plain 91) cs)) (nat_le (length cs) 2000) e).0

pub none-left : (cs : List Ch) → length cs ≡ 0 → cs ≡ []
none-left [] e = refl
none-left (c ∷ cs) e = absurd (omega arith)

-- only stars fit the empty text
pub fits-nothing : (r : Slash) (cs : List Ch) → fits (map char_part cs) [] r ≡ list_all (is_plain 42) cs
fits-nothing r [] = fits-empty-empty r
fits-nothing r (c ∷ cs) = go (is_plain 42 c) (is_plain 63 c) (fits-nothing r cs)
  where
    or-false : (b : Bool) → (b || false) ≡ b
    or-false true = refl
    or-false false = refl

    go : (s q : Bool) → fits (map char_part cs) [] r ≡ list_all (is_plain 42) cs
        → fits (cond s Star (cond q (One AnyByte) (One (Only c.byte))) ∷ map char_part cs) [] r ≡ (s && list_all (is_plain 42) cs)
    go true q more = fits-star r (map char_part cs) [] ∙ or-false (fits (map char_part cs) [] r) ∙ more
    go false true more = fits-one-empty r AnyByte (map char_part cs)
    go false false more = fits-one-empty r (Only c.byte) (map char_part cs)

bools-same : (a b : Bool) → same_bool a b ≡ true → a ≡ b
bools-same true true e = refl
bools-same true false e = cc
bools-same false true e = cc
bools-same false false e = refl

pub chars-same : (cs ds : List Ch) → same_chars cs ds ≡ true → cs ≡ ds
chars-same [] [] e = refl
chars-same [] (d ∷ ds) e = cc
chars-same (c ∷ cs) [] e = cc
chars-same (c ∷ cs) (d ∷ ds) e =
    let both = and_parts ((c.byte == d.byte) && same_bool c.escaped d.escaped) (same_chars cs ds) e in
    let one = and_parts (c.byte == d.byte) (same_bool c.escaped d.escaped) both.0 in
    ap (λ (b : ℕ). record { byte = b; escaped = c.escaped } ∷ cs) (eqb-true c.byte d.byte one.0)
    ∙ ap (λ (b : Bool). record { byte = d.byte; escaped = b } ∷ cs) (bools-same c.escaped d.escaped one.1)
    ∙ ap (λ (xs : List Ch). d ∷ xs) (chars-same cs ds both.1)

pub arguments-same : (a b : Option (List Ch)) → same_arguments a b ≡ true → a ≡ b
arguments-same None None e = refl
arguments-same None (Some ds) e = cc
arguments-same (Some cs) None e = cc
arguments-same (Some cs) (Some ds) e = ap (λ (xs : List Ch). Some xs) (chars-same cs ds e)

pub command-same : (a b : Atom) → same_command a b ≡ true → a ≡ b
command-same atom.All atom.All e = refl
command-same (atom.Command path args) (atom.Command other more) e =
    let both = and_parts (same_chars path other) (same_arguments args more) e in
    ap (λ (cs : List Ch). atom.Command cs args) (chars-same path other both.0)
    ∙ ap (λ (as_given : Option (List Ch)). atom.Command other as_given) (arguments-same args more both.1)
command-same _ _ e = cc

pub commands-same : (ks ls : List Atom) → same_commands ks ls ≡ true → ks ≡ ls
commands-same [] [] e = refl
commands-same [] (l ∷ ls) e = cc
commands-same (k ∷ ks) [] e = cc
commands-same (k ∷ ks) (l ∷ ls) e =
    let both = and_parts (same_command k l) (same_commands ks ls) e in
    ap (λ (a : Atom). a ∷ ks) (command-same k l both.0) ∙ ap (λ (rest : List Atom). l ∷ rest) (commands-same ks ls both.1)

-- ---- Patterns

cover-parts : (s : Slash) (p q : List Ch) → chars_cover s p q ≡ true → parts_cover s (parts p) (parts q) ≡ true
cover-parts s p q e =
    let both = and_parts ((is_simple p && has_few_stars p) && is_simple q) (parts_cover s (map char_part p) (map char_part q)) e in
    let simple = and_parts (is_simple p && has_few_stars p) (is_simple q) both.0 in
    let first = and_parts (is_simple p) (has_few_stars p) simple.0 in
    ap (λ ps. parts_cover s ps (parts q)) (simple-parts p first.0)
    ∙ ap (parts_cover s (map char_part p)) (simple-parts q simple.1) ∙ both.1

disjoint-parts : (s r : Slash) (p q : List Ch) → chars_disjoint s r p q ≡ true → parts_disjoint s r (parts p) (parts q) ≡ true
disjoint-parts s r p q e =
    let both = and_parts (is_simple p && is_simple q) (parts_disjoint s r (map char_part p) (map char_part q)) e in
    let simple = and_parts (is_simple p) (is_simple q) both.0 in
    ap (λ ps. parts_disjoint s r ps (parts q)) (simple-parts p simple.0)
    ∙ ap (parts_disjoint s r (map char_part p)) (simple-parts q simple.1) ∙ both.1

-- ---- Arguments

pub given-cover : (s r : Slash) (a b : Option (List Ch)) → given_cover s r a b ≡ true → arguments_cover s r a b ≡ true
given-cover s r None b e = refl
given-cover s r (Some cs) None e = cc
given-cover s r (Some cs) (Some ds) e = go (no_arguments ds) (no_arguments cs) e
  where
    go : (n m : Bool) → cond n (arguments_fit s (Some cs) []) (cond m false (same_slash s r && chars_cover s cs ds)) ≡ true
        → cond n (arguments_fit s (Some cs) []) (cond m false (same_slash s r && parts_cover s (parts cs) (parts ds))) ≡ true
    go true m e = e
    go false true e = e
    go false false e =
        let both = and_parts (same_slash s r) (chars_cover s cs ds) e in
        and_from (same_slash s r) (parts_cover s (parts cs) (parts ds)) both.0 (cover-parts s cs ds both.1)

pub given-disjoint : (s r : Slash) (a b : Option (List Ch)) → given_disjoint s r a b ≡ true → arguments_disjoint s r a b ≡ true
given-disjoint s r None b e = cc
given-disjoint s r (Some cs) None e = cc
given-disjoint s r (Some cs) (Some ds) e = go (no_arguments ds) (no_arguments cs) e
  where
    go : (n m : Bool) → cond n (not (arguments_fit s (Some cs) [])) (cond m (not (arguments_fit r (Some ds) []))
        (chars_disjoint s r cs ds)) ≡ true
        → cond n (not (arguments_fit s (Some cs) [])) (cond m (not (arguments_fit r (Some ds) [])) (parts_disjoint s r (parts cs)
        (parts ds))) ≡ true
    go true m e = e
    go false true e = e
    go false false e = disjoint-parts s r cs ds e

-- ---- Commands

pub covers_simply_sound : CoversIsSound
covers_simply_sound atom.All a c x e h = covers_sound atom.All a c x refl h
covers_simply_sound (atom.Command path args) (atom.Command other more) c x e h =
    go (or_cases (same_chars path other && same_arguments args more)
    (chars_cover Not (path_chars path) (path_chars other) && given_cover (arguments_slash path) (arguments_slash other) args more) e)
  where
    go : ((same_chars path other && same_arguments args more) ≡ true)
        ⊎ ((chars_cover Not (path_chars path) (path_chars other) && given_cover (arguments_slash path)
        (arguments_slash other) args more) ≡ true)
        → command_fits (atom.Command path args) c x ≡ true
    go (inl same) =
        let both = and_parts (same_chars path other) (same_arguments args more) same in
        ap (λ (p : List Ch). command_fits (atom.Command p args) c x) (chars-same path other both.0)
        ∙ ap (λ (a : Option (List Ch)). command_fits (atom.Command other a) c x) (arguments-same args more both.1) ∙ h
    go (inr cover) =
        let both = and_parts (chars_cover Not (path_chars path) (path_chars other)) (given_cover (arguments_slash path)
        (arguments_slash other) args more) cover in
        covers_sound (atom.Command path args) (atom.Command other more) c x
        (and_from (parts_cover Not (parts (path_chars path)) (parts (path_chars other))) (arguments_cover (arguments_slash path)
        (arguments_slash other) args more)
        (cover-parts Not (path_chars path) (path_chars other) both.0)
        (given-cover (arguments_slash path) (arguments_slash other) args more both.1)) h
covers_simply_sound _ _ c x e h = cc

pub disjoint_simply_sound : DisjointIsSound
disjoint_simply_sound (atom.Command path args) (atom.Command other more) c x e h =
    disjoint_is_sound (atom.Command path args) (atom.Command other more) c x
    (go (or_cases (chars_disjoint Not Not (path_chars path) (path_chars other)) (given_disjoint (arguments_slash path)
    (arguments_slash other) args more) e)) h
  where
    go : (chars_disjoint Not Not (path_chars path) (path_chars other) ≡ true) ⊎ (given_disjoint (arguments_slash path)
        (arguments_slash other) args more ≡ true)
        → disjoint (atom.Command path args) (atom.Command other more) ≡ true
    go (inl p) = or_left (parts_disjoint Not Not (parts (path_chars path)) (parts (path_chars other)))
        (arguments_disjoint (arguments_slash path) (arguments_slash other) args more) (disjoint-parts Not Not (path_chars path)
        (path_chars other) p)
    go (inr a) = or_right (parts_disjoint Not Not (parts (path_chars path)) (parts (path_chars other)))
        (arguments_disjoint (arguments_slash path) (arguments_slash other) args more)
        (given-disjoint (arguments_slash path) (arguments_slash other) args more a)
disjoint_simply_sound _ _ c x e h = cc
