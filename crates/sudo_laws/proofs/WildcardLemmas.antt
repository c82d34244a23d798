-- What patterns without special characters fit, and how many slashes the texts have that a path fits.
use Rattle.std.proofs.Common.{◌≡◌, ℕ, ◌+◌, Bool, true, false, not, cond, ◌&&◌, ◌||◌, ◌==◌, List, [], ◌∷◌}
use Rattle.std.proofs.Common.{count_by, Option, ◌↔◌, refl, sym, ◌∙◌, ap, arith}
use Rattle.std.proofs.lemmas.Bool.{eqb-true, eq-eqb}
use Rattle.std.proofs.lemmas.List.Sums.{sum_by-append, sum_by-cons}
use Rattle.sudo_base.proofs.Booleans.{and_first, and_second}
use Rattle.sudo_grammar.specs.Words.{bytes_of}
use Rattle.sudo_grammar.specs.declared.kind.Atom.TheVariants.{Command}
use Rattle.sudo_laws.proofs.TestLemmas.{Each, each_both, each_first, each_none, each_one, each_rest}
use Rattle.sudo_laws.specs.Slashes.{is_slash_part}
use Rattle.sudo_match.proofs.CutLemmas.{star-is-part, question-is-part, byte-is-part}
use Rattle.sudo_match.proofs.FitsLemmas.{later, fits-star}
use Rattle.sudo_match.specs.Beginnings.{is_special}
use Rattle.sudo_match.specs.Matching.{command_fits, arguments_fit, arguments_slash}
use Rattle.sudo_match.specs.Pattern.{ByteSet, Only, AnyByte, Bracket, Part, One, Star, fits, is_byte, is_free, is_plain, parts}
use Rattle.sudo_match.specs.Pattern.{parts_after, any_name, is_folder_path, path_chars, set_holds}
use Rattle.sudo_match.specs.declared.patterns.Slash.{Slash}
use Rattle.sudo_match.specs.declared.patterns.Slash.TheVariants.{Not}
use Rattle.sudo_text.specs.declared.token.Ch.{Ch}

none_more : (n : ℕ) → 0 + n ≡ n
none_more n = omega arith

-- ---- Plain patterns

or_none : (a b : Bool) → (a || b) ≡ false → (a ≡ false) × (b ≡ false)
or_none true b h = cc
or_none false b h = (refl, h)

plain_part : (c : Ch) (cs : List Ch) → is_special c ≡ false → parts (c ∷ cs) ≡ One (Only c.byte) ∷ parts cs
plain_part c cs plain =
    let star = or_none (is_plain 42 c) (is_plain 63 c || is_plain 91 c) plain in
    let other = or_none (is_plain 63 c) (is_plain 91 c) star.1 in
    byte-is-part c cs star.0 other.0 other.1

fits_there : (slash : Slash) (cs : List Ch) (t : List ℕ) → Each is_special false cs → fits (parts cs) t slash ≡ true
    → t ≡ bytes_of cs
unfolding fits parts_after
fits_there slash [] [] plain h = refl
fits_there slash [] (b ∷ t) plain h = cc
fits_there slash (c ∷ cs) [] plain h =
    let whole : false ≡ true = ap (λ ps. fits ps [] slash) (sym (plain_part c cs (each_first is_special false c cs plain))) ∙ h in cc
fits_there slash (c ∷ cs) (b ∷ t) plain h =
    let whole : ((b == c.byte) && fits (parts cs) t slash) ≡ true =
    ap (λ ps. fits ps (b ∷ t) slash) (sym (plain_part c cs (each_first is_special false c cs plain))) ∙ h in
    ap (λ x. x ∷ t) (eqb-true b c.byte (and_first (b == c.byte) (fits (parts cs) t slash) whole))
    ∙ ap (λ xs. c.byte ∷ xs)
    (fits_there slash cs t (each_rest is_special false c cs plain) (and_second (b == c.byte) (fits (parts cs) t slash) whole))

fits_back : (slash : Slash) (cs : List Ch) → Each is_special false cs → fits (parts cs) (bytes_of cs) slash ≡ true
unfolding fits parts_after
fits_back slash [] plain = refl
fits_back slash (c ∷ cs) plain =
    ap (λ ps. fits ps (bytes_of (c ∷ cs)) slash) (plain_part c cs (each_first is_special false c cs plain))
    ∙ ap (λ b. b && fits (parts cs) (bytes_of cs) slash) (eq-eqb c.byte c.byte refl)
    ∙ fits_back slash cs (each_rest is_special false c cs plain)

pub plain_fits : (chars : List Ch) (text : List ℕ) (slash : Slash) → Each is_special false chars
    → (fits (parts chars) text slash ≡ true) ↔ (text ≡ bytes_of chars)
plain_fits chars text slash plain = (
  fits_there slash chars text plain,
  λ is. ap (λ t. fits (parts chars) t slash) is ∙ fits_back slash chars plain,
)

-- ---- Slashes

abbrev slashes : List ℕ → ℕ
slashes t = count_by (λ b. b == 47) t

abbrev slash_parts : List Part → ℕ
slash_parts ps = count_by is_slash_part ps

-- a count of one item more
counted : {X : Type 0} (p : X → Bool) (x : X) (xs : List X) → count_by p (x ∷ xs) ≡ cond (p x) 1 0 + count_by p xs
counted p x xs = sum_by-cons (λ y. cond (p y) 1 0) x xs

both_counted : {X Y : Type 0} (p : X → Bool) (q : Y → Bool) (x : X) (xs : List X) (y : Y) (ys : List Y) → p x ≡ q y
    → count_by p xs ≡ count_by q ys → count_by p (x ∷ xs) ≡ count_by q (y ∷ ys)
both_counted p q x xs y ys here rest =
    counted p x xs
    ∙ ap (λ e. cond e 1 0 + count_by p xs) here
    ∙ ap (λ n. cond (q y) 1 0 + n) rest
    ∙ sym (counted q y ys)

not_counted : {X : Type 0} (p : X → Bool) (x : X) (xs : List X) → p x ≡ false → count_by p (x ∷ xs) ≡ count_by p xs
not_counted p x xs here = counted p x xs ∙ ap (λ e. cond e 1 0 + count_by p xs) here ∙ none_more (count_by p xs)

free_none : (b : ℕ) → is_free Not b ≡ true → (b == 47) ≡ false
free_none b h = by (b == 47) h
  where
    by : (e : Bool) → not e ≡ true → e ≡ false
    by true h = cc
    by false h = refl

-- what a set holds is a slash where its part is one
set_slash : (set : ByteSet) (b : ℕ) → set_holds Not set b ≡ true → (b == 47) ≡ is_slash_part (One set)
set_slash (Only a) b h = ap (λ x. x == 47) (eqb-true b a h)
set_slash AnyByte b h = free_none b h
set_slash (Bracket false items) b h = free_none b (and_first (is_free Not b) _ h)
set_slash (Bracket true items) b h = free_none b (and_first (is_free Not b) _ h)

or_cases : (a b : Bool) (P : Type 0) → (a || b) ≡ true → (a ≡ true → P) → (b ≡ true → P) → P
or_cases true b P h f g = f refl
or_cases false b P h f g = g h

-- a star takes no slash
star_slashes : (ps : List Part) → ((t : List ℕ) → fits ps t Not ≡ true → slashes t ≡ slash_parts ps) → (t : List ℕ)
    → fits (Star ∷ ps) t Not ≡ true → slashes t ≡ slash_parts ps
star_slashes ps inner [] h =
    or_cases (fits ps [] Not) false _ (sym (fits-star Not ps []) ∙ h) (inner []) (λ e. cc)
star_slashes ps inner (b ∷ t) h =
    or_cases (fits ps (b ∷ t) Not) (later Not ps (b ∷ t)) _ (sym (fits-star Not ps (b ∷ t)) ∙ h) (inner (b ∷ t))
    (λ e. not_counted (λ x. x == 47) b t (free_none b (and_first (is_free Not b) (fits (Star ∷ ps) t Not) e))
    ∙ star_slashes ps inner t (and_second (is_free Not b) (fits (Star ∷ ps) t Not) e))

pub count_slashes : (ps : List Part) (t : List ℕ) → fits ps t Not ≡ true → slashes t ≡ slash_parts ps
unfolding fits
count_slashes [] [] h = refl
count_slashes [] (b ∷ t) h = cc
count_slashes (One set ∷ ps) [] h = cc
count_slashes (One set ∷ ps) (b ∷ t) h =
    both_counted (λ x. x == 47) is_slash_part b t (One set) ps
    (set_slash set b (and_first (set_holds Not set b) (fits ps t Not) h))
    (count_slashes ps t (and_second (set_holds Not set b) (fits ps t Not) h))
count_slashes (Star ∷ ps) t h = star_slashes ps (count_slashes ps) t h ∙ sym (not_counted is_slash_part Star ps refl)

-- ---- Slashes of characters

abbrev slash_chars : List Ch → ℕ
slash_chars cs = count_by (is_byte 47) cs

-- another byte is no slash
no_slash : (b : ℕ) (c : Ch) → (b == 47) ≡ false → is_plain b c ≡ true → is_byte 47 c ≡ false
no_slash b c other h =
    ap (λ x. x == 47) (eqb-true c.byte b (and_second (not c.escaped) (c.byte == b) h)) ∙ other

one_part : (c : Ch) (cs : List Ch) (part : Part) → parts (c ∷ cs) ≡ part ∷ parts cs → is_slash_part part ≡ is_byte 47 c
    → slash_parts (parts cs) ≡ slash_chars cs → slash_parts (parts (c ∷ cs)) ≡ slash_chars (c ∷ cs)
one_part c cs part is here rest =
    ap slash_parts is ∙ both_counted is_slash_part (is_byte 47) part (parts cs) c cs here rest

next_part : (c : Ch) (cs : List Ch) → is_plain 91 c ≡ false → slash_parts (parts cs) ≡ slash_chars cs
    → slash_parts (parts (c ∷ cs)) ≡ slash_chars (c ∷ cs)
next_part c cs closed rest = by (is_plain 42 c) refl (is_plain 63 c) refl
  where
    by : (star : Bool) → is_plain 42 c ≡ star → (any : Bool) → is_plain 63 c ≡ any
        → slash_parts (parts (c ∷ cs)) ≡ slash_chars (c ∷ cs)
    by true star any question = one_part c cs Star (star-is-part c cs star) (sym (no_slash 42 c refl star)) rest
    by false star true question =
        one_part c cs (One AnyByte) (question-is-part c cs question) (sym (no_slash 63 c refl question)) rest
    by false star false question =
        one_part c cs (One (Only c.byte)) (byte-is-part c cs star question closed) refl rest

parts_slashes : (cs : List Ch) → Each (is_plain 91) false cs → slash_parts (parts cs) ≡ slash_chars cs
unfolding parts_after
parts_slashes [] none = refl
parts_slashes (c ∷ cs) none =
    next_part c cs (each_first (is_plain 91) false c cs none) (parts_slashes cs (each_rest (is_plain 91) false c cs none))

-- what follows the path of a folder has no slash
name_slashes : (folder : Bool) → Each (is_plain 91) false (any_name folder) × (slash_chars (any_name folder) ≡ 0)
name_slashes true =
    let star : Ch = record { byte = 42; escaped = false } in (
      each_one (is_plain 91) false (record { byte = 63; escaped = false }) (star ∷ []) refl
          (each_one (is_plain 91) false star [] refl (each_none (is_plain 91) false)),
      refl,
    )
name_slashes false = (each_none (is_plain 91) false, refl)

pub path_slashes : (path : List Ch) (arguments : Option (List Ch)) (command given : List ℕ)
    → Each (is_plain 91) false path → command_fits (Command path arguments) command given ≡ true
    → slashes command ≡ slash_chars path
unfolding command_fits
path_slashes path arguments command given none h =
    let name = name_slashes (is_folder_path path) in
    let fit : fits (parts (path_chars path)) command Not ≡ true =
    and_first (fits (parts (path_chars path)) command Not) (arguments_fit (arguments_slash path) arguments given) h in
    let whole : slash_chars (path_chars path) ≡ slash_chars path + slash_chars (any_name (is_folder_path path)) =
    sum_by-append (λ c. cond (is_byte 47 c) 1 0) path (any_name (is_folder_path path)) in
    let more : slash_chars path + slash_chars (any_name (is_folder_path path)) ≡ slash_chars path =
    ap (λ n. slash_chars path + n) name.1 ∙ plus_none (slash_chars path) in
    count_slashes (parts (path_chars path)) command fit
    ∙ parts_slashes (path_chars path) (each_both (is_plain 91) false path (any_name (is_folder_path path)) none name.0) ∙ whole ∙ more
  where
    plus_none : (n : ℕ) → n + 0 ≡ n
    plus_none n = omega arith
