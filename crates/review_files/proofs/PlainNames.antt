-- Names of a path have no slash.
use Rattle.std.proofs.Common.{◌≡◌, ℕ, Bool, true, false, List, [], ◌∷◌, length, take, refl, ◌∙◌, ap, cond}
use Rattle.std.specs.Prelude.{◌==◌, not, ◌&&◌, ◌||◌}
use Rattle.std.specs.List.{list_any, take_while}
use Rattle.std.proofs.lemmas.List.Sums.{take_while-cons}
use Rattle.review_files.specs.Paths.{first_name, is_parent, is_plain, is_same}

-- the front of a text up to its first slash has none
none_before : (path : List ℕ) → list_any (λ b. b == 47) (take (length (take_while (λ b. not (b == 47)) path)) path) ≡ false
none_before [] = refl
none_before (b ∷ bs) =
    let more = none_before bs in
    let P : List ℕ → Type 0 = λ xs. list_any (λ c. c == 47) (take (length xs) (b ∷ bs)) ≡ false in
    let go : (t : Bool) → b == 47 ≡ t
    → list_any (λ c. c == 47) (take (length (cond (not t) (b ∷ take_while (λ c. not (c == 47)) bs) [])) (b ∷ bs)) ≡ false =
    λ t. elim t as (λ t. b == 47 ≡ t
    → list_any (λ c. c == 47) (take (length (cond (not t) (b ∷ take_while (λ c. not (c == 47)) bs) [])) (b ∷ bs)) ≡ false) [
      | true ↦ λ e. refl
      | false ↦ λ e. ap (λ t. t || list_any (λ c. c == 47) (take (length (take_while (λ c. not (c == 47)) bs)) bs)) e ∙ more
    ] in
    ap (λ xs. list_any (λ c. c == 47) (take (length xs) (b ∷ bs))) (take_while-cons (λ c. not (c == 47)) b bs) ∙ go (b == 47) refl

-- a first name that leads neither to its own folder nor to the one above is plain
pub first_name-plain : (path : List ℕ) → is_same (first_name path) ≡ false → is_parent (first_name path) ≡ false
    → is_plain (first_name path) ≡ true
first_name-plain path same parent =
    ap (λ t. not t && (not (is_parent (first_name path)) && not (list_any (λ b. b == 47) (first_name path)))) same
    ∙ ap (λ t. not t && not (list_any (λ b. b == 47) (first_name path))) parent
    ∙ ap not (none_before path)
