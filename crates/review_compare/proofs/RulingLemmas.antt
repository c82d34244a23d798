-- Rows at an index, and rows that one of two lists covers.
use Rattle.std.proofs.Common.{◌≡◌, ◌<◌, ◌+◌, ℕ, suc, Bool, ◌||◌, List, [], ◌∷◌, ◌++◌, map, drop, get_or, length, refl, sym, ◌∙◌, ap, arith}
use Rattle.std.specs.List.{list_any}
use Rattle.std.proofs.Math.Seq.{drop-cons}
use Rattle.std.proofs.lemmas.List.Folds.{list_any-append}
use Rattle.review_compare.specs.Cells.{Decider, covers_where, ruling_by}
use Rattle.review_compare.specs.Lines.{Lined}
use Rattle.review_compare.specs.Body.Shown.{is_covered_by, is_covered_by_either}

pub drop-at : {X : Type 0} (xs : List X) (i : ℕ) (x : X) → i < length xs → x ≡ get_or xs i x → drop i xs ≡ x ∷ drop (i + 1) xs
drop-at xs i x within is =
    drop-cons xs i x within ∙ ap (λ y. y ∷ drop (suc i) xs) (sym is)
    ∙ (let on : suc i ≡ i + 1 = omega arith in ap (λ n. x ∷ drop n xs) on)

pub list_any-map : {A B : Type 0} (g : B → Bool) (f : A → B) (xs : List A) → list_any g (map f xs) ≡ list_any (λ x. g (f x)) xs
list_any-map g f [] = refl
list_any-map g f (x ∷ xs) = ap (λ b. g (f x) || b) (list_any-map g f xs)

pub covered : (ds es : List Decider) (a : Lined) →
    list_any (λ k. covers_where k.atom a) (map ruling_by ds ++ map ruling_by es) ≡ is_covered_by_either ds es a
covered ds es a =
    list_any-append (λ k. covers_where k.atom a) (map ruling_by ds) (map ruling_by es)
    ∙ ap (λ b. b || list_any (λ k. covers_where k.atom a) (map ruling_by es)) (list_any-map (λ k. covers_where k.atom a) ruling_by ds)
    ∙ ap (λ b. is_covered_by ds a || b) (list_any-map (λ k. covers_where k.atom a) ruling_by es)
