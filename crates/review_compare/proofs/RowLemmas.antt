-- Rows that answer the same, one by one.
use Rattle.std.proofs.Common.{◌≡◌, ◌<◌, ◌+◌, ◌∙◌, ℕ, List, [], ◌∷◌, ◌++◌, ap, get_or, length, map, sym, take}
use Rattle.std.specs.Prelude.{Option}
use Rattle.std.proofs.lemmas.List.{map-append}
use Rattle.sudo_match.specs.declared.request.Tags.{Tags}
use Rattle.review_grants.proofs.ListSteps.{take-more, map-twice}
use Rattle.review_compare.specs.declared.ruling.Ruled.{Ruled}
use Rattle.review_compare.specs.Agreement.{Ruling}
use Rattle.review_compare.specs.Cells.{ruling_by}
use Rattle.review_compare.specs.Lines.{Lined}
use Rattle.review_compare.specs.Witnesses.{RowsSaySame}
use Rattle.review_compare.specs.Body.Shown.{all_shown, ruling_of, shown}
use Rattle.review_compare.proofs.CellLemmas.{rulings-say-same}

one-further : (rs : List Ruled) (i : ℕ) (r : Ruled) → i < length rs → r ≡ get_or rs i r →
    map ruling_of (take (i + 1) rs) ≡ map ruling_of (take i rs) ++ ruling_of r ∷ []
one-further rs i r less is = ap (map ruling_of) (take-more rs i r less is) ∙ map-append ruling_of (take i rs) (r ∷ [])

pub rulings-more :
    (rs ss : List Ruled) (i : ℕ) (r s : Ruled) → i < length rs → i < length ss → r ≡ get_or rs i r → s ≡ get_or ss i s →
    ruling_of r ≡ ruling_of s → map ruling_of (take i rs) ≡ map ruling_of (take i ss) →
    map ruling_of (take (i + 1) rs) ≡ map ruling_of (take (i + 1) ss)
rulings-more rs ss i r s less within is at same so_far =
    one-further rs i r less is
    ∙ ap (λ (xs : List (Ruling Lined (Option Tags))). xs ++ ruling_of r ∷ []) so_far
    ∙ ap (λ (x : Ruling Lined (Option Tags)). map ruling_of (take i ss) ++ x ∷ []) same
    ∙ sym (one-further ss i s within at)

pub same-rulings : (rs ss : List Ruled) → map ruling_of rs ≡ map ruling_of ss → RowsSaySame (all_shown rs) (all_shown ss)
same-rulings rs ss e =
    rulings-say-same (all_shown rs) (all_shown ss)
    (map-twice ruling_by shown rs ∙ e ∙ sym (map-twice ruling_by shown ss))
