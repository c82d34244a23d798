-- A token that is taken, and the tokens after it.
use Rattle.std.proofs.Common.{ℕ, ◌+◌, ◌<◌, ◌≡◌, List, ◌∷◌, length, drop, arith, sym, ◌∙◌}
use Rattle.std.proofs.lemmas.List.{drop_more, drop-set-lt}
use Rattle.std.specs.Prelude.{slice_index_or, slice_set}

pub taken_next : {X : Type 0} (xs : List X) (i : ℕ) (x y : X) → i < length xs → x ≡ slice_index_or xs i x
    → drop i xs ≡ x ∷ drop (i + 1) (slice_set xs i y)
taken_next xs i x y lt is =
    drop_more xs i x lt ∙ (λ k. sym is k ∷ sym (drop-set-lt (i + 1) xs i y (omega arith)) k)
