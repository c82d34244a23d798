use Rattle.std.proofs.Common.{◌≡◌, ◌++◌, ◌∙◌, [], ◌∷◌, List, Some, ap, cond, not, sym, ℕ}
use Rattle.review_roots.specs.Body.Unnamed.{named_indices, unnamed_at, unnamed_if, unnamed_indices}
use Rattle.review_roots.proofs.LoopLemmas.{there}
use Rattle.review_roots.proofs.MemberLemmas.{filter-range}
use Rattle.review_roots.proofs.unnamed.split_groups.Goals as goal

pub loop-index-preserved : goal.loop-index-preserved
loop-index-preserved c =
    let ids = c.args.ids.now in
    let groups = c.args.groups.now in
    let n = c.loop-index.index in
    let g = c.index-groups-index.result in
    let is : unnamed_at ids groups n ≡ c.is_unnamed-is_unnamed.result =
    ap (unnamed_if ids) (there groups n g c.loop-index-test.true ∙ ap Some (sym c.index-groups-index.is))
    ∙ sym c.is_unnamed-is_unnamed.ensures in
    record {
      named = c.in_ok-push_if.ensures
          ∙ ap (λ (xs : List ℕ). xs ++ cond (not c.is_unnamed-is_unnamed.result) (n ∷ []) []) c.loop-index.invariant.named
          ∙ ap (λ b. named_indices ids groups n ++ cond (not b) (n ∷ []) []) (sym is)
          ∙ sym (filter-range (λ i. not (unnamed_at ids groups i)) n);
      unnamed = c.in_ok-push_if-2.ensures
          ∙ ap (λ (xs : List ℕ). xs ++ cond c.is_unnamed-is_unnamed.result (n ∷ []) []) c.loop-index.invariant.unnamed
          ∙ ap (λ b. unnamed_indices ids groups n ++ cond b (n ∷ []) []) (sym is)
          ∙ sym (filter-range (unnamed_at ids groups) n);
    }
