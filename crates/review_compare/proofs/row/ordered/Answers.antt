use Rattle.std.proofs.Common.{◌++◌, ◌∷◌, [], List, subst, sym}
use Rattle.review_compare.specs.declared.row.Row.{Row}
use Rattle.review_compare.specs.Body.Merged.{AreOrdered}
use Rattle.review_compare.proofs.SpotLemmas.{ordered-more}
use Rattle.review_compare.proofs.row.ordered.Goals as goal

pub loop-row-preserved : goal.loop-row-preserved
loop-row-preserved c =
    subst (λ (rows : List Row). AreOrdered (c.loop-row.yielded ++ c.in-Some.row ∷ []) rows) (sym c.in_ok-push.ensures.items)
    (ordered-more c.loop-row.yielded c.loop-row.ordered.items c.in-Some.row _ c.loop-row.invariant c.in_ok-ordered_row.ensures)
