use Rattle.std.proofs.Common.{Global, Vec}
use Rattle.std.proofs.lemmas.Result.{IfOk-weaker}
use Rattle.review_compare.specs.declared.row.Row.{Row}
use Rattle.review_compare.proofs.row.merged.Goals as goal

pub returns : goal.returns
returns c = IfOk-weaker c.grouped.result _ _
    (λ (rows : Vec Row Global) are.
    record { ordered = c.in_ok-ordered.ordered.items; are_ordered = c.in_ok-ordered.ensures; are_grouped = are })
    c.grouped.ensures
