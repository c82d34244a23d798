use Rattle.std.proofs.Common.{sym}
use Rattle.review_compare.proofs.CaseSteps.{shown-differ}
use Rattle.review_compare.proofs.cases.are_same_rows.Goals as goal

pub returns-then-rows-others : goal.returns-then-rows-others
returns-then-rows-others c = sym (shown-differ c.args.rows.now c.args.others.now c.if-rows-others.true)
