use Rattle.std.proofs.lemmas.Result.{IfOk-weaker}
use Rattle.review_compare.proofs.UnchangedLemmas.{stand-alike}
use Rattle.review_compare.proofs.common.stand_alike.Goals as goal

pub returns : goal.returns
returns c =
    IfOk-weaker c.allow_alike.result _ _
    (λ alike same e. stand-alike c.args.old.now c.args.new.now c.args.block.now c.args.other.now
    (c.in_ok-are_written_alike.ensures c.if-not-branch.false) (c.in_ok-are_written_alike-2.ensures c.if-not-branch-2.false) (same e))
    c.allow_alike.ensures
