use Rattle.std.proofs.lemmas.Result.{IfOk-weaker}
use Rattle.review_compare.proofs.UnchangedLemmas.{none-same, runas-same}
use Rattle.review_compare.proofs.common.allow_alike.Goals as goal

pub returns-in-None-None : goal.returns-in-None-None
returns-in-None-None c = λ e q.
    rw (c.in-None-None.is-0, c.in-None-None.is-1) (none-same c.args.old.now c.args.new.now q)

pub returns-in-Some-Some : goal.returns-in-Some-Some
returns-in-Some-Some c =
    IfOk-weaker c.are_parts_alike.result _ _
    (λ alike same e q. rw (c.in-Some-Some.is-0, c.in-Some-Some.is-1)
    (runas-same c.args.old.now c.args.new.now c.in-Some-Some.runas.now c.in-Some-Some.other.now (same e) q))
    c.are_parts_alike.ensures
