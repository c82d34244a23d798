use Rattle.sudo_verdict.proofs.RememberedDecisions.{empty-slots}
use Rattle.std.proofs.Common.{sym}
use Rattle.sudo_verdict.proofs.ListDecisions.{passed-silent}
use Rattle.sudo_verdict.proofs.decision.decide_one.Goals as goal

pub decide_member-requires-in-Some-clause-recalls : goal.decide_member-requires-in-Some-clause-recalls
decide_member-requires-in-Some-clause-recalls g c name n ds o e f is = absurd (empty-slots 4096 n o f)

pub returns-then-misses : goal.returns-then-misses
returns-then-misses g c =
    sym (passed-silent c.args.kind c.args.lists.checked.now (g.S.Subject.fits c.args.subject.now) c.args.key.now
    c.args.member.now c.requires.key (c.misses.ensures c.if-misses.true))
