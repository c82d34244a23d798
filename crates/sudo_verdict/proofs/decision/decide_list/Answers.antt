use Rattle.sudo_verdict.proofs.RememberedDecisions.{empty-slots}
use Rattle.sudo_verdict.proofs.decision.decide_list.Goals as goal

pub decide-requires-in-Some-clause-recalls : goal.decide-requires-in-Some-clause-recalls
decide-requires-in-Some-clause-recalls g c name n ds o e f is = absurd (empty-slots 4096 n o f)
