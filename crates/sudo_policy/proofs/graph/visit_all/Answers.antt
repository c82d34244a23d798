use Rattle.std.proofs.Common.{arith}
use Rattle.sudo_policy.proofs.StateLemmas.{VisitedTo-next, within_get}
use Rattle.sudo_policy.proofs.graph.visit_all.Goals as goal

pub loop-node-preserved : goal.loop-node-preserved
loop-node-preserved c =
    VisitedTo-next c.args.links.now c.loop-node.states c.visit_new.new.states c.loop-node.node c.visit_new.auto.states
    c.loop-node.invariant c.in_ok-visit_new.ensures.holds c.in_ok-visit_new.ensures.turned c.in_ok-visit_new.ensures.settled

pub returns-clause-settled : goal.returns-clause-settled
returns-clause-settled c i s at =
    let inside = within_get c.loop-node.states i s at in
    let past = c.loop-node-test.false in
    let long = c.loop-node.auto.states in
    c.loop-node.invariant.settled i s (omega (arith, inside, past, long)) at
