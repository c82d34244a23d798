use Rattle.std.proofs.Common.{◌∙◌, arith, sym}
use Rattle.review_roots.proofs.SettledLemmas.{settled-drop}
use Rattle.review_roots.proofs.host.HostSteps.settled_from.Goals as goal

pub returns-then-settles_at-clause-same : goal.returns-then-settles_at-clause-same
returns-then-settles_at-clause-same c =
    settled-drop c.args.self.now.on.items c.args.toward.now.allowed.items c.args.self.now.blocks.now c.args.listed.now _ _
    (omega (arith, c.loop-at-test.true, c.loop-at.invariant)) (sym c.settles_at.ensures ∙ c.if-settles_at.true)
