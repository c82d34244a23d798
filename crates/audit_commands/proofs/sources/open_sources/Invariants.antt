use Rattle.std.proofs.Common.{map, take}
use Rattle.audit_commands.specs.Opening.{AreOpened}
use Rattle.audit_commands.proofs.sources.open_sources.Given as goal

abbrev pub invariant-loop-name : goal.invariant-loop-name
invariant-loop-name g l = AreOpened (g.O.Opener.opens l.opener)
    (take l.name-index (map (λ p. (p.0.now, p.1.now)) l.senders)) l.sources.items
