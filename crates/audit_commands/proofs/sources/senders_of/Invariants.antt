use Rattle.std.proofs.Common.{map, take}
use Rattle.audit_commands.specs.Opening.{AreSenders}
use Rattle.audit_commands.proofs.sources.senders_of.Given as goal

abbrev pub invariant-loop-word : goal.invariant-loop-word
invariant-loop-word l = AreSenders (take l.word-index (map (λ w. w.now) l.words)) (map (λ p. (p.0.now, p.1.now)) l.senders.items)
