use Rattle.std.proofs.Common.{◌≡◌, ◌++◌, drop, map}
use Rattle.audit_commands.proofs.audit.names_of.Given as goal

abbrev pub invariant-loop-source : goal.invariant-loop-source
invariant-loop-source g l = l.names.items ++ map (λ s. s.name) (drop l.source-index l.sources) ≡ map (λ s. s.name) l.sources
