use Rattle.std.proofs.Common.{◌≡◌, false, take}
use Rattle.std.specs.Prelude.{◌==◌}
use Rattle.std.specs.List.{list_any}
use Rattle.sudo_verdict.proofs.decision.short_length.Given as goal

-- no byte before the index is a dot
abbrev pub invariant-loop-index : goal.invariant-loop-index
invariant-loop-index l = list_any (λ b. b == 46) (take l.index l.name) ≡ false
