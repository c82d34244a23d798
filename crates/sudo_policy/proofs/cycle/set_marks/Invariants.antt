use Rattle.std.proofs.Common.{take}
use Rattle.sudo_policy.specs.Body.Marking.{AreSet}
use Rattle.sudo_policy.proofs.cycle.set_marks.Given as goal

abbrev pub invariant-loop-alias : goal.invariant-loop-alias
invariant-loop-alias l = AreSet l.mark (take l.alias-index l.aliases) l.initial.marks l.marks
