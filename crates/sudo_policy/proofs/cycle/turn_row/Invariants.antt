use Rattle.std.proofs.Common.{take}
use Rattle.sudo_policy.specs.Body.Marking.{ReversesRow}
use Rattle.sudo_policy.proofs.cycle.turn_row.Given as goal

abbrev pub invariant-loop-link : goal.invariant-loop-link
invariant-loop-link l = ReversesRow l.from (take l.link-index l.row) l.initial.back l.back
