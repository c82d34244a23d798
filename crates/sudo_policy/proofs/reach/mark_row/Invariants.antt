use Rattle.std.proofs.Common.{take}
use Rattle.sudo_policy.specs.Body.Marking.{MarksRow}
use Rattle.sudo_policy.proofs.reach.mark_row.Given as goal

abbrev pub invariant-loop-link : goal.invariant-loop-link
invariant-loop-link l = MarksRow (take l.link-index l.row) l.initial.marks l.initial.work.items l.marks l.work.items
