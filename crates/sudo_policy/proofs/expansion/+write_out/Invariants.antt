use Rattle.std.proofs.Common.{drop}
use Rattle.sudo_policy.specs.Body.Resolving.{rank}
use Rattle.sudo_policy.proofs.WritingLemmas.{Along}
use Rattle.sudo_policy.proofs.expansion.+write_out.Given as goal

-- the depth of the list
abbrev pub decreases-write_out : goal.decreases-write_out
decreases-write_out l = rank l.kind l.checked.now l.members.now

abbrev pub invariant-loop-member : goal.invariant-loop-member
invariant-loop-member l = Along l.kind l.checked l.negate l.initial.atoms.items l.atoms.items l.members (drop l.member-index l.members)
