use Rattle.std.proofs.Common.{◌≡◌, length, false}
use Rattle.review_cautions.specs.EmptyGroups.{has_empty_group}
use Rattle.review_cautions.proofs.groups.finds_empty_group.Given as goal

abbrev pub invariant-loop-rest : goal.invariant-loop-rest
invariant-loop-rest l =
    has_empty_group l.escaped l.quoted l.opened l.rest l.next ≡ has_empty_group false false false l.line l.next

abbrev pub decreases-loop-rest : goal.decreases-loop-rest
decreases-loop-rest l = length l.rest
