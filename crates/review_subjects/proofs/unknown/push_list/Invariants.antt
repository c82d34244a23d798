use Rattle.std.proofs.Common.{◌≡◌, ◌++◌, drop}
use Rattle.review_subjects.specs.Unknown.{list_subjects}
use Rattle.review_subjects.proofs.unknown.push_list.Given as goal

abbrev pub invariant-loop-member : goal.invariant-loop-member
invariant-loop-member l =
    l.found.items ++ list_subjects l.directory l.place l.role (drop l.member-index l.members)
    ≡ l.initial.found.items ++ list_subjects l.directory l.place l.role l.members
