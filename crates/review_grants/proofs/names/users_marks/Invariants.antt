use Rattle.std.proofs.Common.{◌≡◌, map, take}
use Rattle.sudo_verdict.specs.Values.{user_allowed}
use Rattle.review_grants.proofs.names.users_marks.Given as goal

abbrev pub invariant-loop-person : goal.invariant-loop-person
invariant-loop-person l = l.marks.items ≡ map (user_allowed l.checked l.users) (take l.person-index l.people)
