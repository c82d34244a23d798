use Rattle.std.proofs.Common.{◌≡◌, drop}
use Rattle.std.specs.List.{list_any}
use Rattle.sudo_verdict.specs.Values.{user_allowed}
use Rattle.review_subjects.proofs.reach.lists_some_user.Given as goal

abbrev pub invariant-loop-person : goal.invariant-loop-person
invariant-loop-person l =
    list_any (user_allowed l.checked l.users) (drop l.person-index l.people) ≡ list_any (user_allowed l.checked l.users) l.people
