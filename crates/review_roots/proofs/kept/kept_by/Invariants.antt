use Rattle.std.proofs.Common.{◌≡◌, ◌++◌, None, flat_map, length, option_copied}
use Rattle.std.specs.List.{range_with_len}
use Rattle.review_roots.specs.States.{states_with}
use Rattle.review_roots.specs.Body.Kept.{kept_at, named_for, unnamed_for}
use Rattle.review_roots.proofs.kept.kept_by.Given as goal

abbrev pub invariant-loop-user : goal.invariant-loop-user
invariant-loop-user l =
    l.states.items
    ≡ states_with (length l.directory.people) None
    ++ flat_map (kept_at l.directory l.groups (named_for (option_copied l.name) l.own l.others)
    (unnamed_for (option_copied l.name) l.own l.others)) (range_with_len 0 l.user)
