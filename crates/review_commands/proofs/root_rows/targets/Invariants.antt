use Rattle.std.proofs.Common.{◌≡◌, filter, slice_get}
use Rattle.std.specs.List.{range_with_len}
use Rattle.review_commands.specs.RootRows.{is_zero}
use Rattle.review_commands.proofs.root_rows.targets.Given as goal

-- the users so far with ID 0
abbrev pub invariant-loop-user : goal.invariant-loop-user
invariant-loop-user l = l.targets.items ≡ filter (λ i. is_zero (slice_get l.directory.people i)) (range_with_len 0 l.user)
