use Rattle.std.proofs.Common.{◌≡◌, ℕ, true, length}
use Rattle.std.specs.List.{list_all}
use Rattle.sudo_verdict.specs.Body.Blocks.{IsMissed}
use Rattle.sudo_verdict.specs.Postings.{is_in_row, misses_user}
use Rattle.sudo_verdict.specs.Numbers.{lacks_group}
use Rattle.sudo_verdict.proofs.index.request_numbers.RequestNumbers.add_user.Given as goal

-- a rule in no row of the list that stands in no row of the groups left stands in no row of the user
abbrev pub invariant-loop-group : goal.invariant-loop-group
invariant-loop-group l =
    (rule : ℕ) → IsMissed l.rows.rows.items l.self.users rule
    → list_all (lacks_group (λ n. is_in_row l.rows.rows.items n rule)) l.left ≡ true
    → misses_user l.rows.rows.items rule l.user ≡ true

abbrev pub decreases-loop-group : goal.decreases-loop-group
decreases-loop-group l = length l.left
