use Rattle.std.proofs.Common.{ℕ, ◌≡◌, ◌+◌, ◌-◌, ◌/◌, length}
use Rattle.sudo_verdict.specs.Postings.{bit}
use Rattle.sudo_verdict.proofs.index.rows.post_in.Given as goal

abbrev pub invariant-loop-row : goal.invariant-loop-row
invariant-loop-row l = (other : ℕ) → bit l.initial.row.items other ≡ 1 → bit l.row.items other ≡ 1

abbrev pub decreases-loop-row : goal.decreases-loop-row
decreases-loop-row l = l.rule / 64 + 1 - length l.row.items
