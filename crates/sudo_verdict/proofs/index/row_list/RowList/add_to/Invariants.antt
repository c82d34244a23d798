use Rattle.std.proofs.Common.{◌≡◌, ℕ, ◌+◌, ◌*◌, ◌<◌, false, length}
use Rattle.std.specs.List.{slice_index}
use Rattle.sudo_verdict.specs.Postings.{bit, is_in_row}
use Rattle.sudo_verdict.proofs.index.row_list.RowList.add_to.Given as goal

-- a rule without a bit is in none of the rows before the index
abbrev pub invariant-loop-index : goal.invariant-loop-index
invariant-loop-index l =
    (i : ℕ) → i < 64 * length l.block → bit l.block i ≡ 0 → (k : ℕ) → k < l.index
    → is_in_row l.rows.rows.items (slice_index l.self.numbers k) (64 * l.first + i) ≡ false
