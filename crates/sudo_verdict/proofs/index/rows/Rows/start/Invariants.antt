use Rattle.std.proofs.Common.{◌≡◌, ℕ, ◌*◌, ◌<◌, Some, Vec, Global}
use Rattle.std.specs.Prelude.{slice_get}
use Rattle.sudo_verdict.specs.Postings.{bit}
use Rattle.sudo_verdict.proofs.index.rows.Rows.start.Given as goal

abbrev pub invariant-loop-row : goal.invariant-loop-row
invariant-loop-row l = (k : ℕ) → k < l.row-index → (row : Vec ℕ Global) → slice_get l.self.rows.items k ≡ Some row
    → (i : ℕ) → i < 64 * l.start → bit row.items i ≡ 0
