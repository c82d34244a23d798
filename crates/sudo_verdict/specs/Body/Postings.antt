-- The rows of an index of rules. Only proofs of bodies use these.
use Rattle.std.specs.Prelude.{◌≡◌, ℕ, true}
use Rattle.sudo_verdict.specs.Postings.{Rows, is_in_row}

-- each rule that the old rows have under a number, the new rows have under it too
abbrev pub Grows : Rows → Rows → Type 0
Grows old new = (number rule : ℕ) → is_in_row old number rule ≡ true → is_in_row new number rule ≡ true
