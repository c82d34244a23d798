use Rattle.std.proofs.Common.{ℕ, ◌≡◌, ◌<◌, ◌≤◌, length, get_or, bit_or}
use Rattle.sudo_verdict.proofs.index.rows.or_words.Given as goal

-- the words before the index have the others' bits, and the rest are as they were
abbrev pub invariant-loop-index : goal.invariant-loop-index
invariant-loop-index l = record {
  count : length l.block ≡ length l.initial.block;
  before : (k : ℕ) → k < l.index → get_or l.block k 0 ≡ bit_or (get_or l.initial.block k 0) (get_or l.words k 0);
  after : (k : ℕ) → l.index ≤ k → get_or l.block k 0 ≡ get_or l.initial.block k 0;
}
