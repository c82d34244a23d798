use Rattle.std.proofs.Common.{◌≡◌, suc, ◌+◌, ◌≤◌, length}
use Rattle.review_texts.specs.MaskedTexts.{front_lines}
use Rattle.review_texts.proofs.texts.front_len.Given as goal

abbrev pub invariant-loop-byte : goal.invariant-loop-byte
invariant-loop-byte l = record {
  within : length l.rest ≤ length l.fn.text;
  len : length (front_lines (suc l.fn.joins) l.fn.text) + length l.rest
      ≡ length l.fn.text + length (front_lines (suc l.left) l.rest);
}

abbrev pub decreases-loop-byte : goal.decreases-loop-byte
decreases-loop-byte l = length l.rest
