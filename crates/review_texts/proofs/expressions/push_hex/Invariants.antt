use Rattle.std.proofs.Common.{◌≡◌, ◌++◌, length}
use Rattle.review_texts.specs.Expressions.{hex_of}
use Rattle.review_texts.proofs.expressions.push_hex.Given as goal

abbrev pub invariant-loop-byte : goal.invariant-loop-byte
invariant-loop-byte l = l.text ++ hex_of l.left ≡ l.fn.text ++ hex_of l.fn.bytes

abbrev pub decreases-loop-byte : goal.decreases-loop-byte
decreases-loop-byte l = length l.left
