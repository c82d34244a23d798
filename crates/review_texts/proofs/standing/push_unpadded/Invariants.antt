use Rattle.std.proofs.Common.{◌≡◌, ◌++◌, length}
use Rattle.std.specs.Prelude.{◌==◌, not, filter}
use Rattle.review_texts.proofs.standing.push_unpadded.Given as goal

abbrev pub invariant-loop-byte : goal.invariant-loop-byte
invariant-loop-byte l = l.text ++ filter (λ b. not (b == 61)) l.left ≡ l.fn.text ++ filter (λ b. not (b == 61)) l.fn.value

abbrev pub decreases-loop-byte : goal.decreases-loop-byte
decreases-loop-byte l = length l.left
