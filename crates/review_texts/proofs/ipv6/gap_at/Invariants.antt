use Rattle.std.proofs.Common.{◌≡◌, ◌+◌, length}
use Rattle.review_texts.specs.Ipv6.{gap_at as the_gap}
use Rattle.review_texts.proofs.ipv6.gap_at.Given as goal

abbrev pub invariant-loop-rest : goal.invariant-loop-rest
invariant-loop-rest l = record {
  gap : l.at + the_gap l.left ≡ the_gap l.fn.text;
  whole : l.at + length l.left ≡ length l.fn.text;
}

abbrev pub decreases-loop-rest : goal.decreases-loop-rest
decreases-loop-rest l = length l.left
