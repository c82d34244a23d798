use Rattle.std.proofs.Common.{◌≡◌, false, length}
use Rattle.review_texts.specs.Hostnames.{are_labels as labels}
use Rattle.review_texts.proofs.hostnames.are_labels.Given as goal

abbrev pub invariant-loop-byte : goal.invariant-loop-byte
invariant-loop-byte l = labels false l.fn.name ≡ labels l.dotted l.left

abbrev pub decreases-loop-byte : goal.decreases-loop-byte
decreases-loop-byte l = length l.left
