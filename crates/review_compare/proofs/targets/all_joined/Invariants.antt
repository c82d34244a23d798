use Rattle.std.proofs.Common.{◌≡◌, take}
use Rattle.review_compare.specs.Differences.{targets_of}
use Rattle.review_compare.proofs.targets.all_joined.Given as goal

abbrev pub invariant-loop-each : goal.invariant-loop-each
invariant-loop-each l = targets_of l.all.items ≡ targets_of (take l.each-index l.targets)
