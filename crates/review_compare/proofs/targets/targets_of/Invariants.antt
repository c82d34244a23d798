use Rattle.std.proofs.Common.{◌≡◌, take}
use Rattle.review_compare.specs.Differences.{targets_of}
use Rattle.review_compare.proofs.targets.targets_of.Given as goal

abbrev pub invariant-loop-each : goal.invariant-loop-each
invariant-loop-each l = l.targets.items ≡ targets_of (take l.each-index l.asked)
