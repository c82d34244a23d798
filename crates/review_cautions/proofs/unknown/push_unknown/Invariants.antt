use Rattle.std.proofs.Common.{◌≡◌, ◌++◌, take}
use Rattle.review_cautions.specs.Cautions.{unknown_cautions}
use Rattle.review_cautions.proofs.unknown.push_unknown.Given as goal

abbrev pub invariant-loop-entry : goal.invariant-loop-entry
invariant-loop-entry l = l.found.items ≡ l.initial.found.items ++ unknown_cautions (take l.entry-index l.entries)
