use Rattle.std.proofs.Common.{◌≡◌, true, take}
use Rattle.sudo_verdict.specs.Body.NumberSets.{has_marks}
use Rattle.sudo_verdict.proofs.index.number_set.MarkSet.of_groups.Given as goal

-- the set has the marks of the groups before the index
abbrev pub invariant-loop-group : goal.invariant-loop-group
invariant-loop-group l = has_marks l.marks.words (take l.group-index l.groups) ≡ true
