use Rattle.std.proofs.Common.{◌≡◌, ◌++◌, drop}
use Rattle.review_cautions.specs.Body.UnusedNames.{marks_of}
use Rattle.review_cautions.proofs.uses.marks_of.Given as goal

abbrev pub invariant-loop-entry : goal.invariant-loop-entry
invariant-loop-entry l = l.marks.items ++ marks_of l.unused (drop l.entry-index l.entries) ≡ marks_of l.unused l.entries
