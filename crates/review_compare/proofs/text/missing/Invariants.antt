use Rattle.std.proofs.Common.{◌≡◌, ◌≤◌, length}
use Rattle.review_compare.specs.Table.{missing}
use Rattle.review_compare.proofs.text.missing.Given as goal

abbrev pub invariant-loop-index : goal.invariant-loop-index
invariant-loop-index l = (l.missing.items ≡ missing l.index l.numbers) × (l.index ≤ length l.marks.items)
