use Rattle.std.proofs.Common.{◌≡◌, length}
use Rattle.sudo_verdict.specs.Keys.{Pairwise, HaveSectionKeys}
use Rattle.sudo_verdict.proofs.index.keys.sections_keys.Given as goal

abbrev pub invariant-loop-section : goal.invariant-loop-section
invariant-loop-section l = record {
  count : length l.keys.items ≡ l.section-index;
  have : Pairwise (HaveSectionKeys l.checked) l.keys.items l.sections;
}
