use Rattle.std.proofs.Common.{◌≡◌, ◌++◌, IsTrue, flat_map, map, take}
use Rattle.std.specs.List.{list_all}
use Rattle.sudo_verdict.specs.Grants.{section_grants}
use Rattle.review_compare.specs.Blocks.{block_resolves, block_wides}
use Rattle.review_compare.specs.Cells.{wide_of}
use Rattle.review_compare.proofs.block.push_sections.Given as goal

abbrev pub invariant-loop-section : goal.invariant-loop-section
invariant-loop-section l = record {
  rows : flat_map block_wides l.blocks.items ≡ flat_map block_wides l.initial.blocks.items
      ++ map wide_of (flat_map (section_grants l.checked l.place l.users) (take l.section-index l.sections));
  resolve : IsTrue (list_all (block_resolves l.checked) l.initial.blocks.items)
      → IsTrue (list_all (block_resolves l.checked) l.blocks.items);
}
