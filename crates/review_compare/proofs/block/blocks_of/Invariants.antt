use Rattle.std.proofs.Common.{◌≡◌, IsTrue, flat_map, map, take}
use Rattle.std.specs.List.{list_all}
use Rattle.sudo_verdict.specs.Grants.{entry_grants}
use Rattle.review_compare.specs.Blocks.{block_resolves, block_wides}
use Rattle.review_compare.specs.Cells.{wide_of}
use Rattle.review_compare.proofs.block.blocks_of.Given as goal

abbrev pub invariant-loop-entry : goal.invariant-loop-entry
invariant-loop-entry l = record {
  rows : flat_map block_wides l.blocks.items
      ≡ map wide_of (flat_map (entry_grants l.checked) (take l.entry-index l.checked.entries));
  resolve : IsTrue (list_all (block_resolves l.checked) l.blocks.items);
}
