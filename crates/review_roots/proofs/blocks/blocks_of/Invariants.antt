use Rattle.std.proofs.Common.{◌≡◌, IsTrue, flat_map, map, take}
use Rattle.std.specs.List.{list_all}
use Rattle.sudo_verdict.specs.Grants.{entry_grants}
use Rattle.review_roots.specs.Blocks.{block_resolves, block_rows, row_of}
use Rattle.review_roots.proofs.blocks.blocks_of.Given as goal

abbrev pub invariant-loop-entry : goal.invariant-loop-entry
invariant-loop-entry l = record {
  rows : flat_map block_rows l.blocks.items ≡ map (row_of l.checked)
      (flat_map (entry_grants l.checked) (take l.entry-index l.checked.entries));
  resolve : IsTrue (list_all (block_resolves l.checked) l.blocks.items);
}
