use Rattle.std.proofs.Common.{◌≡◌, ◌++◌, IsTrue, flat_map, map, take}
use Rattle.std.specs.List.{enumerate_from, list_all}
use Rattle.sudo_verdict.specs.Grants.{place_grants}
use Rattle.review_compare.specs.Blocks.{block_resolves, block_wides}
use Rattle.review_compare.specs.Cells.{wide_of}
use Rattle.review_compare.specs.Body.Heads.{IsInForce}
use Rattle.review_compare.proofs.block.push_section.Given as goal

abbrev pub invariant-loop-spec : goal.invariant-loop-spec
invariant-loop-spec l = record {
  in_force : IsInForce (take l.spec-index l.section.commands) l.in_force;
  rows : flat_map block_wides l.blocks.items ≡ flat_map block_wides l.initial.blocks.items
      ++ map wide_of (flat_map (place_grants l.checked l.fn.place l.users l.section)
      (take l.spec-index (enumerate_from 0 l.section.commands)));
  resolve : IsTrue (list_all (block_resolves l.checked) l.initial.blocks.items)
      → IsTrue (list_all (block_resolves l.checked) l.blocks.items);
}
