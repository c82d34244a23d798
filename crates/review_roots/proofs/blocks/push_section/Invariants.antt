use Rattle.std.proofs.Common.{◌≡◌, ◌++◌, IsTrue, flat_map, map, take}
use Rattle.std.specs.List.{enumerate_from, list_all}
use Rattle.sudo_verdict.specs.Grants.{place_grants}
use Rattle.review_roots.specs.Blocks.{block_resolves, block_rows, row_of}
use Rattle.review_roots.specs.Body.Heads.{IsInForce}
use Rattle.review_roots.proofs.blocks.push_section.Given as goal

abbrev pub invariant-loop-spec : goal.invariant-loop-spec
invariant-loop-spec l = record {
  in_force : IsInForce (take l.spec-index l.section.commands) l.in_force;
  rows : flat_map block_rows l.blocks.items ≡ flat_map block_rows l.initial.blocks.items
      ++ map (row_of l.checked) (flat_map (place_grants l.checked l.head.place l.head.users.now l.section)
      (take l.spec-index (enumerate_from 0 l.section.commands)));
  resolve : IsTrue (list_all (block_resolves l.checked) l.initial.blocks.items)
      → IsTrue (list_all (block_resolves l.checked) l.blocks.items);
}
