use Rattle.std.proofs.Common.{◌≡◌, IsTrue, drop, flat_map, take}
use Rattle.std.specs.List.{list_all}
use Rattle.sudo_grammar.specs.declared.policy.Policy.{Policy}
use Rattle.review_compare.specs.Blocks.{block_resolves, block_wides}
use Rattle.review_compare.specs.Cells.{lined}
use Rattle.review_compare.specs.Lines.{nowhere}
use Rattle.review_compare.specs.Body.LineAtoms.{IsWalk, line_behind}
use Rattle.review_compare.proofs.LineLemmas.{atoms_of}
use Rattle.review_compare.proofs.lines.walked_blocks.Given as goal

-- the blocks so far are those of the lines, and the walk is behind them
abbrev pub invariant-loop-block : goal.invariant-loop-block
invariant-loop-block l = record {
  walk : IsWalk l.walk (line_behind nowhere (flat_map block_wides (take l.block-index l.blocks)))
      (atoms_of (drop l.block-index l.blocks));
  rows : flat_map block_wides l.walked.items ≡ lined nowhere (flat_map block_wides (take l.block-index l.blocks));
  resolve : (p : Policy) → IsTrue (list_all (block_resolves p) l.blocks) → IsTrue (list_all (block_resolves p) l.walked.items);
}
