use Rattle.std.proofs.Common.{take}
use Rattle.review_compare.specs.Body.Near.{AreParts}
use Rattle.review_compare.specs.Body.Shown.{all_shown}
use Rattle.review_compare.proofs.near.near_parts.Given as goal

abbrev pub invariant-loop-block : goal.invariant-loop-block
invariant-loop-block l = AreParts (all_shown l.changed) (take l.block-index l.blocks) l.parts.items
