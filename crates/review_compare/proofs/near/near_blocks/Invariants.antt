use Rattle.std.proofs.Common.{◌≡◌, ◌≤◌, length}
use Rattle.std.specs.Prelude.{filter}
use Rattle.std.specs.List.{range_with_len}
use Rattle.review_compare.specs.Body.Chosen.{deciders_at}
use Rattle.review_compare.specs.Body.Near.{has_near}
use Rattle.review_compare.specs.Body.Shown.{all_shown}
use Rattle.review_compare.proofs.near.near_blocks.Given as goal

abbrev pub invariant-loop-index : goal.invariant-loop-index
invariant-loop-index l =
    (l.near.items ≡ filter (λ i. has_near (all_shown l.changed) (deciders_at l.blocks i)) (range_with_len 0 l.index))
    × (l.index ≤ length l.blocks)
