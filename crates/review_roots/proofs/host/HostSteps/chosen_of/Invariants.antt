use Rattle.std.proofs.Common.{◌≡◌, drop, flat_map}
use Rattle.review_roots.specs.Asked.{nothing}
use Rattle.review_roots.specs.Blocks.{with_rows}
use Rattle.review_roots.specs.Body.Candidates.{both_at, part_at}
use Rattle.review_roots.proofs.host.HostSteps.chosen_of.Given as goal

-- the blocks that are left lead from what is given so far to what all give
abbrev pub invariant-loop-index : goal.invariant-loop-index
invariant-loop-index l =
    with_rows l.given (flat_map (part_at (λ i b. both_at l.self.on.items l.toward.allowed.items i) l.self.blocks.now)
    (drop l.index-index l.listed))
    ≡ with_rows nothing (flat_map (part_at (λ i b. both_at l.self.on.items l.toward.allowed.items i) l.self.blocks.now) l.listed)
