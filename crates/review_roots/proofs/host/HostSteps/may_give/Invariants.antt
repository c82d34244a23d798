use Rattle.std.proofs.Common.{◌≡◌, drop, fold}
use Rattle.review_roots.specs.Body.May.{may_at, may_nothing}
use Rattle.review_roots.proofs.host.HostSteps.may_give.Given as goal

-- the blocks that are left lead from what may be given so far to what all may give
abbrev pub invariant-loop-index : goal.invariant-loop-index
invariant-loop-index l =
    fold (may_at l.self.on.items l.self.blocks.now) l.may (drop l.index-index l.candidate.listed.items)
    ≡ fold (may_at l.self.on.items l.self.blocks.now) may_nothing l.candidate.listed.items
