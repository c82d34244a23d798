use Rattle.std.proofs.Common.{◌≡◌, drop, flat_map, option_copied}
use Rattle.review_roots.specs.Asked.{nothing}
use Rattle.review_roots.specs.Blocks.{with_rows}
use Rattle.review_roots.proofs.LoopLemmas.{asked_part}
use Rattle.review_roots.proofs.host.HostSteps.asked.Given as goal

-- the blocks that are left lead from what is given so far to what all give
abbrev pub invariant-loop-index : goal.invariant-loop-index
invariant-loop-index l =
    with_rows l.given (flat_map (asked_part l.self l.candidate (option_copied l.target) (option_copied l.group))
    (drop l.index-index l.candidate.listed.items))
    ≡ with_rows nothing (flat_map (asked_part l.self l.candidate (option_copied l.target) (option_copied l.group))
    l.candidate.listed.items)
