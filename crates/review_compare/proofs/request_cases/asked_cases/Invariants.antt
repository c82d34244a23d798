use Rattle.std.proofs.Common.{◌≡◌, drop, flat_map}
use Rattle.review_compare.specs.Blocks.{standing}
use Rattle.review_compare.specs.Cases.{no_cases, with_rows}
use Rattle.review_compare.specs.Body.Asked.{asked_by, shown_cases}
use Rattle.review_compare.proofs.request_cases.asked_cases.Given as goal

-- with the blocks that are left, the cases are those with all
abbrev pub invariant-loop-block : goal.invariant-loop-block
invariant-loop-block l =
    with_rows l.command l.arguments (shown_cases l.cases)
    (flat_map (standing l.checked (asked_by l.directory l.asker)) (drop l.block-index l.blocks))
    ≡ with_rows l.command l.arguments no_cases
    (flat_map (standing l.checked (asked_by l.directory l.asker)) l.blocks)
