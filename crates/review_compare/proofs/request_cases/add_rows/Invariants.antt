use Rattle.std.proofs.Common.{◌≡◌, drop, map}
use Rattle.review_compare.specs.Blocks.{block_decider}
use Rattle.review_compare.specs.Cases.{with_rows}
use Rattle.review_compare.specs.Body.Asked.{shown_cases}
use Rattle.review_compare.specs.Body.Chosen.{deciders_of}
use Rattle.review_compare.proofs.request_cases.add_rows.Given as goal

-- with the rows that are left, the cases are those with all
abbrev pub invariant-loop-row : goal.invariant-loop-row
invariant-loop-row l =
    with_rows l.command l.arguments (shown_cases l.cases) (map (block_decider l.block) (drop l.row-index l.block.rows.items))
    ≡ with_rows l.command l.arguments (shown_cases l.initial.cases) (deciders_of l.block)
