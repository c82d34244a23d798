use Rattle.std.proofs.Common.{◌++◌, ◌∙◌, List, ap, append-nil, arith, sym}
use Rattle.sudo_base.proofs.Options.{on_ok}
use Rattle.review_compare.specs.Cells.{Decider}
use Rattle.review_compare.specs.Body.Shown.{all_shown}
use Rattle.review_compare.proofs.ChosenLemmas.{deciders-there, deciders-past}
use Rattle.review_compare.proofs.side.push_at.Goals as goal

pub returns-then-index-blocks : goal.returns-then-index-blocks
returns-then-index-blocks c =
    on_ok c.push_rows.result
    (λ more. more ∙ ap (λ (ds : List Decider). all_shown c.args.rows.now.items ++ ds)
    (sym (deciders-there c.args.blocks.now c.args.index c.index-blocks-index.result c.if-index-blocks.true c.index-blocks-index.is)))
    c.push_rows.ensures

pub returns-else-index-blocks : goal.returns-else-index-blocks
returns-else-index-blocks c =
    sym (ap (λ (ds : List Decider). all_shown c.args.rows.now.items ++ ds) (deciders-past c.args.blocks.now c.args.index (omega
    (arith, c.if-index-blocks.false)))
    ∙ append-nil (all_shown c.args.rows.now.items))
