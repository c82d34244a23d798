use Rattle.std.proofs.Common.{List, subst}
use Rattle.review_compare.specs.declared.cell.Ask.{Ask}
use Rattle.review_compare.proofs.BriefLemmas.{IsBriefSoFar, brief-more}
use Rattle.review_compare.proofs.brief.brief_asks.Goals as goal

pub loop-left-preserved : goal.loop-left-preserved
loop-left-preserved c =
    let p = c.args.pair.now in
    let asks = c.args.asks.now in
    let run = c.split_at.result.0.now in
    let rest = c.split_at.result.1.now in
    brief-more p asks run rest c.loop-left.brief.items c.push_run.new.brief.items
    (subst (λ (xs : List Ask). IsBriefSoFar p asks xs c.loop-left.brief.items) c.split_at.ensures.by_index.0 c.loop-left.invariant)
    c.in_ok-push_run.ensures
