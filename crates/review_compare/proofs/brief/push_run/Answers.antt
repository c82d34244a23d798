use Rattle.std.proofs.Common.{List, subst}
use Rattle.sudo_base.proofs.Options.{on_ok}
use Rattle.review_compare.specs.declared.cell.Ask.{Ask}
use Rattle.review_compare.specs.Body.AskClasses.{AddsAsks}
use Rattle.review_compare.proofs.BriefLemmas.{run-added}
use Rattle.review_compare.proofs.brief.push_run.Goals as goal

pub returns-in_ok-push_each-in-Some : goal.returns-in_ok-push_each-in-Some
returns-in_ok-push_each-in-Some c =
    let p = c.args.pair.now in
    let mid = c.push_each-in-Some.new.brief.items in
    on_ok c.push_target.result
    (λ told. run-added p c.args.brief.now.items mid c.push_target.new.asked.items c.args.target c.in-Some.groups c.args.run.now
    c.in_ok-left-in-Some.left.items c.in-Some.ensures c.in_ok-left-in-Some.ensures
    (subst (λ (xs : List Ask). AddsAsks p c.args.brief.now.items xs mid) c.deref.ensures.value c.in_ok-push_each-in-Some.ensures) told)
    c.push_target.ensures
