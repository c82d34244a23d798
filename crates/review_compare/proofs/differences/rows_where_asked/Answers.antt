use Rattle.std.proofs.Common.{[], Global, List, Vec, option_copied, subst}
use Rattle.std.proofs.lemmas.Result.{IfOk-weaker}
use Rattle.review_compare.specs.declared.cell.Ask.{Ask}
use Rattle.review_compare.specs.declared.row.Row.{Row}
use Rattle.review_compare.specs.Body.Progress.{AreLeftForAll, IsAsked, Progress}
use Rattle.review_compare.proofs.DifferenceLemmas.{all-asks-left}
use Rattle.review_compare.proofs.differences.rows_where_asked.Goals as goal

pub returns-in_ok-split-in-Some-Some : goal.returns-in_ok-split-in-Some-Some
returns-in_ok-split-in-Some-Some g c =
    let p = c.args.pair.now in
    let about = option_copied c.args.scope.user in
    let on = option_copied c.args.scope.host in
    let left = c.in_ok-left-in-Some-Some.left.items in
    IfOk-weaker c.all_rows.result _ _
    (λ (rows : Vec Row Global) made.
    all-asks-left p rows.items about on c.args.asks.items left
    (subst (λ (asks : List Ask). AreLeftForAll p asks left) c.deref.ensures.value c.in_ok-left-in-Some-Some.ensures)
    (subst (λ (asks : List Ask). Progress p [] rows.items (IsAsked p about on asks)) c.in_ok-split-in-Some-Some.ensures.all made))
    c.all_rows.ensures
