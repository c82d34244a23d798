use Rattle.std.proofs.Common.{◌∙◌, Global, List, Vec, ap, option_copied, subst, sym}
use Rattle.std.proofs.lemmas.Result.{IfOk-weaker}
use Rattle.sudo_grammar.specs.declared.policy.Policy.{Policy}
use Rattle.sudo_match.specs.KnownRows.{KnownRows}
use Rattle.sudo_match.specs.declared.people.Group.{Group}
use Rattle.review_compare.specs.declared.row.Row.{Row}
use Rattle.review_compare.specs.Differences.{AreDifferences, all_asks}
use Rattle.review_compare.proofs.DifferenceLemmas.{all-differences}
use Rattle.review_compare.proofs.differences.compared_grants.Goals as goal

pub returns : goal.returns
returns g c =
    let p = c.in_ok-pair.pair in
    let is = c.in_ok-pair.ensures in
    let old = is.0 ∙ c.in_ok-old_side.ensures in
    let new = is.1 ∙ c.in_ok-new_side.ensures in
    let about = option_copied c.args.scope.user in
    let scope = option_copied c.args.scope.host in
    let asks = c.in_ok-asks.ensures in
    IfOk-weaker c.rows_where_asked.result _ _
    (λ (rows : Vec Row Global) made.
    subst (λ (o : Policy). AreDifferences o c.args.new.now c.args.directory.now c.args.groups.now about scope rows.items) old
    (subst (λ (n : Policy). AreDifferences p.old.checked.now n c.args.directory.now c.args.groups.now about scope rows.items) new
    (subst (λ (d : KnownRows). AreDifferences p.old.checked.now p.new.checked.now d c.args.groups.now about scope rows.items) is.2
    (subst (λ (gs : List Group). AreDifferences p.old.checked.now p.new.checked.now p.directory.now gs about scope rows.items) is.3
    (all-differences p rows.items about scope c.in_ok-asks.asks.items (asks
    ∙ ap (λ (d : KnownRows). all_asks d c.args.groups.now) (sym is.2) ∙ ap (all_asks p.directory.now) (sym is.3)) made)))))
    c.rows_where_asked.ensures
