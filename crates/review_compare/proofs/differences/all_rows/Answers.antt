use Rattle.std.proofs.Common.{Global, Vec, ap, arith, length, option_copied}
use Rattle.std.proofs.lemmas.Result.{IfOk-weaker}
use Rattle.review_compare.specs.declared.row.Row.{Row}
use Rattle.review_compare.proofs.PartLemmas.{all-parts}
use Rattle.review_compare.proofs.differences.all_rows.Goals as goal

pub returns : goal.returns
returns g c =
    let long = ap length c.people.ensures in
    IfOk-weaker c.joined_rows.result _ _
    (λ (rows : Vec Row Global) made.
    all-parts c.args.pair.now rows.items (option_copied c.args.scope.user) (option_copied c.args.scope.host) _ _ _
    c.args.asks.now.all.items c.in_ok-parts.ensures.len (omega (arith, long)) made)
    c.joined_rows.ensures
