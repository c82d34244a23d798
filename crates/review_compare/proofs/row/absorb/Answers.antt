use Rattle.std.proofs.Common.{◌<◌, List, length, subst, sym}
use Rattle.sudo_base.proofs.Options.{on_ok}
use Rattle.review_compare.specs.declared.row.Row.{Row}
use Rattle.review_compare.specs.Body.Merged.{Absorbs, IsJoined}
use Rattle.review_compare.proofs.MergeLemmas.{absorbs-push, absorbs-set}
use Rattle.review_compare.proofs.row.absorb.Goals as goal

pub returns-in-Some : goal.returns-in-Some
returns-in-Some c =
    let less = subst (λ (rs : List Row). c.in-Some.index < length rs) c.deref.ensures.value c.in-Some.ensures.0 in
    on_ok c.extend.result
    (λ joined. absorbs-set c.args.rows.now.items c.args.row c.in-Some.index c.index_mut.result.now c.extend.new.self less
    (subst (λ (r : Row). IsJoined r c.args.row c.extend.new.self) c.index_mut.ensures.value joined))
    c.extend.ensures

pub returns-in_ok-push-in-None : goal.returns-in_ok-push-in-None
returns-in_ok-push-in-None c =
    subst (λ (rs : List Row). Absorbs c.args.rows.now.items c.args.row rs) (sym c.in_ok-push-in-None.ensures.items)
    (absorbs-push c.args.rows.now.items c.args.row)
