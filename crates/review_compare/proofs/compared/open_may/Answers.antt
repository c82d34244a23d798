use Rattle.std.proofs.Common.{List, subst}
use Rattle.std.proofs.lemmas.Result.{IfOk-weaker}
use Rattle.review_compare.specs.declared.compared.Compared.{Compared}
use Rattle.review_compare.specs.declared.ruling.Ruled.{Ruled}
use Rattle.review_compare.specs.Body.Shown.{StandFor}
use Rattle.review_compare.proofs.UnsettledLemmas.{may-all, names-open}
use Rattle.review_compare.proofs.compared.open_may.Goals as goal

pub returns : goal.returns
returns c =
    let k = c.args.changed.now in
    let named = c.with_noted.result in
    let stand = subst (λ (rs : List Ruled). StandFor rs k.new.items c.args.overlap named) c.deref.ensures.value
    (subst (λ (ss : List Ruled). StandFor c.deref.result.now ss c.args.overlap named) c.deref-2.ensures.value c.with_noted.ensures) in
    IfOk-weaker c.may.result _ _
    (λ (f : Compared) is. may-all k f named is (names-open k.old.items k.new.items c.args.overlap named c.requires stand))
    c.may.ensures
