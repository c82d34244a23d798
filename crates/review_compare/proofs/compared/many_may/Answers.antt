use Rattle.std.proofs.Common.{List, subst}
use Rattle.std.specs.Prelude.{IfSome}
use Rattle.std.proofs.lemmas.Result.{IfOk-weaker}
use Rattle.review_compare.specs.declared.compared.Compared.{Compared}
use Rattle.review_compare.specs.declared.ruling.Overlap.{Overlap}
use Rattle.review_compare.specs.declared.ruling.Ruled.{Ruled}
use Rattle.review_compare.specs.Body.Shown.{IsRow, StandFor}
use Rattle.review_compare.proofs.UnsettledLemmas.{may-all, names-many}
use Rattle.review_compare.proofs.compared.many_may.Goals as goal

pub returns : goal.returns
returns c =
    let k = c.args.changed.now in
    let named = c.with_noted.result in
    let last : Overlap = record { old = c.last_row-old.result; new = c.last_row-new.result } in
    let own = subst (λ (rs : List Ruled). IfSome c.last_row-old.result (IsRow rs)) c.deref.ensures.value c.last_row-old.ensures in
    let its = subst (λ (rs : List Ruled). IfSome c.last_row-new.result (IsRow rs)) c.deref-2.ensures.value c.last_row-new.ensures in
    let stand = subst (λ (rs : List Ruled). StandFor rs k.new.items last named) c.deref-3.ensures.value
    (subst (λ (ss : List Ruled). StandFor c.deref-3.result.now ss last named) c.deref-4.ensures.value c.with_noted.ensures) in
    IfOk-weaker c.may.result _ _
    (λ (f : Compared) is. may-all k f named is (names-many k.old.items k.new.items last named own its c.requires stand))
    c.may.ensures
