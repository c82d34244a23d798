use Rattle.std.proofs.Common.{List, Option, ap, subst}
use Rattle.std.specs.Prelude.{IfSome, is_some}
use Rattle.review_compare.specs.declared.ruling.Overlap.{Overlap}
use Rattle.review_compare.specs.declared.ruling.Ruled.{Ruled}
use Rattle.review_compare.specs.Body.Shown.{AreOpen, all_shown}
use Rattle.review_compare.specs.Witnesses.{RowsSaySame}
use Rattle.review_compare.proofs.ChangedLemmas.{near-same}
use Rattle.review_compare.proofs.compared.compared_changed.Goals as goal

pub returns-in-None : goal.returns-in-None
returns-in-None c =
    let k = c.args.changed.now in
    near-same (all_shown k.all_old.now) (all_shown k.all_new.now) (all_shown k.rows.items) (all_shown k.old.items)
    (all_shown k.new.items) k.are_changed
    (subst (λ (rs : List Ruled). RowsSaySame (all_shown rs) (all_shown k.new.items)) c.deref.ensures.value
    (subst (λ (rs : List Ruled). RowsSaySame (all_shown c.deref.result.now) (all_shown rs)) c.deref-2.ensures.value
    (c.in_ok-first_overlap.ensures.none (ap is_some c.in-None.is))))

pub open_may-requires : goal.open_may-requires
open_may-requires c =
    let k = c.args.changed.now in
    let o = c.in-Some.overlap in
    let is_open = subst (λ (f : Option Overlap). IfSome f (AreOpen c.deref.result.now c.deref-2.result.now)) c.in-Some.is
    c.in_ok-first_overlap.ensures.are_open in
    subst (λ (rs : List Ruled). AreOpen rs k.new.items o) c.deref.ensures.value
    (subst (λ (rs : List Ruled). AreOpen c.deref.result.now rs o) c.deref-2.ensures.value is_open)
