use Rattle.std.proofs.Common.{Option, ap, subst, sym}
use Rattle.std.specs.Prelude.{IfSome, is_some}
use Rattle.std.proofs.lemmas.Result.{IfOk-weaker}
use Rattle.review_compare.specs.declared.compared.Compared.{Compared}
use Rattle.review_compare.specs.declared.ruling.Overlap.{Overlap}
use Rattle.review_compare.specs.Body.Shown.{AreOpen, all_shown}
use Rattle.review_compare.specs.Witnesses.{IsCompared}
use Rattle.review_compare.proofs.UnsettledLemmas.{names-open}
use Rattle.review_compare.proofs.compared.compared_few.Goals as goal

pub returns-in-None : goal.returns-in-None
returns-in-None c = c.in_ok-tried_overlap.ensures.none (ap is_some c.in-None.is)

pub returns-in-Some : goal.returns-in-Some
returns-in-Some c =
    let old = c.args.trial.now.old_rows.now in
    let new = c.args.trial.now.new_rows.now in
    let named = c.with_noted.result in
    let is_open = subst (λ (o : Option Overlap). IfSome o (AreOpen old new)) c.in-Some.is c.in_ok-tried_overlap.ensures.are_open in
    IfOk-weaker c.may.result _ _
    (λ (f : Compared) is.
    subst (λ (g : Compared). IsCompared (all_shown old) (all_shown new) g) (sym is)
    (names-open old new c.in-Some.overlap named is_open c.with_noted.ensures))
    c.may.ensures
