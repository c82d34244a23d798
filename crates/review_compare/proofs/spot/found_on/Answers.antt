use Rattle.std.proofs.Common.{◌∙◌, ℕ, List, ap, subst}
use Rattle.std.specs.Prelude.{filter}
use Rattle.std.proofs.lemmas.Result.{IfOk-weaker}
use Rattle.review_compare.specs.declared.compared.Compared.{Compared}
use Rattle.review_compare.specs.Witnesses.{IsCompared}
use Rattle.review_compare.specs.Body.AskClasses.{on_new}
use Rattle.review_compare.specs.Body.Chosen.{chosen, host_at}
use Rattle.review_compare.proofs.spot.found_on.Goals as goal

pub returns : goal.returns
returns c =
    let p = c.args.pair.now in
    let m = c.args.spot.machine.now in
    let old = c.in_ok-old.ensures ∙ ap (filter (host_at p.old.checked.now p.old.blocks.items m)) c.deref.ensures.value in
    let new = c.in_ok-new.ensures ∙ ap (filter (host_at p.new.checked.now p.new.blocks.items m)) c.deref-2.ensures.value in
    record {
      found = IfOk-weaker c.found_of.result _ _
          (λ (f : Compared) is.
          subst (λ (is : List ℕ). IsCompared (chosen p.parts.old.items is) (on_new p m c.args.class.now.allowing) f) old
          (subst (λ (js : List ℕ). IsCompared (chosen p.parts.old.items c.in_ok-old.old.items) (chosen p.parts.new.items js) f) new
          is))
          c.found_of.ensures.found;
      right = c.found_of.ensures.right;
    }
