use Rattle.std.proofs.Common.{[], ◌∷◌, ◌+◌, List, arith, subst, sym, take}
use Rattle.std.proofs.lemmas.List.{take_all}
use Rattle.review_compare.specs.declared.ask_class.AskClass.{AskClass}
use Rattle.review_compare.specs.declared.compared.Compared.{Compared}
use Rattle.review_compare.specs.Body.Classes.{AreRightIn}
use Rattle.review_compare.proofs.SpotLemmas.{founds-more}
use Rattle.review_compare.proofs.spot.founds_at.Goals as goal

pub loop-class-preserved : goal.loop-class-preserved
loop-class-preserved c =
    let p = c.args.pair.now in
    let s = c.args.spot in
    let n = c.loop-class.class-index in
    let ks = c.args.classes.now in (
      subst (λ (fs : List Compared). AreRightIn p s.user (s.host ∷ []) (take (n + 1) ks) fs) (sym c.in_ok-push.ensures.items)
          (founds-more p s.user (s.host ∷ []) ks c.loop-class.founds.items n c.class-item.result c.in_ok-found.found
          c.loop-class-test.true c.class-item.is c.loop-class.invariant.0 c.in_ok-found.ensures.found),
      c.in_ok-found.ensures.right,
    )

pub returns : goal.returns
returns c =
    let p = c.args.pair.now in
    let s = c.args.spot in
    record {
      founds = subst (λ (js : List AskClass). AreRightIn p s.user (s.host ∷ []) js c.loop-class.founds.items)
          (take_all c.loop-class.class-index c.args.classes.now (omega (arith, c.loop-class-test.false))) c.loop-class.invariant.0;
      right = c.loop-class.invariant.1;
    }
