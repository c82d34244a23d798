use Rattle.std.proofs.Common.{◌≡◌, [], Bool, true, false, List, arith, refl, subst, sym}
use Rattle.std.specs.Prelude.{not}
use Rattle.std.proofs.lemmas.List.{take_all}
use Rattle.review_grants.proofs.ListSteps.{index-there}
use Rattle.review_compare.specs.declared.cell.Ask.{Ask}
use Rattle.review_compare.specs.Body.Brief.{AreBut}
use Rattle.review_compare.proofs.BriefLemmas.{but-more, but-none}
use Rattle.review_compare.proofs.brief.asks_but.Goals as goal

not-false : (b : Bool) → not b ≡ false → b ≡ true
not-false true e = refl
not-false false e = let bad : true ≡ false = e in cc

pub loop-ask-init : goal.loop-ask-init
loop-ask-init c =
    subst (λ (xs : List Ask). AreBut c.args.pair.now c.args.target c.args.groups [] xs) (sym c.new-left.ensures.items)
    (but-none c.args.pair.now c.args.target c.args.groups)

pub loop-ask-preserved : goal.loop-ask-preserved
loop-ask-preserved c =
    but-more c.args.pair.now c.args.target c.args.groups c.args.asks.now c.loop-ask.ask-index _ (not c.is_told.result)
    c.loop-ask.left.items c.push_if.new.asks.items c.loop-ask-test.true
    (index-there c.args.asks.now c.loop-ask.ask-index _ c.loop-ask-test.true) c.loop-ask.invariant c.in_ok-push_if.ensures
    (λ e. c.is_told.ensures (not-false c.is_told.result e))

pub returns : goal.returns
returns c =
    subst (λ (xs : List Ask). AreBut c.args.pair.now c.args.target c.args.groups xs c.loop-ask.left.items)
    (take_all c.loop-ask.ask-index c.args.asks.now (omega (arith, c.loop-ask-test.false))) c.loop-ask.invariant
