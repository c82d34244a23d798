use Rattle.std.proofs.Common.{[], Global, List, Vec, arith, subst}
use Rattle.std.proofs.lemmas.List.{take_all}
use Rattle.std.proofs.lemmas.Result.{IfOk-weaker}
use Rattle.review_compare.specs.declared.ask_class.AskClass.{AskClass}
use Rattle.review_compare.specs.declared.row.Row.{Row}
use Rattle.review_compare.specs.Body.AskClasses.{HaveAsk}
use Rattle.review_compare.specs.Body.Classes.{IsOnClasses}
use Rattle.review_compare.specs.Body.Progress.{Progress, asking}
use Rattle.review_compare.proofs.FoundLemmas.{asks-done}
use Rattle.review_compare.proofs.SpotLemmas.{merged-done}
use Rattle.review_compare.proofs.host_class.rows_of.Goals as goal

pub loop-index-preserved : goal.loop-index-preserved
loop-index-preserved c = (
  asks-done c.args.pair.now [] c.loop-index.rows.items c.add_asks.new.rows.items c.args.user c.args.classes.now c.args.asked.now
      c.loop-index.index c.index-asked-index.result c.loop-index-test.true c.index-asked-index.is c.loop-index.invariant.0
      c.in_ok-add_asks.ensures,
  omega (arith, c.loop-index-test.true),
)

pub returns : goal.returns
returns c =
    let p = c.args.pair.now in
    let user = c.args.user in
    let js = c.args.classes.now in
    let ks = c.args.asked.now in
    let done = subst (λ (hs : List AskClass). Progress p [] c.loop-index.rows.items (IsOnClasses user js (HaveAsk (asking p) hs)))
    (take_all c.loop-index.index ks (omega (arith, c.loop-index-test.false))) c.loop-index.invariant.0 in
    IfOk-weaker c.merged.result _ _
    (λ (new : Vec Row Global) are. merged-done p c.loop-index.rows.items new.items (IsOnClasses user js (HaveAsk (asking p) ks)) are done)
    c.merged.ensures
