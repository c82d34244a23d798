use Rattle.std.proofs.Common.{[], Global, List, Vec, option_copied, subst}
use Rattle.std.proofs.lemmas.Result.{IfOk-weaker}
use Rattle.review_compare.specs.declared.host_class.HostClass.{HostClass}
use Rattle.review_compare.specs.declared.row.Row.{Row}
use Rattle.review_compare.specs.Body.AskClasses.{HaveAsk}
use Rattle.review_compare.specs.Body.Classes.{IsOnClasses}
use Rattle.review_compare.specs.Body.Progress.{Progress, asking}
use Rattle.review_compare.proofs.ClassLemmas.{classes-done}
use Rattle.review_compare.proofs.differences.rows_for_asked.Goals as goal

pub returns : goal.returns
returns c =
    let p = c.args.pair.now in
    let asked = HaveAsk (asking c.args.pair.now) c.args.asked.now in
    let ks = c.in_ok-classes.classes.items in
    record {
      all = IfOk-weaker c.rows_of.result _ _
          (λ (rows : Vec Row Global) made.
          classes-done p rows.items ks c.args.user (option_copied c.args.scope) asked c.in_ok-classes.ensures.all
          (subst (λ (js : List HostClass). Progress p [] rows.items (IsOnClasses c.args.user js asked)) c.deref.ensures.value made))
          c.rows_of.ensures;
      right = IfOk-weaker c.rows_of.result _ _ (λ (rows : Vec Row Global) made. c.in_ok-classes.ensures.right) c.rows_of.ensures;
    }
