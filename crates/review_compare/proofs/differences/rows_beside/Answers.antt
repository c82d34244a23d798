use Rattle.std.proofs.Common.{Global, List, Vec, option_copied, subst, sym}
use Rattle.std.specs.List.{Contains}
use Rattle.std.proofs.lemmas.Result.{IfOk-weaker}
use Rattle.review_compare.specs.declared.ask_class.AskClass.{AskClass}
use Rattle.review_compare.specs.declared.cell.Ask.{Ask}
use Rattle.review_compare.specs.declared.row.Row.{Row}
use Rattle.review_compare.specs.declared.shared.SharedAsks.{SharedAsks}
use Rattle.review_compare.specs.Body.AskClasses.{HaveAsk}
use Rattle.review_compare.specs.Body.Progress.{AreLeft, asking}
use Rattle.review_compare.specs.Body.SharedAsks.{HaveShared}
use Rattle.review_compare.proofs.SharedLemmas.{split-asked}
use Rattle.review_compare.proofs.differences.rows_beside.Goals as goal

pub returns : goal.returns
returns c =
    let p = c.args.pair.now in
    let split = c.args.asks.now in
    let scope = option_copied c.args.scope in
    let left = c.in_ok-left.left.items in
    let classes = c.in_ok-asked.asked.items in
    let are = subst (λ (asks : List Ask). AreLeft p c.args.person.now asks left) c.deref.ensures.value c.in_ok-left.ensures in
    let own : (a : Ask) → Contains left a → HaveAsk (asking p) classes a =
    λ a there. c.in_ok-asked.ensures.own a (subst (λ (asks : List Ask). Contains asks a) (sym c.deref-2.ensures.value) there) in
    let shared : (a : Ask) → HaveShared (asking p) split.shared.items a → HaveAsk (asking p) classes a =
    λ a there. c.in_ok-asked.ensures.shared a
    (subst (λ (ss : List SharedAsks). HaveShared (asking p) ss a) (sym c.deref-3.ensures.value) there) in
    let held = λ (a : Ask) (e : HaveAsk (asking p) classes a). subst (λ (ks : List AskClass). HaveAsk (asking p) ks a)
    (sym c.deref-4.ensures.value) e in
    record {
      all = IfOk-weaker c.rows_for_asked.result _ _
          (λ (rows : Vec Row Global) made.
          split-asked p rows.items c.args.user c.args.person.now scope split left (HaveAsk (asking p) c.deref-4.result.now) c.requires.user
          c.requires.split are (λ a there. held a (own a there)) (λ a there. held a (shared a there)) made)
          c.rows_for_asked.ensures.all;
      right = c.rows_for_asked.ensures.right;
    }
