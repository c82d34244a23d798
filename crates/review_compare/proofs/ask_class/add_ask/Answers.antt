use Rattle.std.proofs.Common.{◌<◌, All, List, get_or, length, refl, subst, sym}
use Rattle.std.proofs.lemmas.List.Elements.{All-get_or, All-push, All-set}
use Rattle.sudo_base.proofs.Options.{on_ok}
use Rattle.review_compare.specs.declared.ask_class.AskClass.{AskClass}
use Rattle.review_compare.specs.Body.AskClasses.{AreAsked, HaveAsk, IsAskClass}
use Rattle.review_compare.specs.Body.Classes.{AreSameBlocks}
use Rattle.review_compare.specs.Body.Progress.{asking}
use Rattle.review_compare.proofs.AskLemmas.{class-added, class-has, class-kept, class-of-one, classes-first, classes-last}
use Rattle.review_compare.proofs.ask_class.add_ask.Goals as goal

pub returns-in-Some : goal.returns-in-Some
returns-in-Some c =
    let p = c.args.pair.now in
    let u = c.args.person.now in
    let ks = c.args.classes.now.items in
    let i = c.in-Some.index in
    let r = c.index_mut.result.now in
    let k : AskClass = record { allowing = r.allowing; asked = c.push_asked.new.asked } in
    let own = c.index_mut.ensures.value in
    let less = subst (λ (js : List AskClass). i < length js) c.deref.ensures.value c.in-Some.ensures.0 in
    let same = subst (λ (j : AskClass). AreSameBlocks j.allowing c.args.allowing) (sym own)
    (subst (λ (js : List AskClass). AreSameBlocks (get_or js i r).allowing c.args.allowing) c.deref.ensures.value
    (c.in-Some.ensures.1 r)) in
    let is = subst (IsAskClass p u) (sym own) (All-get_or (IsAskClass p u) ks i r less c.requires.are) in
    record {
      are = on_ok c.push_asked.result
          (λ adds. All-set (IsAskClass p u) ks i k (class-added p u r k c.args.ask c.args.allowing is same c.requires.decide refl adds)
          c.requires.are)
          c.push_asked.ensures;
      has = on_ok c.push_asked.result (λ adds. class-has (asking p) ks i k c.args.ask less adds.added) c.push_asked.ensures;
      kept = on_ok c.push_asked.result
          (λ adds a there. class-kept (asking p) ks i r k less
          (λ b e. adds.kept b (subst (λ (j : AskClass). AreAsked (asking p) j.asked.items b) (sym own) e)) a there)
          c.push_asked.ensures;
    }

pub returns-in_ok-push-in-None : goal.returns-in_ok-push-in-None
returns-in_ok-push-in-None c =
    let p = c.args.pair.now in
    let u = c.args.person.now in
    let ks = c.args.classes.now.items in
    let k = c.in_ok-class-in-None.class in
    let one = c.in_ok-class-in-None.ensures in
    let items = c.in_ok-push-in-None.ensures.items in
    record {
      are = subst (λ (js : List AskClass). All (IsAskClass p u) js) (sym items)
          (All-push (IsAskClass p u) ks k c.requires.are
          (class-of-one p u k c.args.ask c.args.allowing c.requires.decide one.0 one.1));
      has = subst (λ (js : List AskClass). HaveAsk (asking p) js c.args.ask) (sym items)
          (classes-last (asking p) ks k c.args.ask (one.1).added);
      kept = λ a there. subst (λ (js : List AskClass). HaveAsk (asking p) js a) (sym items) (classes-first (asking p) ks k a there);
    }
