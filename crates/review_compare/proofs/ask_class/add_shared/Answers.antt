use Rattle.std.proofs.Common.{◌≡◌, ◌∙◌, ◌++◌, ◌<◌, All, List, ap, get_or, length, map, refl, subst, sym}
use Rattle.std.proofs.lemmas.List.Elements.{All-get_or, All-push, All-set}
use Rattle.sudo_base.proofs.Options.{on_ok}
use Rattle.review_compare.specs.declared.ask_class.AskClass.{AskClass}
use Rattle.review_compare.specs.declared.ask_class.AskedWith.{AskedWith}
use Rattle.review_compare.specs.Body.AskClasses.{AreAsked, HaveAsk, IsAskClass, plain}
use Rattle.review_compare.specs.Body.Classes.{AreSameBlocks}
use Rattle.review_compare.specs.Body.Progress.{asking}
use Rattle.review_compare.proofs.AskLemmas.{class-has, class-kept, classes-first, classes-last}
use Rattle.review_compare.proofs.SharedLemmas.{class-of-shared, class-shared, more-copied, own-copied, plain-asked}
use Rattle.review_compare.proofs.ask_class.add_shared.Goals as goal

pub returns-in-Some : goal.returns-in-Some
returns-in-Some c =
    let p = c.args.pair.now in
    let u = c.args.person.now in
    let s = c.args.shared.now in
    let ks = c.args.classes.now.items in
    let i = c.in-Some.index in
    let r = c.index_mut.result.now in
    let k : AskClass = record { allowing = r.allowing; asked = c.push_copies.new.copies } in
    let own = c.index_mut.ensures.value in
    let less = subst (λ (js : List AskClass). i < length js) c.deref.ensures.value c.in-Some.ensures.0 in
    let same = subst (λ (j : AskClass). AreSameBlocks j.allowing c.args.allowing) (sym own)
    (subst (λ (js : List AskClass). AreSameBlocks (get_or js i r).allowing c.args.allowing) c.deref.ensures.value
    (c.in-Some.ensures.1 r)) in
    let is = subst (IsAskClass p u) (sym own) (All-get_or (IsAskClass p u) ks i r less c.requires.are) in
    let moved = λ (e : map plain k.asked.items ≡ map plain r.asked.items ++ map plain c.deref-in-Some.result.now).
    e ∙ ap (λ (ws : List AskedWith). map plain r.asked.items ++ map plain ws) c.deref-in-Some.ensures.value in
    record {
      are = on_ok c.push_copies.result
          (λ copied. All-set (IsAskClass p u) ks i k
          (class-shared p u r k s c.args.allowing is same c.requires.shared c.requires.decide refl (moved copied)) c.requires.are)
          c.push_copies.ensures;
      has = on_ok c.push_copies.result
          (λ copied a e. class-has (asking p) ks i k a less (more-copied (asking p) r.asked.items s.asked.items k.asked.items
          (moved copied) a e))
          c.push_copies.ensures;
      kept = on_ok c.push_copies.result
          (λ copied a there. class-kept (asking p) ks i r k less
          (λ b e. own-copied (asking p) r.asked.items s.asked.items k.asked.items (moved copied) b
          (subst (λ (j : AskClass). AreAsked (asking p) j.asked.items b) (sym own) e)) a there)
          c.push_copies.ensures;
    }

pub returns-in_ok-push-in-None : goal.returns-in_ok-push-in-None
returns-in_ok-push-in-None c =
    let p = c.args.pair.now in
    let u = c.args.person.now in
    let s = c.args.shared.now in
    let ks = c.args.classes.now.items in
    let k = c.in_ok-class-in-None.class in
    let one = c.in_ok-class-in-None.ensures in
    let items = c.in_ok-push-in-None.ensures.items in
    let copied = one.1 ∙ ap (λ (ws : List AskedWith). map plain ws) c.deref-in-None.ensures.value in
    record {
      are = subst (λ (js : List AskClass). All (IsAskClass p u) js) (sym items)
          (All-push (IsAskClass p u) ks k c.requires.are
          (class-of-shared p u k s c.args.allowing c.requires.shared c.requires.decide one.0 copied));
      has = λ a there. subst (λ (js : List AskClass). HaveAsk (asking p) js a) (sym items)
          (classes-last (asking p) ks k a (plain-asked (asking p) s.asked.items k.asked.items (sym copied) a there));
      kept = λ a there. subst (λ (js : List AskClass). HaveAsk (asking p) js a) (sym items) (classes-first (asking p) ks k a there);
    }
