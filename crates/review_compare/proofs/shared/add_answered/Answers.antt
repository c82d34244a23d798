use Rattle.std.proofs.Common.{◌≡◌, ◌∙◌, ◌∷◌, ◌<◌, [], All, List, ap, get_or, length, refl, subst, sym}
use Rattle.std.specs.List.{Contains}
use Rattle.std.proofs.lemmas.List.Elements.{All-get_or, All-push, All-set, Contains-append_left, Contains-push}
use Rattle.review_compare.specs.declared.cell.Ask.{Ask}
use Rattle.review_compare.specs.declared.shared.AnsweredAsks.{AnsweredAsks}
use Rattle.review_compare.specs.Body.SharedAsks.{HaveAnswered, IsAnsweredAlike}
use Rattle.review_compare.proofs.AskLemmas.{first-in, has-in, kept-in, last-in}
use Rattle.review_compare.proofs.SharedLemmas.{shared-added, shared-of-one}
use Rattle.review_compare.proofs.shared.add_answered.Goals as goal

abbrev Has : AnsweredAsks → Ask → Type 0
Has s a = Contains s.asks.items a

pub returns-in_ok-push-in-Some : goal.returns-in_ok-push-in-Some
returns-in_ok-push-in-Some c =
    let p = c.args.pair.now in
    let f = c.args.forms.now in
    let ss = c.args.answered.now.items in
    let i = c.in-Some.index in
    let r = c.index_mut.result.now in
    let s : AnsweredAsks = record { first = r.first; answers = r.answers; asks = c.push.new.self } in
    let own = c.index_mut.ensures.value in
    let less = subst (λ (ts : List AnsweredAsks). i < length ts) c.deref.ensures.value c.in-Some.ensures.0 in
    let same = c.in-Some.ensures.1 r in
    let is = subst (IsAnsweredAlike p f) (sym own) (All-get_or (IsAnsweredAlike p f) ss i r less c.requires.are) in
    let here = ap (λ (ts : List AnsweredAsks). get_or ts i r) c.deref.ensures.value in
    let items = c.in_ok-push-in-Some.ensures.items in
    record {
      are = All-set (IsAnsweredAlike p f) ss i s
          (shared-added p f r s c.args.ask c.args.answers.old.items c.args.answers.new.items is
          (subst (λ (t : AnsweredAsks). t.answers.old.items ≡ c.args.answers.old.items) (here ∙ sym own) same.0)
          (subst (λ (t : AnsweredAsks). t.answers.new.items ≡ c.args.answers.new.items) (here ∙ sym own) same.1)
          c.requires.answers refl refl items) c.requires.are;
      has = has-in Has ss i s c.args.ask less
          (subst (λ (xs : List Ask). Contains xs c.args.ask) (sym items) (Contains-push r.asks.items c.args.ask));
      kept = λ a there. kept-in Has ss i r s less
          (λ b e. subst (λ (xs : List Ask). Contains xs b) (sym items)
          (Contains-append_left r.asks.items (c.args.ask ∷ []) b (subst (λ (t : AnsweredAsks). Contains t.asks.items b) (sym own) e)))
          a there;
    }

pub returns-in_ok-push-in-None : goal.returns-in_ok-push-in-None
returns-in_ok-push-in-None c =
    let p = c.args.pair.now in
    let f = c.args.forms.now in
    let ss = c.args.answered.now.items in
    let s = c.in_ok-alone-in-None.alone in
    let one = c.in_ok-alone-in-None.ensures in
    let items = c.in_ok-push-in-None.ensures.items in
    record {
      are = subst (λ (ts : List AnsweredAsks). All (IsAnsweredAlike p f) ts) (sym items)
          (All-push (IsAnsweredAlike p f) ss s c.requires.are
          (shared-of-one p f s c.args.ask c.args.answers c.requires.answers one.0 one.1 one.2));
      has = subst (λ (ts : List AnsweredAsks). HaveAnswered ts c.args.ask) (sym items)
          (last-in Has ss s c.args.ask
          (subst (λ (xs : List Ask). Contains xs c.args.ask) (sym one.2) (Contains-push {X = Ask} [] c.args.ask)));
      kept = λ a there. subst (λ (ts : List AnsweredAsks). HaveAnswered ts a) (sym items) (first-in Has ss s a there);
    }
