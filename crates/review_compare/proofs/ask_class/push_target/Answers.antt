use Rattle.std.proofs.Common.{◌≡◌, ◌<◌, ◌++◌, ◌∷◌, ◌∙◌, [], List, ap, get_or, length, subst, sym}
use Rattle.review_compare.specs.declared.ask_class.AskedWith.{AskedWith}
use Rattle.review_compare.specs.Body.AskClasses.{AddsTarget}
use Rattle.review_compare.specs.Differences.{targets_of}
use Rattle.review_compare.proofs.AskLemmas.{alone-added, target-added}
use Rattle.review_compare.proofs.ask_class.push_target.Goals as goal

pub returns-in_ok-push_targets-in-Some : goal.returns-in_ok-push_targets-in-Some
returns-in_ok-push_targets-in-Some c =
    let ws = c.args.asked.now.items in
    let i = c.in-Some.index in
    let r = c.index_mut.result.now in
    let v : AskedWith = record { groups = r.groups; targets = c.push_targets.new.targets } in
    let own = c.index_mut.ensures.value in
    target-added c.args.target c.args.groups v ws i r
    (subst (λ (vs : List AskedWith). i < length vs) c.deref.ensures.value c.in-Some.ensures.0)
    (subst (λ (vs : List AskedWith). (get_or vs i r).groups ≡ c.args.groups) c.deref.ensures.value (c.in-Some.ensures.1 r))
    (ap (λ (w : AskedWith). w.groups) own)
    (c.in_ok-push_targets-in-Some.ensures ∙ ap (λ (w : AskedWith). targets_of w.targets.items ++ c.args.target ∷ []) own)

pub returns-in_ok-push-in-None : goal.returns-in_ok-push-in-None
returns-in_ok-push-in-None c =
    subst (λ (vs : List AskedWith). AddsTarget c.args.asked.now.items c.args.target c.args.groups vs)
    (sym c.in_ok-push-in-None.ensures.items)
    (alone-added c.args.asked.now.items c.in_ok-alone-in-None.alone c.args.target c.args.groups c.in_ok-alone-in-None.ensures.0
    c.in_ok-alone-in-None.ensures.1)
