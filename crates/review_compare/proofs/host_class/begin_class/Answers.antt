use Rattle.std.proofs.Common.{◌∙◌, ◌++◌, ◌∷◌, [], ℕ, All, List, ap, subst, sym}
use Rattle.std.proofs.lemmas.List.Elements.{All-push}
use Rattle.review_compare.specs.declared.host_class.HostClass.{HostClass}
use Rattle.review_compare.specs.Body.Classes.{AddsHosts, IsClass}
use Rattle.review_compare.proofs.ClassLemmas.{adds-class, first-class}
use Rattle.review_compare.proofs.host_class.begin_class.Goals as goal

pub returns-clause-added : goal.returns-clause-added
returns-clause-added c =
    let s = c.args.spot in
    let hosts = c.in_ok-push.ensures.items ∙ ap (λ (hs : List ℕ). hs ++ s.host ∷ []) c.new-hosts.ensures.items in
    let first : HostClass =
    record { spot = s; listed = c.args.listed; founds = c.in_ok-founds.founds; hosts = c.push.new.self } in
    subst (λ (ks : List HostClass). AddsHosts c.args.classes.now.items (s.host ∷ []) ks) (sym c.in_ok-push-2.ensures.items)
    (adds-class c.args.classes.now.items first (s.host ∷ []) hosts)

pub returns-clause-classes : goal.returns-clause-classes
returns-clause-classes c =
    let p = c.args.pair.now in
    let s = c.args.spot in
    let asked = c.args.asked.now in
    let hosts = c.in_ok-push.ensures.items ∙ ap (λ (hs : List ℕ). hs ++ s.host ∷ []) c.new-hosts.ensures.items in
    let first : HostClass =
    record { spot = s; listed = c.args.listed; founds = c.in_ok-founds.founds; hosts = c.push.new.self } in
    subst (λ (ks : List HostClass). All (IsClass p s.user s.person.now asked) ks) (sym c.in_ok-push-2.ensures.items)
    (All-push (IsClass p s.user s.person.now asked) c.args.classes.now.items first c.requires.classes
    (first-class p s c.args.listed asked c.in_ok-founds.founds c.push.new.self c.requires.spot c.requires.listed
    c.in_ok-founds.ensures.founds hosts))
