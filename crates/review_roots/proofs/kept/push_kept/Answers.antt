use Rattle.std.proofs.Common.{◌++◌, ◌∙◌, List, Option, ap, not, ℕ}
use Rattle.std.specs.Prelude.{find}
use Rattle.sudo_base.proofs.Options.{on_ok}
use Rattle.review_roots.specs.Body.Kept.{has_at, if_any, states_by}
use Rattle.review_roots.proofs.KeptLemmas.{kept-pushed}
use Rattle.review_roots.proofs.kept.push_kept.Goals as goal

pub returns : goal.returns
returns c =
    let old = c.args.states.now.items in
    let user = c.args.user in
    let u = c.args.person.now in
    let groups = c.args.groups.now in
    let named = c.args.split.now.named.items in
    let others = c.args.split.now.unnamed.items in
    let one = c.push_each.new.states.items in
    let two = c.push_any.new.states.items in
    on_ok c.push_any-2.result
    (λ h. kept-pushed old one two c.push_any-2.new.states.items user named (if_any (find (has_at u groups) others))
    (if_any (find (λ i. not (has_at u groups i)) others))
    (c.in_ok-push_each.ensures ∙ ap (λ (is : List ℕ). old ++ states_by user is) c.deref.ensures.value)
    (c.in_ok-push_any.ensures
    ∙ ap (λ (o : Option ℕ). one ++ states_by user (if_any o))
    (c.first_had.ensures ∙ ap (find (has_at u groups)) c.deref-2.ensures.value))
    (h ∙ ap (λ (o : Option ℕ). two ++ states_by user (if_any o))
    (c.first_lacked.ensures ∙ ap (find (λ i. not (has_at u groups i))) c.deref-3.ensures.value)))
    c.push_any-2.ensures
