use Rattle.std.proofs.Common.{◌≡◌, ◌<◌, ◌∙◌, List, ap, arith, flat_map, get_or, length, subst}
use Rattle.std.proofs.lemmas.List.{take_all}
use Rattle.sudo_grammar.specs.declared.policy.Entry.{Entry}
use Rattle.sudo_grammar.specs.declared.policy.Policy.{Policy}
use Rattle.sudo_verdict.specs.Body.Resolved.{body_resolves}
use Rattle.sudo_verdict.proofs.RuleLists.{bodies_resolve}
use Rattle.review_roots.specs.KnownGroups.{body_users}
use Rattle.review_grants.proofs.ListSteps.{all-there}
use Rattle.review_roots.proofs.ListSteps.{flat-next}
use Rattle.review_roots.proofs.groups.rule_users.Goals as goal

pub push_users-requires : goal.push_users-requires
push_users-requires c =
    let p = c.args.checked.now in
    let same : c.as_slice-entry-items.result.now ≡ p.entries =
    c.as_slice-entry-items.ensures ∙ ap (λ (q : Policy). q.entries) c.policy.ensures.value in
    let at = c.loop-entry.entry-index in
    let entry = c.entry-item.result in
    let less : at < length p.entries = subst (λ (es : List Entry). at < length es) same c.loop-entry-test.true in
    let is : entry ≡ get_or p.entries at entry = c.entry-item.is ∙ ap (λ (es : List Entry). get_or es at entry) same in
    all-there (λ (e : Entry). body_resolves p e.body) p.entries at entry less is (bodies_resolve p c.policy.ensures.sound)

pub loop-entry-preserved : goal.loop-entry-preserved
loop-entry-preserved c =
    let p = c.args.checked.now in
    let same : c.as_slice-entry-items.result.now ≡ p.entries =
    c.as_slice-entry-items.ensures ∙ ap (λ (q : Policy). q.entries) c.policy.ensures.value in
    let at = c.loop-entry.entry-index in
    let entry = c.entry-item.result in
    let less : at < length p.entries = subst (λ (es : List Entry). at < length es) same c.loop-entry-test.true in
    let is : entry ≡ get_or p.entries at entry = c.entry-item.is ∙ ap (λ (es : List Entry). get_or es at entry) same in
    flat-next (λ (e : Entry). body_users p e.body) p.entries at entry c.loop-entry.atoms.items c.push_users.new.atoms.items less is
    c.loop-entry.invariant c.in_ok-push_users.ensures

pub returns : goal.returns
returns c =
    let p = c.args.checked.now in
    let same : c.as_slice-entry-items.result.now ≡ p.entries =
    c.as_slice-entry-items.ensures ∙ ap (λ (q : Policy). q.entries) c.policy.ensures.value in
    let long = ap length same in
    c.loop-entry.invariant
    ∙ ap (flat_map (λ (e : Entry). body_users p e.body))
    (take_all c.loop-entry.entry-index p.entries (omega (arith, long, c.loop-entry-test.false)))
