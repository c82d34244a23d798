use Rattle.std.proofs.Common.{◌≡◌, ◌++◌, [], map, sym, ap, ◌∙◌, append-nil, inl, inr}
use Rattle.std.specs.List.{items_where_true}
use Rattle.sudo_policy.specs.Found.{finding_on}
use Rattle.sudo_policy.specs.Body.DefinitionRef.{alias_view}
use Rattle.sudo_policy.proofs.FoundLemmas.{none_picked}
use Rattle.sudo_policy.proofs.examination.push_marked.Goals as goal

pub returns : goal.returns
returns c =
    let rest = c.loop-alias.alias-iterator in
    let none : items_where_true rest.b.rest.now (map alias_view rest.a.rest.now) ≡ [] =
    none_picked alias_view rest.b.rest.now rest.a.rest.now
    (elim c.in-None.ensures.steps [ inl first ↦ inl first.1.0 | inr second ↦ inr second.1.0 ]) in
    sym (append-nil c.loop-alias.findings.items)
    ∙ ap (λ ds. c.loop-alias.findings.items ++ map (finding_on c.args.class) ds) (sym none) ∙ c.loop-alias.invariant
