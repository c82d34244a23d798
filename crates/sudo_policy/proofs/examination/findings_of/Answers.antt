use Rattle.std.proofs.Common.{List, Option, ℕ, length, sym, ◌∙◌, subst}
use Rattle.sudo_policy.specs.Definitions.{lists}
use Rattle.sudo_policy.specs.Body.Graph.{IsInside}
use Rattle.sudo_policy.proofs.ExaminedLemmas.{leads_inside, roots_inside, are_findings, sound_is}
use Rattle.sudo_policy.proofs.examination.findings_of.Goals as goal

pub judge-requires-clause-leads : goal.judge-requires-clause-leads
judge-requires-clause-leads c = leads_inside c.args.policy.now c.args.survey.now c.requires

pub judge-requires-clause-inside : goal.judge-requires-clause-inside
judge-requires-clause-inside c =
    let p = c.args.policy.now in
    let survey = c.args.survey.now in
    subst (λ (roots : List (Option ℕ)). IsInside roots (length survey.aliases.items))
    (sym (c.as_slice.ensures.value ∙ c.in_ok-roots.ensures.roots))
    (roots_inside survey.index (length survey.aliases.items) (lists p) (leads_inside p survey c.requires))

pub returns-clause-findings : goal.returns-clause-findings
returns-clause-findings c =
    let p = c.args.policy.now in
    let j = c.in_ok-judged.ensures p c.requires (c.as_slice.ensures.value ∙ c.in_ok-roots.ensures.roots) in
    are_findings p c.args.survey.now c.requires c.in_ok-findings.findings.items c.in_ok-roots.field-0.undefined.items
    c.in_ok-judged.judged c.in_ok-roots.ensures.undefined j c.in_ok-findings.ensures

pub returns-clause-sound : goal.returns-clause-sound
returns-clause-sound c none =
    let p = c.args.policy.now in
    let j = c.in_ok-judged.ensures p c.requires (c.as_slice.ensures.value ∙ c.in_ok-roots.ensures.roots) in
    sound_is p c.args.survey.now c.requires c.in_ok-findings.findings.items c.in_ok-roots.field-0.undefined.items
    c.in_ok-judged.judged c.in_ok-roots.ensures.undefined j c.in_ok-findings.ensures none
