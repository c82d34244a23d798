use Rattle.std.proofs.Common.{sym, ◌∙◌}
use Rattle.sudo_policy.specs.Body.Resolving.{section_resolves}
use Rattle.sudo_verdict.specs.Body.Queries.{question}
use Rattle.sudo_verdict.specs.Found.{section_found}
use Rattle.sudo_verdict.proofs.Lasts.{back_found, back_none, back_rest, front-rest}
use Rattle.sudo_verdict.specs.Keys.{HaveSectionKeys}
use Rattle.sudo_verdict.proofs.ListDecisions.{related-there}
use Rattle.sudo_verdict.proofs.search.search_sections.Goals as goal

pub returns-in-Some-search_section : goal.returns-in-Some-search_section
returns-in-Some-search_section c =
    sym
    (c.loop-section.invariant.same
    ∙ back_found (section_found c.args.lists.checked.now (question c.args.query.now) c.args.place)
    c.loop-section.left.now c.in-Some.rest.now c.in-Some.section.now
    c.in-Some.ensures.cases.0 c.in-Some-search_section.verdict c.in-Some-search_section.ensures)

pub loop-section-preserved : goal.loop-section-preserved
loop-section-preserved c = record {
  resolve = back_rest (section_resolves c.args.lists.checked.now) c.loop-section.left.now c.in-Some.rest.now
      c.in-Some.section.now c.in-Some.ensures.cases.0 c.loop-section.invariant.resolve;
  front = front-rest c.args.sections.now c.loop-section.left.now c.in-Some.rest.now c.in-Some.section.now
      c.in-Some.ensures.cases.0 c.loop-section.invariant.front;
  same = c.loop-section.invariant.same
      ∙ back_none (section_found c.args.lists.checked.now (question c.args.query.now) c.args.place)
      c.loop-section.left.now c.in-Some.rest.now c.in-Some.section.now
      c.in-Some.ensures.cases.0 c.in_default-search_section.ensures;
}

pub search_section-requires-clause-hosts : goal.search_section-requires-clause-hosts
search_section-requires-clause-hosts c =
    (c.section_at-keys.ensures c.args.lists.checked.now c.in-Some.section.now
    (λ k e. related-there (HaveSectionKeys c.args.lists.checked.now) c.args.keys.now c.args.sections.now
    c.loop-section.left.now c.in-Some.rest.now k c.in-Some.section.now
    c.in-Some.ensures.cases.0 c.loop-section.invariant.front c.requires.keys e)).0

pub search_section-requires-clause-commands : goal.search_section-requires-clause-commands
search_section-requires-clause-commands c =
    (c.section_at-keys.ensures c.args.lists.checked.now c.in-Some.section.now
    (λ k e. related-there (HaveSectionKeys c.args.lists.checked.now) c.args.keys.now c.args.sections.now
    c.loop-section.left.now c.in-Some.rest.now k c.in-Some.section.now
    c.in-Some.ensures.cases.0 c.loop-section.invariant.front c.requires.keys e)).1
