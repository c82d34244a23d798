use Rattle.std.proofs.Common.{ap, ◌∙◌, sym, subst}
use Rattle.sudo_base.proofs.Options.{on_ok}
use Rattle.sudo_grammar.specs.declared.kind.Kind.TheVariants as kind
use Rattle.sudo_verdict.specs.Decided.{list_decision}
use Rattle.sudo_verdict.specs.Body.Silence.{SectionsSilent}
use Rattle.sudo_verdict.proofs.Silent.{rule-silent}
use Rattle.sudo_verdict.proofs.index.postings.Postings.post_entry.Goals as goal

pub returns-in_ok-post_members-in-Rule-clause-covers : goal.returns-in_ok-post_members-in-Rule-clause-covers
returns-in_ok-post_members-in-Rule-clause-covers c =
    on_ok c.post_sections.result
    (λ silent.
    rule-silent c.args.checked.now c.post_members.new.self.rows.rows.items c.post_sections.new.self.rows.rows.items
    c.args.rule c.args.entry.now
    c.in-Rule.users c.in-Rule.sections c.in-Rule.is
    (λ test s. ap (λ ms. list_decision kind.User c.args.checked.now ms test) (sym c.as_slice.ensures)
    ∙ c.in_ok-post_members-in-Rule.ensures.covers test s)
    (λ test s. subst (SectionsSilent c.args.checked.now test) c.as_slice-in-Rule.ensures (silent test s)))
    c.post_sections.ensures.covers
