use Rattle.std.proofs.Common.{◌∙◌, subst}
use Rattle.sudo_grammar.specs.declared.policy.Section.{Section}
use Rattle.sudo_policy.specs.Body.Resolving.{section_resolves}
use Rattle.sudo_verdict.specs.Body.Silence.{CommandsSilent}
use Rattle.sudo_verdict.proofs.Lasts.{back_rest}
use Rattle.sudo_verdict.proofs.Misses.{grows-on}
use Rattle.sudo_verdict.proofs.Silent.{silent-old, each-more}
use Rattle.sudo_verdict.proofs.index.postings.Posting.post_sections.Goals as goal

pub loop-section-preserved : goal.loop-section-preserved
loop-section-preserved c =
    let is = c.in-Some.ensures.cases.0 in
    let p = c.args.checked.now in
    record {
      count = c.post_commands.ensures.count ∙ c.loop-section.invariant.count;
      grows = grows-on c.args.self.now.rows.rows.items c.loop-section.self.rows.rows.items
          c.post_commands.new.self.rows.rows.items c.loop-section.invariant.grows c.post_commands.ensures.grows;
      resolve = back_rest (section_resolves p) c.loop-section.left.now c.in-Some.rest.now c.in-Some.section.now is
          c.loop-section.invariant.resolve;
      silent = λ test s rest.
          c.loop-section.invariant.silent test
          (silent-old c.loop-section.self.rows.rows.items c.post_commands.new.self.rows.rows.items c.args.rule
          test c.post_commands.ensures.grows s)
          (each-more (λ (s : Section). CommandsSilent p test s.commands) c.loop-section.left.now c.in-Some.rest.now
          c.in-Some.section.now is rest
          (subst (CommandsSilent p test) c.as_slice.ensures (c.in_ok-post_commands.ensures.covers test s)));
    }
