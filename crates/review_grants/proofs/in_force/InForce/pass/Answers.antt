use Rattle.std.proofs.Common.{◌++◌, ◌∙◌, List, ap, flat_map, sym}
use Rattle.sudo_base.proofs.Options.{on_ok}
use Rattle.sudo_grammar.specs.declared.tag.Tag.{Tag}
use Rattle.sudo_verdict.specs.Tagged.{runas_before, tags_named}
use Rattle.review_grants.specs.GrantRows.{runas_text}
use Rattle.review_grants.proofs.TagSteps.{runas_before-more, tags_before-more, tags_before-named}
use Rattle.review_grants.proofs.in_force.InForce.pass.Goals as goal

pub returns : goal.returns
returns c = on_ok c.set_runas.result
    (λ h before behind. record {
      runas = h (runas_before before) behind.runas
          ∙ ap (runas_text c.args.checked.now) (sym (runas_before-more before c.args.spec.now));
      tags = c.with_all_later-self.ensures (flat_map (λ s. s.tags) before) (behind.tags ∙ tags_before-named before)
          ∙ ap (λ (ts : List Tag). tags_named (flat_map (λ s. s.tags) before ++ ts)) c.as_slice.ensures
          ∙ tags_before-more before c.args.spec.now;
    })
    c.set_runas.ensures
