use Rattle.std.proofs.Common.{◌∙◌, ◌++◌, List, ap, flat_map, option_copied, sym}
use Rattle.std.specs.Option.{option_or}
use Rattle.sudo_grammar.specs.declared.tag.Tag.{Tag}
use Rattle.sudo_verdict.specs.Tagged.{tags_named}
use Rattle.review_grants.proofs.ItemLemmas.{copied-or}
use Rattle.review_grants.proofs.TagSteps.{runas_before-more, tags_before-more, tags_before-named}
use Rattle.review_roots.proofs.blocks.in_force_at.Goals as goal

pub returns : goal.returns
returns c = λ before h. (
  ap option_copied c.or.ensures ∙ copied-or c.as_ref.result c.args.before.runas
      ∙ ap (λ o. option_or o (option_copied c.args.before.runas)) c.as_ref.ensures.value
      ∙ ap (option_or c.args.spec.now.runas) h.0 ∙ sym (runas_before-more before c.args.spec.now),
  c.with_all_later.ensures (flat_map (λ s. s.tags) before) (h.1 ∙ tags_before-named before)
      ∙ ap (λ (ts : List Tag). tags_named (flat_map (λ s. s.tags) before ++ ts)) c.as_slice.ensures
      ∙ tags_before-more before c.args.spec.now,
)
