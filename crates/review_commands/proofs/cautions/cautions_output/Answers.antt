use Rattle.std.proofs.Common.{◌≡◌, ◌∙◌, List, subst}
use Rattle.review_cautions.specs.declared.caution.Caution.{Caution}
use Rattle.review_commands.specs.CautionLines.{cautions_status, cautions_text, kept_cautions}
use Rattle.review_commands.proofs.cautions.cautions_output.Goals as goal

pub returns-clause-printed : goal.returns-clause-printed
returns-clause-printed g c =
    let printed = c.in_ok-printed.printed in
    let loaded = c.in_ok-loaded.loaded in
    let kept : List Caution = kept_cautions c.args.without.now c.in_ok-found.found.items in
    record {
      policy = loaded.policy;
      found = c.in_ok-found.found.items;
      are = record {
        main = loaded.text;
        handed = loaded.supplies;
        loaded = c.in_ok-loaded.ensures.loaded;
        found_are = c.in_ok-found.ensures;
      };
      text_is =
          subst (λ files. printed.text.items ≡ cautions_text files kept) c.as_slice.ensures
          (subst (λ (f : List Caution). printed.text.items ≡ cautions_text c.as_slice.result.now f)
          (c.deref.ensures.value ∙ c.listed-kept.ensures) c.in_ok-printed.ensures.text);
      status_is = subst (λ (f : List Caution). printed.status ≡ cautions_status f)
          (c.deref.ensures.value ∙ c.listed-kept.ensures) c.in_ok-printed.ensures.status;
    }
