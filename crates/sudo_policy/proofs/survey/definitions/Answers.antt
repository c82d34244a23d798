use Rattle.std.proofs.Common.{◌≡◌, ◌<◌, List, get_or, map, length, refl, ap, ◌∙◌, subst}
use Rattle.std.proofs.lemmas.Option.{slice_get_read}
use Rattle.sudo_grammar.specs.declared.policy.Entry.{Entry}
use Rattle.sudo_policy.specs.Definitions.{definitions_of}
use Rattle.sudo_policy.specs.Body.DefinitionRef.{alias_view}
use Rattle.sudo_policy.proofs.SurveyLemmas.{flat_step}
use Rattle.sudo_policy.proofs.survey.definitions.Goals as goal

pub loop-at-preserved : goal.loop-at-preserved
loop-at-preserved c =
    let entries = c.args.policy.now.entries in
    let same = c.as_slice-entry-items.ensures in
    let less : c.loop-at.at < length entries = subst (λ (es : List Entry). c.loop-at.at < length es) same c.loop-at-test.true in
    let is : c.entry-item.result ≡ get_or entries c.loop-at.at c.entry-item.result = c.entry-item.is
    ∙ ap (λ (es : List Entry). get_or es c.loop-at.at c.entry-item.result) same in
    record {
      all = flat_step definitions_of (map alias_view c.loop-at.all.items) (map alias_view c.push_entry.new.all.items)
          entries c.loop-at.at c.entry-item.result _ c.in_ok-push_entry.ensures.all less is c.loop-at.invariant.all;
      placed = c.in_ok-push_entry.ensures.placed c.args.policy.now
          (slice_get_read entries (length entries) c.loop-at.at c.entry-item.result refl less is) c.loop-at.invariant.placed;
    }
