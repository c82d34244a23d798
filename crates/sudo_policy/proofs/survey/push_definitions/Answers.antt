use Rattle.std.proofs.Common.{Some, length, refl, sym, ap, ◌∙◌}
use Rattle.std.specs.Prelude.{option_map}
use Rattle.std.proofs.lemmas.Option.{slice_get_read}
use Rattle.sudo_grammar.specs.declared.policy.Definition.{Definition}
use Rattle.sudo_policy.proofs.SurveyLemmas.{placed_push, push_step, same_defined}
use Rattle.sudo_policy.specs.Definitions.{definition_in}
use Rattle.sudo_policy.specs.Body.DefinitionRef.{alias_view}
use Rattle.sudo_policy.proofs.survey.push_definitions.Goals as goal

pub loop-at-preserved : goal.loop-at-preserved
loop-at-preserved c =
    record {
      all = push_step alias_view (definition_in c.args.kind c.args.place) c.loop-at.all.items c.push.new.self.items _
          c.args.definitions.now c.loop-at.at c.index-definitions-at.result _
          c.in_ok-push.ensures.items c.loop-at-test.true c.index-definitions-at.is
          (same_defined c.args.kind c.args.place _ _ _ _ c.as_slice.ensures c.as_slice-in-loop-at.ensures)
          c.loop-at.invariant.all;
      placed = λ p stand all.
          placed_push p c.loop-at.all.items c.push.new.self.items _ c.in_ok-push.ensures.items (c.loop-at.invariant.placed p stand all)
          (stand c.loop-at.at
          ∙ ap (option_map (λ (d : Definition). d.members))
          (slice_get_read c.args.definitions.now (length c.args.definitions.now) c.loop-at.at
          c.index-definitions-at.result refl c.loop-at-test.true c.index-definitions-at.is)
          ∙ ap Some (sym c.as_slice-in-loop-at.ensures));
    }
