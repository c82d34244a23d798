-- The index of a survey yields the definitions in force.
use Rattle.std.proofs.Common.{◌≡◌, ℕ, Option, None, Some, map, refl, sym, ◌∙◌, ap}
use Rattle.std.specs.Prelude.{slice_get, option_map, option_and_then}
use Rattle.sudo_grammar.specs.declared.policy.Policy.{Policy}
use Rattle.sudo_policy.specs.declared.survey.Survey.{Survey}
use Rattle.sudo_policy.specs.Definitions.{AliasDefinition, definitions}
use Rattle.sudo_policy.specs.Body.DefinitionRef.{IsSurvey, alias_view}
use Rattle.sudo_policy.specs.Positions.{members_at}
use Rattle.sudo_policy.specs.Body.Positions.{IsIndex, names_of_kind}
use Rattle.sudo_base.specs.NameIndices.{index_of}

pub IsIndex-survey : (p : Policy) (survey : Survey) → IsSurvey p (definitions p) survey → IsIndex p survey.index
IsIndex-survey p survey s kind name =
    ap (option_map (λ (d : AliasDefinition). d.members)) (sym (s.indexed.lookup kind name))
    ∙ by (index_of (names_of_kind survey.index kind) name)
  where
    by : (o : Option ℕ) → option_map (λ (d : AliasDefinition). d.members)
        (option_and_then (slice_get (map alias_view survey.aliases.items)) o) ≡ option_and_then (members_at p)
        (option_and_then (slice_get survey.index.positions.items) o)
    by None = refl
    by (Some i) = sym (s.indexed.placed i)
