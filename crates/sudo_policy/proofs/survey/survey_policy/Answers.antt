use Rattle.std.proofs.Common.{List, map, sym, ap, ◌∙◌, subst}
use Rattle.std.specs.Prelude.{All}
use Rattle.sudo_policy.specs.declared.survey.DefinitionRef.{DefinitionRef}
use Rattle.sudo_policy.specs.Definitions.{AliasDefinition}
use Rattle.sudo_policy.specs.Body.DefinitionRef.{alias_view, IsSurvey, IsAtItsPosition}
use Rattle.sudo_policy.proofs.survey.survey_policy.Goals as goal

pub returns : goal.returns
returns c =
    let p = c.args.policy.now in
    let same = c.as_slice.ensures.value in
    subst (λ (ds : List AliasDefinition). IsSurvey p ds c.in_ok-take_survey.field-0) (ap (map alias_view) same ∙ c.in_ok-all.ensures.all)
    (c.in_ok-take_survey.ensures p (subst (λ (ns : List DefinitionRef). All (IsAtItsPosition p) ns) (sym same) c.in_ok-all.ensures.placed))
