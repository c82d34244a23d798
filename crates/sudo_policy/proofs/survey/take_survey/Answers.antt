use Rattle.std.proofs.Common.{◌≡◌, ◌++◌, [], ◌∷◌, ◌+◌, List, map, take, get_or, sym, ◌∙◌, ap, subst}
use Rattle.std.proofs.lemmas.List.{map_push, take_more}
use Rattle.sudo_policy.proofs.SurveyLemmas.{take-whole}
use Rattle.sudo_policy.specs.declared.survey.DefinitionRef.{DefinitionRef}
use Rattle.sudo_policy.specs.Definitions.{AliasDefinition}
use Rattle.sudo_policy.specs.Body.DefinitionRef.{alias_view, IsSurvey, IsAtItsPosition}
use Rattle.sudo_policy.proofs.survey.take_survey.Goals as goal

pub loop-definition-preserved : goal.loop-definition-preserved
loop-definition-preserved c p all =
    let ds = c.args.definitions.now in
    let i = c.loop-definition.definition-index in
    let item = c.definition-item.result in
    let placed : IsAtItsPosition p item = subst (λ (n : DefinitionRef). IsAtItsPosition p n)
    (sym c.definition-item.is) (all i item c.loop-definition-test.true) in
    let more : map alias_view (take (i + 1) ds) ≡ map alias_view (take i ds) ++ alias_view item ∷ [] =
    ap (map alias_view) (take_more ds i item c.loop-definition-test.true)
    ∙ map_push alias_view (take i ds) (get_or ds i item)
    ∙ ap (λ (n : DefinitionRef). map alias_view (take i ds) ++ alias_view n ∷ []) (sym c.definition-item.is) in
    subst (λ (done : List AliasDefinition). IsSurvey p done c.add.new.self) (sym more)
    (c.in_ok-add.ensures.kept p (map alias_view (take i ds)) placed (c.loop-definition.invariant p all))

pub returns : goal.returns
returns c p all =
    let ds = c.args.definitions.now in
    let whole : take c.loop-definition.definition-index ds ≡ ds =
    take-whole ds c.loop-definition.definition-index c.loop-definition-test.false in
    subst (λ (done : List AliasDefinition). IsSurvey p done c.loop-definition.survey) (ap (map alias_view) whole)
    (c.loop-definition.invariant p all)
