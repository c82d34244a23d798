use Rattle.std.proofs.Common.{take, map}
use Rattle.std.specs.Prelude.{All}
use Rattle.sudo_grammar.specs.declared.policy.Policy.{Policy}
use Rattle.sudo_policy.specs.Body.DefinitionRef.{alias_view, IsSurvey, IsAtItsPosition}
use Rattle.sudo_policy.proofs.survey.take_survey.Given as goal

abbrev pub invariant-loop-definition : goal.invariant-loop-definition
invariant-loop-definition l = (p : Policy) → All (IsAtItsPosition p) l.definitions
    → IsSurvey p (map alias_view (take l.definition-index l.definitions)) l.survey
