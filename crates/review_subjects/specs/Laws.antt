-- What the laws of this crate say beside those of idle rules and of counts.
use Rattle.std.specs.Prelude.{◌≡◌, IsTrue}
use Rattle.sudo_grammar.specs.declared.policy.Policy.{Policy}
use Rattle.sudo_match.specs.declared.request.Request.{Request}
use Rattle.sudo_match.specs.KnownRows.{KnownRows}
use Rattle.sudo_policy.specs.Checking.{Passes}
use Rattle.sudo_policy.specs.Definitions.{aliases, definitions}
use Rattle.sudo_verdict.specs.Verdicts.{verdict_of}
use Rattle.review_subjects.specs.Counts.{is_of_rule, rule_places}

-- in a policy that passes the check, each definition of an alias is in force
abbrev pub DefinitionsAreInForce : Type 0
DefinitionsAreInForce = (p : Policy) → Passes p → aliases p ≡ definitions p

-- a verdict that allows or denies has the place of a rule
abbrev pub VerdictsAreOfRules : Type 0
VerdictsAreOfRules = (p : Policy) (d : KnownRows) (r : Request) → IsTrue (is_of_rule (rule_places p) (verdict_of p d r))
