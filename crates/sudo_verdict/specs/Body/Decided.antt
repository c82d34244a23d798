-- The decision of a list: that of the last atom of the written-out list that passes a test. Only proofs of bodies use these.
use Rattle.std.specs.Prelude.{Bool}
use Rattle.sudo_policy.specs.Written.{differ}
use Rattle.sudo_verdict.specs.declared.decision.Decision.{Decision}

-- the decision with the opposite sign if `negated`
abbrev pub negated_once : Bool → Decision → Decision
negated_once negated d = record { negated = differ negated d.negated; all = d.all }
