-- The decision of a list: that of the last atom of the written-out list that passes a test.
use Rattle.std.specs.Prelude.{Bool, List, Option, option_map}
use Rattle.sudo_grammar.specs.declared.kind.Kind.{Kind}
use Rattle.sudo_grammar.specs.declared.kind.Atom.{Atom}
use Rattle.sudo_grammar.specs.declared.kind.Signed.{Signed}
use Rattle.sudo_grammar.specs.declared.kind.Member.{Member}
use Rattle.sudo_grammar.specs.declared.policy.Policy.{Policy}
use Rattle.sudo_policy.specs.Written.{written_form}
use Rattle.sudo_verdict.specs.declared.decision.Decision.{Decision}
use Rattle.sudo_verdict.specs.Last.{last_that}
use Rattle.sudo_verdict.specs.Values.{is_all}

-- the decision of a signed atom
abbrev pub decision_of : Signed → Decision
decision_of s = record { negated = s.negated; all = is_all s.atom }

-- the decision of a written-out list
unfoldable pub decided_in : (Atom → Bool) → List Signed → Option Decision
decided_in test list = option_map decision_of (last_that (λ s. test s.atom) list)

-- the decision of a list: that of its written form
unfoldable pub list_decision : Kind → Policy → List Member → (Atom → Bool) → Option Decision
list_decision kind p list test = decided_in test (written_form kind p list)
