-- Lines whose lists resolve; only proofs of bodies need it.
use Rattle.std.specs.Prelude.{Bool, true}
use Rattle.sudo_grammar.specs.declared.policy.EntryBody.{EntryBody}
use Rattle.sudo_grammar.specs.declared.policy.EntryBody.TheVariants.{Rule}
use Rattle.sudo_grammar.specs.declared.policy.Policy.{Policy}
use Rattle.sudo_policy.specs.Body.Resolving.{rule_resolves}

-- the lists of a rule resolve
abbrev pub body_resolves : Policy → EntryBody → Bool
body_resolves p (Rule users sections) = rule_resolves p users sections
body_resolves p _ = true
