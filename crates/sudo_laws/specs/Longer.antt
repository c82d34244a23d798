-- A policy with one more rule. sudoers(5), "User Specification".
use Rattle.std.specs.Prelude.{◌≡◌, List, [], ◌∷◌, ◌++◌}
use Rattle.sudo_grammar.specs.declared.kind.Member.{Member}
use Rattle.sudo_grammar.specs.declared.policy.Entry.{Entry}
use Rattle.sudo_grammar.specs.declared.policy.EntryBody.TheVariants.{Rule}
use Rattle.sudo_grammar.specs.declared.policy.Policy.{Policy}
use Rattle.sudo_grammar.specs.declared.policy.Section.{Section}

-- the longer policy has the entries of the first, and this rule behind them
pub record AddsRule (p : Policy) (rule : Entry) (longer : Policy) : Type 0 where
  pub users : List Member
  pub sections : List Section
  pub is_rule : rule.body ≡ Rule users sections
  pub entries : longer.entries ≡ p.entries ++ rule ∷ []
