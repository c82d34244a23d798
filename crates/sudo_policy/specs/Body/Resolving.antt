-- Lists that resolve: whose aliases are all defined, to a limited depth. sudoers(5), "Aliases". Only proofs of bodies use these.
use Rattle.std.specs.Prelude.{ℕ, max, Bool, ◌&&◌, List, [], ◌∷◌, unwrap_or}
use Rattle.std.specs.List.{list_all}
use Rattle.sudo_grammar.specs.declared.kind.Kind.{Kind}
use Rattle.sudo_grammar.specs.declared.kind.Kind.TheVariants.{User, Host, Cmnd}
use Rattle.sudo_grammar.specs.declared.kind.Member.{Member}
use Rattle.sudo_grammar.specs.declared.policy.CommandSpec.{CommandSpec}
use Rattle.sudo_grammar.specs.declared.policy.Policy.{Policy}
use Rattle.sudo_grammar.specs.declared.policy.Section.{Section}
use Rattle.sudo_policy.specs.Following.{depth, reading_within}
use Rattle.sudo_policy.specs.Resolving.{resolves, runas_resolves}

-- the greatest value of f on the items, or 0
abbrev pub greatest : {X : Type 0} → (X → ℕ) → List X → ℕ
greatest f [] = 0
greatest f (x ∷ xs) = max (f x) (greatest f xs)

-- the depth of nested definitions in a list; 0 for a member that does not resolve
unfoldable pub rank : Kind → Policy → List Member → ℕ
rank kind p ms = greatest (λ (m : Member). unwrap_or (reading_within depth kind p 64 (m ∷ [])) 0) ms

abbrev pub command_resolves : Policy → CommandSpec → Bool
command_resolves p spec = resolves Cmnd p (spec.command ∷ []) && runas_resolves p spec.runas

abbrev pub section_resolves : Policy → Section → Bool
section_resolves p section = resolves Host p section.hosts && list_all (command_resolves p) section.commands

abbrev pub rule_resolves : Policy → List Member → List Section → Bool
rule_resolves p users sections = resolves User p users && list_all (section_resolves p) sections
