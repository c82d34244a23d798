-- Lists that resolve: whose aliases are all defined, to a limited depth. sudoers(5), "Aliases".
use Rattle.std.specs.Prelude.{Bool, true, ◌&&◌, List, Option, Some, None, IsTrue, is_some, Contains}
use Rattle.std.specs.List.{list_all}
use Rattle.sudo_grammar.specs.declared.kind.Kind.{Kind}
use Rattle.sudo_grammar.specs.declared.kind.Kind.TheVariants.{Runas}
use Rattle.sudo_grammar.specs.declared.kind.Member.{Member}
use Rattle.sudo_grammar.specs.declared.policy.Policy.{Policy}
use Rattle.sudo_grammar.specs.declared.policy.Runas.{Runas as RunasPart}
use Rattle.sudo_policy.specs.Definitions.{lists, MemberList}
use Rattle.sudo_policy.specs.Following.{reading_within}
use Rattle.sudo_policy.specs.Written.{writing, IsWrittenOut, written_form}

-- a list resolves: every alias that it reaches is defined, and at most 64 definitions are nested
unfoldable pub resolves : Kind → Policy → List Member → Bool
resolves kind p ms = is_some (reading_within writing kind p 64 ms)

-- every list of the policy resolves: those of rules, runas, bound `Defaults` lines and alias definitions
unfoldable pub IsSound : Policy → Type 0
IsSound p = IsTrue (list_all (λ (l : MemberList). resolves l.kind p l.members) (lists p))

-- the written form of each list of the policy is `written_form`
abbrev pub AreWritten : Policy → Type 0
AreWritten p = (l : MemberList) → Contains (lists p) l → IsWrittenOut l.kind p l.members (written_form l.kind p l.members)

-- the lists of a rule resolve, part by part

abbrev pub list_resolves : Policy → Option (List Member) → Bool
list_resolves p None = true
list_resolves p (Some members) = resolves Runas p members

-- both lists of a runas resolve; a group list names Runas aliases
abbrev pub runas_resolves : Policy → Option RunasPart → Bool
runas_resolves p None = true
runas_resolves p (Some part) = list_resolves p part.users && list_resolves p part.groups
