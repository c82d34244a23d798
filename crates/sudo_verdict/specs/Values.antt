-- The value of a list for a user, a group, a host or a command. sudoers(5), "User_List", "Host_List", "Cmnd_List".
use Rattle.std.specs.Prelude.{Bool, true, false, not, List, Option, option_map, unwrap_or}
use Rattle.sudo_grammar.specs.declared.kind.Kind.{Kind}
use Rattle.sudo_grammar.specs.declared.kind.Kind.TheVariants as kind
use Rattle.sudo_grammar.specs.declared.kind.Atom.{Atom}
use Rattle.sudo_grammar.specs.declared.kind.Atom.TheVariants.{All}
use Rattle.sudo_grammar.specs.declared.kind.Member.{Member}
use Rattle.sudo_grammar.specs.declared.policy.Policy.{Policy}
use Rattle.sudo_policy.specs.Written.{written_form}
use Rattle.sudo_match.specs.declared.people.Machine.{Machine}
use Rattle.sudo_match.specs.declared.people.Person.{Person}
use Rattle.sudo_match.specs.Matching.{user_fits, host_fits}
use Rattle.sudo_verdict.specs.Last.{last_that}
use Rattle.sudo_verdict.specs.Questions.{Question}

abbrev pub is_all : Atom → Bool
is_all All = true
is_all _ = false

-- the value of a list: the sign of the last atom of the written-out list that passes the test (true for allow), or
-- none; for each list of a checked policy, `written_form` is its written form (`lists_are_written`)
unfoldable pub value : Kind → Policy → List Member → (Atom → Bool) → Option Bool
value kind p list test = option_map (λ s. not s.negated) (last_that (λ s. test s.atom) (written_form kind p list))

abbrev pub allows : Option Bool → Bool
allows v = unwrap_or v false

-- the user list of a rule allows a user
abbrev pub user_allowed : Policy → List Member → Person → Bool
user_allowed p users u = allows (value kind.User p users (λ a. user_fits a u))

-- the host list of a section allows a host
abbrev pub host_allowed : Policy → List Member → Machine → Bool
host_allowed p hosts m = allows (value kind.Host p hosts (λ a. host_fits a m))

-- the user list of a rule allows the invoking user
abbrev pub user_listed : Policy → List Member → Question → Bool
user_listed p users q = user_allowed p users q.user

-- the host list of a section allows the host
abbrev pub host_listed : Policy → List Member → Question → Bool
host_listed p hosts q = host_allowed p hosts q.host
