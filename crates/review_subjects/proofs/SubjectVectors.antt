-- Worked examples of subjects, each by computation. The comment of each has its lines as sudoers(5) writes them.
use Rattle.std.proofs.Common.{◌≡◌, ℕ, List, [], ◌∷◌, map, Option, Some, None, refl, IsTrue, false}
use Rattle.std.specs.Prelude.{codes, decimal, nat_lt, not}
use Rattle.std.specs.List.{list_all}
use Rattle.sudo_text.specs.declared.line.Place.{Place}
use Rattle.sudo_text.specs.declared.token.Mark.TheVariants.{Bang}
use Rattle.sudo_text.specs.declared.token.TokenKind.TheVariants as token
use Rattle.sudo_grammar.specs.Body.Includes.{is_include_entry}
use Rattle.sudo_grammar.specs.declared.kind.Kind.{Kind}
use Rattle.sudo_grammar.specs.declared.kind.Kind.TheVariants as kinds
use Rattle.sudo_grammar.specs.declared.kind.Atom.{Atom}
use Rattle.sudo_grammar.specs.declared.kind.Atom.TheVariants as atoms
use Rattle.sudo_grammar.specs.declared.kind.Member.{Member}
use Rattle.sudo_grammar.specs.declared.policy.Binding.TheVariants as bindings
use Rattle.sudo_grammar.specs.declared.policy.Runas.{Runas}
use Rattle.sudo_grammar.specs.declared.policy.CommandSpec.{CommandSpec}
use Rattle.sudo_grammar.specs.declared.policy.Section.{Section}
use Rattle.sudo_grammar.specs.declared.policy.Entry.{Entry}
use Rattle.sudo_grammar.specs.declared.policy.EntryBody.TheVariants.{Aliases, Defaults, Rule}
use Rattle.sudo_grammar.specs.declared.policy.Policy.{Policy}
use Rattle.sudo_match.specs.declared.people.Person.{Person}
use Rattle.sudo_match.specs.KnownRows.{KnownRows}
use Rattle.sudo_match.specs.Matching.{user_fits, group_fits, host_fits}
use Rattle.sudo_match.specs.Pattern.{begins, range_at, items_after, bracket_after, part_at, parts_after, cuts, fits}
use Rattle.sudo_match.specs.HostNames.{free_bangs, host_chars}
use Rattle.sudo_policy.specs.Following.{reading_within}
use Rattle.sudo_policy.specs.Written.{written_form}
use Rattle.sudo_parser.specs.Texts.{address_text}
use Rattle.sudo_verdict.specs.Values.{value}
use Rattle.review_subjects.specs.declared.kind.SubjectKind.{SubjectKind}
use Rattle.review_subjects.specs.declared.kind.SubjectKind.TheVariants as subjects
use Rattle.review_subjects.specs.declared.kind.SubjectFault.TheVariants.{Unknown, ReachesNobody}
use Rattle.review_subjects.specs.declared.role.Role.TheVariants.{Users, Groups, Targets, Hosts}
use Rattle.review_subjects.specs.declared.subject.Subject.{Subject}
use Rattle.review_subjects.specs.Unknown.{list_subjects}
use Rattle.review_subjects.specs.Subjects.{policy_subjects}

-- ---- root, alice of the group adm, and the host web1

abbrev person : List ℕ → ℕ → List ℕ → ℕ → Person
person name uid group gid = record { name = name; uid = uid; groups = record { name = group; gid = gid } ∷ [] }

abbrev known : KnownRows
known = record {
  people = person (codes "root") 0 (codes "root") 0 ∷ person (codes "alice") 1000 (codes "adm") 4 ∷ [];
  machines = record { name = codes "web1.example"; interfaces = [] } ∷ [];
}

-- ---- Members

abbrev with_bangs : ℕ → Atom → Member
with_bangs n a = record { bangs = n; token = record { kind = token.Mark Bang; start = 0; «end» = 0 }; atom = a }

abbrev pub one : Atom → Member
one a = with_bangs 0 a

abbrev named : List ℕ → Member
named n = one (atoms.Name n)

abbrev everybody : List Member
everybody = one atoms.All ∷ []

abbrev nobody : List Member
nobody = with_bangs 1 atoms.All ∷ []

abbrev alice : List Member
alice = named (codes "alice") ∷ []

abbrev carol : List Member
carol = named (codes "carol") ∷ []

abbrev host : List ℕ → Member
host name = one (atoms.Host (map (λ b. record { byte = b; escaped = false }) name) false)

-- ---- Lines

abbrev pub line : ℕ → Place
line n = record { file = 0; line = n }

abbrev pub command : Option Runas → CommandSpec
command r = record { runas = r; tags = []; command = one atoms.All }

abbrev run_as : Option (List Member) → Option (List Member) → Option Runas
run_as users groups = Some (record { users = users; groups = groups })

abbrev on : List Member → List CommandSpec → Section
on hosts commands = record { hosts = hosts; commands = commands }

abbrev rule : ℕ → List Member → List Section → Entry
rule n users sections = record { place = line n; body = Rule users sections }

-- a rule of alice on all hosts
abbrev pub alice_runs : ℕ → List CommandSpec → Entry
alice_runs n commands = rule n alice (on everybody commands ∷ [])

abbrev alias : Kind → ℕ → List ℕ → List Member → Entry
alias k n name members = record { place = line n; body = Aliases k (record { name = name; members = members } ∷ []) }

abbrev pub policy : (entries : List Entry) → IsTrue (list_all (λ (e : Entry). nat_lt e.place.file 1) entries)
    → IsTrue (list_all (λ (e : Entry). not (is_include_entry e.body)) entries) → Policy
policy entries placed unfolded = record { files = [] ∷ []; entries = entries; placed = placed; unfolded = unfolded }

-- ---- Rows

abbrev unknown : ℕ → SubjectKind → List ℕ → Subject
unknown n kind name = record { place = line n; kind = kind; name = name; fault = Unknown }

abbrev idle : ℕ → SubjectKind → List ℕ → Subject
idle n kind name = record { place = line n; kind = kind; name = name; fault = ReachesNobody }

-- `alice, !carol, %adm, %ops, #77, %#4, ALL, X` in a list of users: the sign does not matter; `ALL` and an alias are nobody
unknown_users :
    list_subjects known (line 1) Users (named (codes "alice") ∷ with_bangs 1 (atoms.Name (codes "carol"))
    ∷ one (atoms.Group (codes "adm")) ∷ one (atoms.Group (codes "ops")) ∷ one (atoms.Uid 77) ∷ one (atoms.Gid 4)
    ∷ one atoms.All ∷ one (atoms.Alias (codes "X")) ∷ [])
    ≡ unknown 1 subjects.User (codes "carol") ∷ unknown 1 subjects.Group (codes "%ops") ∷ unknown 1 subjects.Uid (35 ∷ decimal 77) ∷ []
unfolding user_fits
unknown_users = refl

-- `adm` and `alice`: each is one or the other in a Runas alias; in a list of users only alice is one, and in one of groups adm
targets :
    (list_subjects known (line 1) Targets (named (codes "adm") ∷ named (codes "alice") ∷ named (codes "carol") ∷ [])
    ≡ unknown 1 subjects.User (codes "carol") ∷ [])
    × (list_subjects known (line 1) Users (named (codes "adm") ∷ named (codes "alice") ∷ []) ≡ unknown 1 subjects.User (codes "adm") ∷ [])
    × (list_subjects known (line 1) Groups (named (codes "adm") ∷ named (codes "alice") ∷ one (atoms.Uid 5) ∷ [])
    ≡ unknown 1 subjects.Group (codes "alice") ∷ unknown 1 subjects.Gid (35 ∷ decimal 5) ∷ [])
unfolding user_fits group_fits
targets = (refl, refl, refl)

-- `web*, mail, 10.0.0.1` in a list of hosts
unknown_hosts :
    list_subjects known (line 1) Hosts (host (codes "web*") ∷ host (codes "mail") ∷ one (atoms.Address 167772161) ∷ [])
    ≡ unknown 1 subjects.Host (codes "mail") ∷ unknown 1 subjects.Address (address_text 167772161) ∷ []
unfolding host_fits host_chars free_bangs parts_after part_at bracket_after items_after range_at begins fits cuts
unknown_hosts = refl

-- 1: `carol ALL = ALL`; 2: `alice ALL = (carol) ALL`; 3: `alice ALL = ALL, (carol) ALL`; 4: `alice ALL = (carol) ALL, (alice) ALL`
rules :
    policy_subjects (policy (rule 1 carol (on everybody (command None ∷ []) ∷ [])
    ∷ alice_runs 2 (command (run_as (Some carol) None) ∷ [])
    ∷ alice_runs 3 (command None ∷ command (run_as (Some carol) None) ∷ [])
    ∷ alice_runs 4 (command (run_as (Some carol) None) ∷ command (run_as (Some alice) None) ∷ []) ∷ []) refl refl) known
    ≡ unknown 1 subjects.User (codes "carol") ∷ idle 1 subjects.Rule [] ∷ unknown 2 subjects.User (codes "carol")
    ∷ idle 2 subjects.Rule [] ∷ unknown 3 subjects.User (codes "carol") ∷ unknown 4 subjects.User (codes "carol") ∷ []
unfolding reading_within written_form user_fits host_fits value
rules = refl

-- 1: `alice mail = ALL`; 2: `alice mail = ALL : web1 = ALL`
sections :
    policy_subjects (policy (rule 1 alice (on (host (codes "mail") ∷ []) (command None ∷ []) ∷ [])
    ∷ rule 2 alice (on (host (codes "mail") ∷ []) (command None ∷ []) ∷ on (host (codes "web1") ∷ []) (command None ∷ []) ∷ []) ∷ [])
    refl refl) known
    ≡ unknown 1 subjects.Host (codes "mail") ∷ idle 1 subjects.Rule [] ∷ unknown 2 subjects.Host (codes "mail") ∷ []
unfolding reading_within written_form user_fits host_fits value
    host_chars free_bangs parts_after part_at bracket_after items_after range_at begins fits cuts
sections = refl

-- 1: `alice ALL = (carol : ops) ALL`, by which alice can run as alice with the group adm; 2: `alice ALL = (!ALL : adm) ALL`;
-- 3: `alice ALL = (carol : !ALL) ALL`; 4: `alice ALL = (: ops) ALL`; 5: `alice ALL = () ALL`
forms :
    policy_subjects (policy (alice_runs 1 (command (run_as (Some carol) (Some (named (codes "ops") ∷ []))) ∷ [])
    ∷ alice_runs 2 (command (run_as (Some nobody) (Some (named (codes "adm") ∷ []))) ∷ [])
    ∷ alice_runs 3 (command (run_as (Some carol) (Some nobody)) ∷ [])
    ∷ alice_runs 4 (command (run_as None (Some (named (codes "ops") ∷ []))) ∷ [])
    ∷ alice_runs 5 (command (run_as None None) ∷ []) ∷ []) refl refl) known
    ≡ unknown 1 subjects.User (codes "carol") ∷ unknown 1 subjects.Group (codes "ops") ∷ idle 2 subjects.Rule []
    ∷ unknown 3 subjects.User (codes "carol") ∷ idle 3 subjects.Rule [] ∷ unknown 4 subjects.Group (codes "ops") ∷ []
unfolding reading_within written_form user_fits group_fits host_fits value
forms = refl

-- `User_Alias A = alice, !alice`; `User_Alias B = A`; `Runas_Alias C = adm`; `Cmnd_Alias D = !ALL`; `Defaults:carol insults`
aliases :
    policy_subjects (policy (alias kinds.User 1 (codes "A") (named (codes "alice") ∷ with_bangs 1 (atoms.Name (codes "alice")) ∷ [])
    ∷ alias kinds.User 2 (codes "B") (one (atoms.Alias (codes "A")) ∷ [])
    ∷ alias kinds.Runas 3 (codes "C") (named (codes "adm") ∷ [])
    ∷ alias kinds.Cmnd 4 (codes "D") nobody
    ∷ record { place = line 5; body = Defaults (Some (bindings.Users carol)) [] } ∷ []) refl refl) known
    ≡ idle 1 subjects.Alias (codes "A") ∷ idle 2 subjects.Alias (codes "B") ∷ unknown 5 subjects.User (codes "carol") ∷ []
unfolding reading_within written_form user_fits group_fits host_fits value
aliases = refl
