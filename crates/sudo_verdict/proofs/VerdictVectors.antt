-- Worked examples of verdicts, each by computation. The comment of each has its rules and requests as sudoers(5) writes
-- them.
use Rattle.std.proofs.Common.{◌≡◌, ℕ, Bool, true, false, List, [], ◌∷◌, map, Option, Some, None, refl, IsTrue}
use Rattle.std.specs.Prelude.{codes, nat_lt, not}
use Rattle.std.specs.List.{list_all}
use Rattle.sudo_text.specs.declared.line.Place.{Place}
use Rattle.sudo_text.specs.declared.token.Ch.{Ch}
use Rattle.sudo_text.specs.declared.token.Mark.TheVariants.{Bang}
use Rattle.sudo_text.specs.declared.token.TokenKind.TheVariants as token
use Rattle.sudo_grammar.specs.Body.Includes.{is_include_entry}
use Rattle.sudo_grammar.specs.declared.kind.Kind.{Kind}
use Rattle.sudo_grammar.specs.declared.kind.Kind.TheVariants as kind
use Rattle.sudo_grammar.specs.declared.kind.Atom.{Atom}
use Rattle.sudo_grammar.specs.declared.kind.Atom.TheVariants as atom
use Rattle.sudo_grammar.specs.declared.kind.Member.{Member}
use Rattle.sudo_grammar.specs.Tags.{pairs}
use Rattle.sudo_grammar.specs.declared.tag.Tag.{Tag}
use Rattle.sudo_grammar.specs.declared.tag.TagPair.{TagPair}
use Rattle.sudo_grammar.specs.declared.tag.TagPair.TheVariants as pair
use Rattle.sudo_grammar.specs.declared.policy.Runas.{Runas}
use Rattle.sudo_grammar.specs.declared.policy.CommandSpec.{CommandSpec}
use Rattle.sudo_grammar.specs.declared.policy.Section.{Section}
use Rattle.sudo_grammar.specs.declared.policy.Entry.{Entry}
use Rattle.sudo_grammar.specs.declared.policy.EntryBody.TheVariants.{Aliases, Rule}
use Rattle.sudo_grammar.specs.declared.policy.Policy.{Policy}
use Rattle.sudo_match.specs.declared.people.Person.{Person}
use Rattle.sudo_match.specs.declared.people.Group.{Group}
use Rattle.sudo_match.specs.declared.request.Tags.{Tags}
use Rattle.sudo_match.specs.declared.request.Request.{Request}
use Rattle.sudo_match.specs.declared.request.What.TheVariants as what
use Rattle.sudo_match.specs.declared.request.Verdict.{Verdict}
use Rattle.sudo_match.specs.declared.request.Verdict.TheVariants.{Allow, Deny, NoMatch, Unknown}
use Rattle.sudo_policy.specs.Following.{reading_within}
use Rattle.sudo_policy.specs.Written.{written_form}
use Rattle.sudo_match.specs.KnownRows.{KnownRows, user_named, host_named, group_named}
use Rattle.sudo_match.specs.Matching.{user_fits, group_fits, host_fits, command_fits}
use Rattle.sudo_match.specs.Pattern.{begins, range_at, items_after, bracket_after, part_at, parts_after, cuts, fits}
use Rattle.sudo_match.specs.HostNames.{free_bangs, host_chars}
use Rattle.sudo_verdict.specs.Tagged.{tags_named, tags_before, tags_at, runas_before, runas_at}
use Rattle.sudo_verdict.specs.Questions.{question_of}
use Rattle.sudo_verdict.specs.Values.{value}
use Rattle.sudo_verdict.specs.RunasForms.{form_allows, runas_allows}
use Rattle.sudo_verdict.specs.Grants.{place_grants, section_grants, grants, applies}
use Rattle.sudo_verdict.specs.Verdicts.{verdict_on, verdict_of}

-- ---- Users and hosts

abbrev person : List ℕ → ℕ → List Group → Person
person name uid groups = record { name = name; uid = uid; groups = groups }

abbrev group : List ℕ → ℕ → Group
group name gid = record { name = name; gid = gid }

abbrev known : KnownRows
known = record {
  people =
      person (codes "root") 0 (group (codes "root") 0 ∷ [])
      ∷ person (codes "alice") 1000 (group (codes "alice") 1000 ∷ group (codes "adm") 4 ∷ [])
      ∷ person (codes "bob") 1001 (group (codes "bob") 1001 ∷ group (codes "operator") 37 ∷ [])
      ∷ person (codes "operator") 11 (group (codes "operator") 37 ∷ [])
      ∷ [];
  machines = record { name = codes "web1"; interfaces = [] } ∷ record { name = codes "web2"; interfaces = [] } ∷ [];
}

-- ---- Members: as written, negated, and by what they name

abbrev with_bangs : ℕ → Atom → Member
with_bangs n a = record { bangs = n; token = record { kind = token.Mark Bang; start = 0; «end» = 0 }; atom = a }

abbrev named : List ℕ → Member
named n = with_bangs 0 (atom.Name n)

abbrev aliased : List ℕ → Member
aliased n = with_bangs 0 (atom.Alias n)

abbrev not_aliased : List ℕ → Member
not_aliased n = with_bangs 1 (atom.Alias n)

abbrev everything : Member
everything = with_bangs 0 atom.All

abbrev spelled : List ℕ → List Ch
spelled bytes = map (λ b. record { byte = b; escaped = false }) bytes

abbrev path : List ℕ → Atom
path p = atom.Command (spelled p) None

abbrev command : List ℕ → Member
command p = with_bangs 0 (path p)

abbrev not_command : List ℕ → Member
not_command p = with_bangs 1 (path p)

abbrev host : List ℕ → Member
host name = with_bangs 0 (atom.Host (spelled name) false)

-- ---- Commands, sections, rules, policies

abbrev own : TagPair → Tag
own p = record { pair = p; on = true }

abbrev opposite : TagPair → Tag
opposite p = record { pair = p; on = false }

abbrev spec : Option Runas → List Tag → Member → CommandSpec
spec r tags c = record { runas = r; tags = tags; command = c }

abbrev plain : Member → CommandSpec
plain c = spec None [] c

abbrev as_users : List Member → Option Runas
as_users users = Some (record { users = Some users; groups = None })

abbrev on : List Member → List CommandSpec → Section
on hosts commands = record { hosts = hosts; commands = commands }

-- line n of the only file
abbrev line : ℕ → Place
line n = record { file = 0; line = n }

abbrev rule : ℕ → List Member → List Section → Entry
rule n users sections = record { place = line n; body = Rule users sections }

abbrev alias : Kind → ℕ → List ℕ → List Member → Entry
alias k n name members = record { place = line n; body = Aliases k (record { name = name; members = members } ∷ []) }

abbrev policy : (entries : List Entry) → IsTrue (list_all (λ (e : Entry). nat_lt e.place.file 1) entries)
    → IsTrue (list_all (λ (e : Entry). not (is_include_entry e.body)) entries) → Policy
policy entries placed unfolded = record { files = [] ∷ []; entries = entries; placed = placed; unfolded = unfolded }

abbrev alice_all : ℕ → List CommandSpec → Entry
alice_all n commands = rule n (named (codes "alice") ∷ []) (on (everything ∷ []) commands ∷ [])

-- ---- Requests by alice on web1

abbrev asks_on : List ℕ → List ℕ → Option (List ℕ) → Option (List ℕ) → Request
asks_on name c target group = record {
  number = 1;
  user = codes "alice";
  host = name;
  runas_user = target;
  runas_group = group;
  command = c;
  arguments = [];
}

abbrev asks : List ℕ → Request
asks c = asks_on (codes "web1") c None None

abbrev asks_as : Option (List ℕ) → Option (List ℕ) → Request
asks_as target group = asks_on (codes "web1") (codes "/bin/id") target group

abbrev choice_made : Option Bool → Option Bool → Option Bool → TagPair → Option Bool
choice_made exec passwd setenv pair.Exec = exec
choice_made exec passwd setenv pair.Passwd = passwd
choice_made exec passwd setenv pair.SetEnv = setenv
choice_made exec passwd setenv _ = None

-- choices for the pairs of EXEC, PASSWD and SETENV alone
abbrev chosen : Option Bool → Option Bool → Option Bool → Tags
chosen exec passwd setenv = record { choices = map (choice_made exec passwd setenv) pairs }

abbrev no_tags : Tags
no_tags = chosen None None None

abbrev allowed : ℕ → Verdict
allowed n = Allow (line n) no_tags

abbrev allowed_setenv : ℕ → Verdict
allowed_setenv n = Allow (line n) (chosen None None (Some true))

-- ---- Policies and verdicts

abbrev all_then_not_su : Policy
all_then_not_su = policy (alice_all 1 (plain everything ∷ plain (not_command (codes "/bin/su")) ∷ []) ∷ []) refl refl

abbrev not_su_then_all : Policy
not_su_then_all = policy (alice_all 1 (plain (not_command (codes "/bin/su")) ∷ plain everything ∷ []) ∷ []) refl refl

-- `alice ALL = ALL, !/bin/su`, and the other way round: the last match decides, and ALL brings SETENV
pub the_last_match_decides :
    (verdict_of all_then_not_su known (asks (codes "/bin/su")) ≡ Deny (line 1))
    × (verdict_of all_then_not_su known (asks (codes "/bin/ls")) ≡ allowed_setenv 1)
    × (verdict_of not_su_then_all known (asks (codes "/bin/su")) ≡ allowed_setenv 1)
unfolding reading_within written_form user_named host_named group_named user_fits group_fits host_fits command_fits
    host_chars free_bangs parts_after part_at bracket_after items_after range_at begins fits cuts tags_named
    tags_before tags_at runas_before runas_at value form_allows runas_allows place_grants section_grants grants
    applies question_of verdict_on verdict_of
the_last_match_decides = (refl, refl, refl)

abbrev all_then_ls : Policy
all_then_ls = policy (alice_all 1 (plain everything ∷ plain (command (codes "/bin/ls")) ∷ []) ∷ []) refl refl

abbrev no_setenv_all : Policy
no_setenv_all = policy (alice_all 1 (spec None (opposite pair.SetEnv ∷ []) everything ∷ []) ∷ []) refl refl

-- `alice ALL = ALL, /bin/ls`: the deciding command is not ALL; `alice ALL = NOSETENV: ALL`: the pair is set
pub setenv_is_for_all_alone :
    (verdict_of all_then_ls known (asks (codes "/bin/ls")) ≡ allowed 1)
    × (verdict_of all_then_ls known (asks (codes "/bin/su")) ≡ allowed_setenv 1)
    × (verdict_of no_setenv_all known (asks (codes "/bin/ls")) ≡ Allow (line 1) (chosen None None (Some false)))
unfolding reading_within written_form user_named host_named group_named user_fits group_fits host_fits command_fits
    host_chars free_bangs parts_after part_at bracket_after items_after range_at begins fits cuts tags_named
    tags_before tags_at runas_before runas_at value form_allows runas_allows place_grants section_grants grants
    applies question_of verdict_on verdict_of
setenv_is_for_all_alone = (refl, refl, refl)

abbrev two_rules : Policy
two_rules = policy (alice_all 1 (plain everything ∷ []) ∷ alice_all 2 (plain (not_command (codes "/bin/su")) ∷ [])
    ∷ alice_all 3 (plain (command (codes "/bin/ls")) ∷ []) ∷ []) refl refl

-- three rules for alice: the last that says something of the command
pub the_last_rule_decides :
    (verdict_of two_rules known (asks (codes "/bin/id")) ≡ allowed_setenv 1)
    × (verdict_of two_rules known (asks (codes "/bin/su")) ≡ Deny (line 2))
    × (verdict_of two_rules known (asks (codes "/bin/ls")) ≡ allowed 3)
unfolding reading_within written_form user_named host_named group_named user_fits group_fits host_fits command_fits
    host_chars free_bangs parts_after part_at bracket_after items_after range_at begins fits cuts tags_named
    tags_before tags_at runas_before runas_at value form_allows runas_allows place_grants section_grants grants
    applies question_of verdict_on verdict_of
the_last_rule_decides = (refl, refl, refl)

abbrev safe : Policy
safe = policy (alias kind.Cmnd 1 (codes "SAFE") (command (codes "/bin/*") ∷ not_command (codes "/bin/su") ∷ [])
    ∷ alice_all 2 (plain (aliased (codes "SAFE")) ∷ []) ∷ []) refl refl

abbrev not_safe : Policy
not_safe = policy (alias kind.Cmnd 1 (codes "SAFE") (command (codes "/bin/*") ∷ not_command (codes "/bin/su") ∷ [])
    ∷ alice_all 2 (plain (not_aliased (codes "SAFE")) ∷ []) ∷ []) refl refl

abbrev not_not_safe : Policy
not_not_safe = policy (alias kind.Cmnd 1 (codes "SAFE") (command (codes "/bin/*") ∷ not_command (codes "/bin/su")
    ∷ []) ∷ alias kind.Cmnd 2 (codes "Y") (not_aliased (codes "SAFE") ∷ []) ∷ alice_all 3
    (plain (not_aliased (codes "Y")) ∷ []) ∷ []) refl refl

-- `SAFE = /bin/*, !/bin/su`: a negated alias turns the sign of each of its members; `Y = !SAFE` and `!Y` turn it twice
pub alias_signs :
    (verdict_of safe known (asks (codes "/bin/su")) ≡ Deny (line 2))
    × (verdict_of safe known (asks (codes "/bin/ls")) ≡ allowed 2)
    × (verdict_of not_safe known (asks (codes "/bin/su")) ≡ allowed 2)
    × (verdict_of not_safe known (asks (codes "/bin/ls")) ≡ Deny (line 2))
    × (verdict_of not_not_safe known (asks (codes "/bin/su")) ≡ Deny (line 3))
    × (verdict_of not_not_safe known (asks (codes "/bin/ls")) ≡ allowed 3)
unfolding reading_within written_form user_named host_named group_named user_fits group_fits host_fits command_fits
    host_chars free_bangs parts_after part_at bracket_after items_after range_at begins fits cuts tags_named
    tags_before tags_at runas_before runas_at value form_allows runas_allows place_grants section_grants grants
    applies question_of verdict_on verdict_of
alias_signs = (refl, refl, refl, refl, refl, refl)

abbrev all_aliased : Policy
all_aliased = policy (alias kind.Cmnd 1 (codes "ANY") (everything ∷ []) ∷ alice_all 2 (plain (aliased (codes "ANY")) ∷ []) ∷ []) refl refl

-- `ANY = ALL`: the deciding command is the ALL in it
pub all_through_an_alias :
    (verdict_of all_aliased known (asks (codes "/bin/ls")) ≡ allowed_setenv 2)
unfolding reading_within written_form user_named host_named group_named user_fits group_fits host_fits command_fits
    host_chars free_bangs parts_after part_at bracket_after items_after range_at begins fits cuts tags_named
    tags_before tags_at runas_before runas_at value form_allows runas_allows place_grants section_grants grants
    applies question_of verdict_on verdict_of
all_through_an_alias = refl

abbrev deep : Policy
deep = policy (alias kind.User 1 (codes "STAFF") (named (codes "alice") ∷ named (codes "bob") ∷ [])
    ∷ alias kind.User 2 (codes "ADMINS") (aliased (codes "STAFF") ∷ with_bangs 1 (atom.Name (codes "bob")) ∷ [])
    ∷ alias kind.Host 3 (codes "WEB") (host (codes "web1") ∷ []) ∷ alias kind.Host 4 (codes "SERVERS")
    (aliased (codes "WEB") ∷ []) ∷ alias kind.Runas 5 (codes "OP") (named (codes "operator") ∷ [])
    ∷ alias kind.Runas 6 (codes "DB") (aliased (codes "OP") ∷ []) ∷ rule 7 (aliased (codes "ADMINS") ∷ [])
    (on (aliased (codes "SERVERS") ∷ []) (spec (as_users (aliased (codes "DB") ∷ [])) [] (command (codes "/bin/ls"))
    ∷ []) ∷ []) ∷ []) refl refl

-- `STAFF = alice, bob`, `ADMINS = STAFF, !bob`, `WEB = web1`, `SERVERS = WEB`, `OP = operator`, `DB = OP`, `ADMINS SERVERS = (DB) /bin/ls`
pub aliases_two_deep :
    (verdict_of deep known (asks_on (codes "web1") (codes "/bin/ls") (Some (codes "operator")) None) ≡ allowed 7)
    × (verdict_of deep known (asks_on (codes "web2") (codes "/bin/ls") (Some (codes "operator")) None) ≡ NoMatch)
    × (verdict_of deep known (asks_on (codes "web1") (codes "/bin/ls") None None) ≡ NoMatch)
    × (verdict_of deep known (record (asks_on (codes "web1") (codes "/bin/ls") (Some (codes "operator")) None)
    { user = codes "bob" }) ≡ NoMatch)
unfolding reading_within written_form user_named host_named group_named user_fits group_fits host_fits command_fits
    host_chars free_bangs parts_after part_at bracket_after items_after range_at begins fits cuts tags_named
    tags_before tags_at runas_before runas_at value form_allows runas_allows place_grants section_grants grants
    applies question_of verdict_on verdict_of
aliases_two_deep = (refl, refl, refl, refl)

abbrev not_after_all : Policy
not_after_all = policy (rule 1 (named (codes "alice") ∷ with_bangs 1 (atom.Name (codes "alice")) ∷ [])
    (on (everything ∷ []) (plain everything ∷ []) ∷ []) ∷ []) refl refl

abbrev all_after_not : Policy
all_after_not = policy (rule 1 (with_bangs 1 (atom.Name (codes "alice")) ∷ named (codes "alice") ∷ [])
    (on (everything ∷ []) (plain (command (codes "/bin/ls")) ∷ []) ∷ []) ∷ []) refl refl

-- `alice, !alice` is not for alice, and `!alice, alice` is
pub the_last_member_decides :
    (verdict_of not_after_all known (asks (codes "/bin/ls")) ≡ NoMatch)
    × (verdict_of all_after_not known (asks (codes "/bin/ls")) ≡ allowed 1)
unfolding reading_within written_form user_named host_named group_named user_fits group_fits host_fits command_fits
    host_chars free_bangs parts_after part_at bracket_after items_after range_at begins fits cuts tags_named
    tags_before tags_at runas_before runas_at value form_allows runas_allows place_grants section_grants grants
    applies question_of verdict_on verdict_of
the_last_member_decides = (refl, refl)

abbrev runas_list : Policy
runas_list = policy (alice_all 1 (spec (as_users (named (codes "operator") ∷ [])) [] (command (codes "/bin/ls"))
    ∷ spec (as_users (named (codes "root") ∷ [])) [] (command (codes "/bin/kill"))
    ∷ plain (command (codes "/usr/bin/lprm")) ∷ []) ∷ []) refl refl

abbrev root_then_operator : Policy
root_then_operator = policy (alice_all 1 (spec (as_users (named (codes "root") ∷ [])) [] (command (codes "/bin/ls"))
    ∷ spec (as_users (named (codes "operator") ∷ [])) [] (command (codes "/bin/ls")) ∷ []) ∷ []) refl refl

-- `(operator) /bin/ls, (root) /bin/kill, /usr/bin/lprm`: a runas holds for the later commands until the next; `(root)
-- /bin/ls, (operator) /bin/ls`: a match whose runas does not hold is passed over
pub runas_holds_for_later_commands :
    (verdict_of runas_list known (asks_on (codes "web1") (codes "/bin/ls") (Some (codes "operator")) None) ≡ allowed 1)
    × (verdict_of runas_list known (asks (codes "/bin/ls")) ≡ NoMatch)
    × (verdict_of runas_list known (asks (codes "/usr/bin/lprm")) ≡ allowed 1)
    × (verdict_of runas_list known (asks_on (codes "web1") (codes "/usr/bin/lprm") (Some (codes "operator")) None) ≡ NoMatch)
    × (verdict_of root_then_operator known (asks (codes "/bin/ls")) ≡ allowed 1)
unfolding reading_within written_form user_named host_named group_named user_fits group_fits host_fits command_fits
    host_chars free_bangs parts_after part_at bracket_after items_after range_at begins fits cuts tags_named
    tags_before tags_at runas_before runas_at value form_allows runas_allows place_grants section_grants grants
    applies question_of verdict_on verdict_of
runas_holds_for_later_commands = (refl, refl, refl, refl, refl)

abbrev two_sections : Policy
two_sections = policy (rule 1 (named (codes "alice") ∷ [])
    (on (host (codes "web1") ∷ []) (spec None (opposite pair.Passwd ∷ []) (command (codes "/bin/kill"))
    ∷ plain (command (codes "/usr/bin/lprm")) ∷ spec None (own pair.Passwd ∷ []) (command (codes "/bin/ls")) ∷ [])
    ∷ on (host (codes "web2") ∷ []) (plain (command (codes "/bin/kill")) ∷ []) ∷ []) ∷ []) refl refl

-- `web1 = NOPASSWD: /bin/kill, /usr/bin/lprm, PASSWD: /bin/ls : web2 = /bin/kill`: a tag holds for the later commands
-- of its section until its opposite, and not in the next section
pub tags_stay_in_their_section :
    (verdict_of two_sections known (asks (codes "/bin/kill")) ≡ Allow (line 1) (chosen None (Some false) None))
    × (verdict_of two_sections known (asks (codes "/usr/bin/lprm")) ≡ Allow (line 1) (chosen None (Some false) None))
    × (verdict_of two_sections known (asks (codes "/bin/ls")) ≡ Allow (line 1) (chosen None (Some true) None))
    × (verdict_of two_sections known (asks_on (codes "web2") (codes "/bin/kill") None None) ≡ allowed 1)
    × (verdict_of two_sections known (asks_on (codes "web2") (codes "/bin/ls") None None) ≡ NoMatch)
unfolding reading_within written_form user_named host_named group_named user_fits group_fits host_fits command_fits
    host_chars free_bangs parts_after part_at bracket_after items_after range_at begins fits cuts tags_named
    tags_before tags_at runas_before runas_at value form_allows runas_allows place_grants section_grants grants
    applies question_of verdict_on verdict_of
tags_stay_in_their_section = (refl, refl, refl, refl, refl)

abbrev pair_twice : Policy
pair_twice = policy (alice_all 1 (spec None (opposite pair.Passwd ∷ own pair.Passwd ∷ opposite pair.Exec ∷ [])
    (command (codes "/bin/ls")) ∷ []) ∷ []) refl refl

-- `NOPASSWD: PASSWD: NOEXEC: /bin/ls`: of two tags of one pair the last counts
pub the_last_tag_of_a_pair :
    (verdict_of pair_twice known (asks (codes "/bin/ls")) ≡ Allow (line 1) (chosen (Some false) (Some true) None))
unfolding reading_within written_form user_named host_named group_named user_fits group_fits host_fits command_fits
    host_chars free_bangs parts_after part_at bracket_after items_after range_at begins fits cuts tags_named
    tags_before tags_at runas_before runas_at value form_allows runas_allows place_grants section_grants grants
    applies question_of verdict_on verdict_of
the_last_tag_of_a_pair = refl

abbrev under : Option Runas → Policy
under r = policy (alice_all 1 (spec r [] (command (codes "/bin/id")) ∷ []) ∷ []) refl refl

abbrev form : Option (List Member) → Option (List Member) → Policy
form users groups = under (Some (record { users = users; groups = groups }))

-- no runas, by the user and the group asked for
pub runas_without_parentheses :
    (verdict_of (under None) known (asks_as None None) ≡ allowed 1)
    × (verdict_of (under None) known (asks_as (Some (codes "root")) (Some (codes "root"))) ≡ allowed 1)
    × (verdict_of (under None) known (asks_as None (Some (codes "adm"))) ≡ NoMatch)
    × (verdict_of (under None) known (asks_as (Some (codes "alice")) None) ≡ NoMatch)
unfolding reading_within written_form user_named host_named group_named user_fits group_fits host_fits command_fits
    host_chars free_bangs parts_after part_at bracket_after items_after range_at begins fits cuts tags_named
    tags_before tags_at runas_before runas_at value form_allows runas_allows place_grants section_grants grants
    applies question_of verdict_on verdict_of
runas_without_parentheses = (refl, refl, refl, refl)

-- `(operator)`
pub runas_users :
    (verdict_of (form (Some (named (codes "operator") ∷ [])) None) known (asks_as (Some (codes "operator")) None) ≡ allowed 1)
    × (verdict_of (form (Some (named (codes "operator") ∷ [])) None) known
    (asks_as (Some (codes "operator")) (Some (codes "operator"))) ≡ allowed 1)
    × (verdict_of (form (Some (named (codes "operator") ∷ [])) None) known (asks_as None None) ≡ NoMatch)
    × (verdict_of (form (Some (named (codes "operator") ∷ [])) None) known
    (asks_as (Some (codes "operator")) (Some (codes "adm"))) ≡ NoMatch)
    × (verdict_of (form (Some (named (codes "operator") ∷ [])) None) known (asks_as None (Some (codes "adm"))) ≡ NoMatch)
unfolding reading_within written_form user_named host_named group_named user_fits group_fits host_fits command_fits
    host_chars free_bangs parts_after part_at bracket_after items_after range_at begins fits cuts tags_named
    tags_before tags_at runas_before runas_at value form_allows runas_allows place_grants section_grants grants
    applies question_of verdict_on verdict_of
runas_users = (refl, refl, refl, refl, refl)

-- `(operator:adm)`
pub runas_users_and_groups :
    (verdict_of (form (Some (named (codes "operator") ∷ [])) (Some (named (codes "adm") ∷ []))) known
    (asks_as (Some (codes "operator")) None) ≡ allowed 1)
    × (verdict_of (form (Some (named (codes "operator") ∷ [])) (Some (named (codes "adm") ∷ []))) known
    (asks_as (Some (codes "operator")) (Some (codes "adm"))) ≡ allowed 1)
    × (verdict_of (form (Some (named (codes "operator") ∷ [])) (Some (named (codes "adm") ∷ []))) known
    (asks_as (Some (codes "operator")) (Some (codes "operator"))) ≡ allowed 1)
    × (verdict_of (form (Some (named (codes "operator") ∷ [])) (Some (named (codes "adm") ∷ []))) known
    (asks_as None (Some (codes "adm"))) ≡ allowed 1)
    × (verdict_of (form (Some (named (codes "operator") ∷ [])) (Some (named (codes "adm") ∷ []))) known
    (asks_as (Some (codes "alice")) (Some (codes "adm"))) ≡ allowed 1)
    × (verdict_of (form (Some (named (codes "operator") ∷ [])) (Some (named (codes "adm") ∷ []))) known
    (asks_as (Some (codes "operator")) (Some (codes "alice"))) ≡ NoMatch)
    × (verdict_of (form (Some (named (codes "operator") ∷ [])) (Some (named (codes "adm") ∷ []))) known
    (asks_as None (Some (codes "operator"))) ≡ NoMatch)
    × (verdict_of (form (Some (named (codes "operator") ∷ [])) (Some (named (codes "adm") ∷ []))) known (asks_as None None) ≡ NoMatch)
unfolding reading_within written_form user_named host_named group_named user_fits group_fits host_fits command_fits
    host_chars free_bangs parts_after part_at bracket_after items_after range_at begins fits cuts tags_named
    tags_before tags_at runas_before runas_at value form_allows runas_allows place_grants section_grants grants
    applies question_of verdict_on verdict_of
runas_users_and_groups = (refl, refl, refl, refl, refl, refl, refl, refl)

-- `(!alice:adm)`: the list has a value for alice
pub runas_not_the_user :
    (verdict_of (form (Some (with_bangs 1 (atom.Name (codes "alice")) ∷ [])) (Some (named (codes "adm") ∷ []))) known
    (asks_as None (Some (codes "adm"))) ≡ NoMatch)
    × (verdict_of (form (Some (with_bangs 1 (atom.Name (codes "alice")) ∷ [])) (Some (named (codes "adm") ∷ [])))
    known (asks_as (Some (codes "alice")) (Some (codes "adm"))) ≡ NoMatch)
unfolding reading_within written_form user_named host_named group_named user_fits group_fits host_fits command_fits
    host_chars free_bangs parts_after part_at bracket_after items_after range_at begins fits cuts tags_named
    tags_before tags_at runas_before runas_at value form_allows runas_allows place_grants section_grants grants
    applies question_of verdict_on verdict_of
runas_not_the_user = (refl, refl)

-- `(:operator)`
pub runas_groups :
    (verdict_of (form None (Some (named (codes "operator") ∷ []))) known (asks_as (Some (codes "alice")) None) ≡ allowed 1)
    × (verdict_of (form None (Some (named (codes "operator") ∷ []))) known (asks_as None None) ≡ allowed 1)
    × (verdict_of (form None (Some (named (codes "operator") ∷ []))) known (asks_as None (Some (codes "operator"))) ≡ allowed 1)
    × (verdict_of (form None (Some (named (codes "operator") ∷ []))) known (asks_as None (Some (codes "adm"))) ≡ allowed 1)
    × (verdict_of (form None (Some (named (codes "operator") ∷ []))) known (asks_as (Some (codes "root")) None) ≡ NoMatch)
    × (verdict_of (form None (Some (named (codes "operator") ∷ []))) known (asks_as None (Some (codes "root"))) ≡ NoMatch)
unfolding reading_within written_form user_named host_named group_named user_fits group_fits host_fits command_fits
    host_chars free_bangs parts_after part_at bracket_after items_after range_at begins fits cuts tags_named
    tags_before tags_at runas_before runas_at value form_allows runas_allows place_grants section_grants grants
    applies question_of verdict_on verdict_of
runas_groups = (refl, refl, refl, refl, refl, refl)

-- `()`
pub runas_empty :
    (verdict_of (form None None) known (asks_as (Some (codes "alice")) None) ≡ allowed 1)
    × (verdict_of (form None None) known (asks_as None None) ≡ allowed 1)
    × (verdict_of (form None None) known (asks_as None (Some (codes "adm"))) ≡ allowed 1)
    × (verdict_of (form None None) known (asks_as None (Some (codes "operator"))) ≡ NoMatch)
    × (verdict_of (form None None) known (asks_as (Some (codes "root")) None) ≡ NoMatch)
unfolding reading_within written_form user_named host_named group_named user_fits group_fits host_fits command_fits
    host_chars free_bangs parts_after part_at bracket_after items_after range_at begins fits cuts tags_named
    tags_before tags_at runas_before runas_at value form_allows runas_allows place_grants section_grants grants
    applies question_of verdict_on verdict_of
runas_empty = (refl, refl, refl, refl, refl)

-- `(ALL:ALL, !adm)`
pub runas_groups_but_one :
    (verdict_of (form (Some (everything ∷ [])) (Some (everything ∷ with_bangs 1 (atom.Name (codes "adm")) ∷ [])))
    known (asks_as (Some (codes "operator")) (Some (codes "operator"))) ≡ allowed 1)
    × (verdict_of (form (Some (everything ∷ [])) (Some (everything ∷ with_bangs 1 (atom.Name (codes "adm")) ∷ [])))
    known (asks_as (Some (codes "bob")) (Some (codes "alice"))) ≡ allowed 1)
    × (verdict_of (form (Some (everything ∷ [])) (Some (everything ∷ with_bangs 1 (atom.Name (codes "adm")) ∷ [])))
    known (asks_as (Some (codes "operator")) (Some (codes "adm"))) ≡ NoMatch)
    × (verdict_of (form (Some (everything ∷ [])) (Some (everything ∷ with_bangs 1 (atom.Name (codes "adm")) ∷ [])))
    known (asks_as None (Some (codes "adm"))) ≡ NoMatch)
unfolding reading_within written_form user_named host_named group_named user_fits group_fits host_fits command_fits
    host_chars free_bangs parts_after part_at bracket_after items_after range_at begins fits cuts tags_named
    tags_before tags_at runas_before runas_at value form_allows runas_allows place_grants section_grants grants
    applies question_of verdict_on verdict_of
runas_groups_but_one = (refl, refl, refl, refl)

-- without a user root
abbrev rootless : KnownRows
rootless = record {
  people = person (codes "alice") 1000 (group (codes "alice") 1000 ∷ []) ∷ [];
  machines = record { name = codes "web1"; interfaces = [] } ∷ [];
}

-- the target is looked at only by the forms that name it
pub own_forms_need_no_root :
    (verdict_of (form None None) rootless (asks_as None None) ≡ allowed 1)
    × (verdict_of (form None (Some [])) rootless (asks_as None None) ≡ allowed 1)
    × (verdict_of (under None) rootless (asks_as None None) ≡ NoMatch)
    × (verdict_of (form (Some (everything ∷ [])) None) rootless (asks_as None None) ≡ NoMatch)
unfolding reading_within written_form user_named host_named group_named user_fits group_fits host_fits command_fits
    host_chars free_bangs parts_after part_at bracket_after items_after range_at begins fits cuts tags_named
    tags_before tags_at runas_before runas_at value form_allows runas_allows place_grants section_grants grants
    applies question_of verdict_on verdict_of
own_forms_need_no_root = (refl, refl, refl, refl)

-- the first name that is not known decides: of the user, the host, the target and the group
pub unknown_names :
    (verdict_of all_then_not_su known
    (record (asks_on (codes "db") (codes "/bin/ls") (Some (codes "eve")) (Some (codes "wheel")))
    { user = codes "carol" }) ≡ Unknown what.User)
    × (verdict_of all_then_not_su known (asks_on (codes "db") (codes "/bin/ls") (Some (codes "eve"))
    (Some (codes "wheel"))) ≡ Unknown what.Host)
    × (verdict_of all_then_not_su known (asks_on (codes "web1") (codes "/bin/ls") (Some (codes "eve"))
    (Some (codes "wheel"))) ≡ Unknown what.Target)
    × (verdict_of all_then_not_su known (asks_on (codes "web1") (codes "/bin/ls") (Some (codes "root"))
    (Some (codes "wheel"))) ≡ Unknown what.Group)
unfolding reading_within written_form user_named host_named group_named user_fits group_fits host_fits command_fits
    host_chars free_bangs parts_after part_at bracket_after items_after range_at begins fits cuts tags_named
    tags_before tags_at runas_before runas_at value form_allows runas_allows place_grants section_grants grants
    applies question_of verdict_on verdict_of
unknown_names = (refl, refl, refl, refl)
