-- Worked examples of steps and chains, each by computation.
use Rattle.std.proofs.Common.{◌≡◌, ℕ, Bool, true, false, List, [], ◌∷◌, map, Option, Some, None, refl}
use Rattle.std.specs.Prelude.{codes}
use Rattle.sudo_text.specs.declared.token.Mark.TheVariants.{Bang}
use Rattle.sudo_text.specs.declared.token.TokenKind.TheVariants as token
use Rattle.sudo_text.specs.declared.token.Ch.{Ch}
use Rattle.sudo_grammar.specs.declared.kind.Atom.{Atom}
use Rattle.sudo_grammar.specs.declared.kind.Atom.TheVariants as atom
use Rattle.sudo_grammar.specs.declared.kind.Member.{Member}
use Rattle.sudo_grammar.specs.declared.tag.Tag.{Tag}
use Rattle.sudo_grammar.specs.declared.tag.TagPair.TheVariants as pair
use Rattle.sudo_grammar.specs.declared.policy.Runas.{Runas}
use Rattle.sudo_grammar.specs.declared.policy.CommandSpec.{CommandSpec}
use Rattle.sudo_grammar.specs.declared.policy.Entry.{Entry}
use Rattle.sudo_grammar.specs.declared.policy.EntryBody.TheVariants.{Rule}
use Rattle.sudo_grammar.specs.declared.policy.Policy.{Policy}
use Rattle.sudo_match.specs.declared.people.Group.{Group}
use Rattle.sudo_match.specs.declared.people.Machine.{Machine}
use Rattle.sudo_match.specs.KnownRows.{KnownRows, user_named}
use Rattle.sudo_match.specs.Matching.{user_fits, group_fits, host_fits}
use Rattle.sudo_policy.specs.Following.{reading_within}
use Rattle.sudo_policy.specs.Written.{written_form}
use Rattle.sudo_verdict.specs.Tagged.{tags_named, tags_before, tags_at, runas_before, runas_at}
use Rattle.sudo_verdict.specs.Values.{value}
use Rattle.sudo_verdict.specs.RunasForms.{form_allows, runas_allows}
use Rattle.sudo_verdict.specs.Grants.{place_grants, section_grants, grants}
use Rattle.review_grants.specs.Depends.{unmarked}
use Rattle.review_roots.specs.declared.given.Given.{Given}
use Rattle.review_roots.specs.declared.level.Level.{Level}
use Rattle.review_roots.specs.declared.level.Level.TheVariants as level
use Rattle.review_roots.specs.declared.state.State.{State}
use Rattle.review_roots.specs.declared.way.Password.TheVariants as password
use Rattle.review_roots.specs.KnownGroups.{known_groups, named_groups}
use Rattle.review_roots.specs.States.{all_states, state_with, step_given}
use Rattle.review_roots.specs.Ways.{worse, step_password}

-- ---- Users root, ben and eve, a group adm, a host

abbrev group : List ℕ → ℕ → Group
group name gid = record { name = name; gid = gid }

abbrev adm : Group
adm = group (codes "adm") 4

abbrev known : KnownRows
known = record {
  people =
      record { name = codes "root"; uid = 0; groups = group (codes "root") 0 ∷ [] }
      ∷ record { name = codes "ben"; uid = 1000; groups = group (codes "ben") 1000 ∷ [] }
      ∷ record { name = codes "eve"; uid = 1001; groups = adm ∷ group (codes "ben") 1000 ∷ [] }
      ∷ [];
  machines = [];
}

abbrev web : Machine
web = record { name = codes "web1"; interfaces = [] }

-- each group once
groups_known : known_groups known ≡ group (codes "root") 0 ∷ group (codes "ben") 1000 ∷ adm ∷ []
groups_known = refl

abbrev root : State
root = state_with None 0

abbrev ben : State
ben = state_with None 1

abbrev ben_with_adm : State
ben_with_adm = state_with (Some 2) 1

abbrev eve : State
eve = state_with None 2

states_of_two : all_states 2 1 ≡ state_with None 0 ∷ state_with None 1 ∷ state_with (Some 0) 0 ∷ state_with (Some 0) 1 ∷ []
states_of_two = refl

-- ---- Policies

abbrev with_bangs : ℕ → Atom → Member
with_bangs n a = record { bangs = n; token = record { kind = token.Mark Bang; start = 0; «end» = 0 }; atom = a }

abbrev everything : Member
everything = with_bangs 0 atom.All

abbrev named : List ℕ → Member
named n = with_bangs 0 (atom.Name n)

abbrev of_group : List ℕ → Member
of_group n = with_bangs 0 (atom.Group n)

abbrev spelled : List ℕ → List Ch
spelled bytes = map (λ b. record { byte = b; escaped = false }) bytes

abbrev command : ℕ → List ℕ → Member
command bangs p = with_bangs bangs (atom.Command (spelled p) None)

abbrev spec : Option Runas → List Tag → Member → CommandSpec
spec r tags c = record { runas = r; tags = tags; command = c }

abbrev as_users : List Member → Option Runas
as_users users = Some (record { users = Some users; groups = None })

abbrev as_groups : List Member → Option Runas
as_groups groups = Some (record { users = None; groups = Some groups })

abbrev rule : ℕ → Member → List CommandSpec → Entry
rule n user commands = record {
  place = record { file = 0; line = n };
  body = Rule (user ∷ []) (record { hosts = everything ∷ []; commands = commands } ∷ []);
}

-- ben ALL = (:adm) /bin/ls
-- %adm ALL = (ALL) NOPASSWD: ALL, PASSWD: !/bin/su
-- eve ALL = (ben) ALL
abbrev policy : Policy
policy = record {
  files = [] ∷ [];
  entries =
      rule 1 (named (codes "ben")) (spec (as_groups (named (codes "adm") ∷ [])) [] (command 0 (codes "/bin/ls")) ∷ [])
      ∷ rule 2 (of_group (codes "adm"))
      (spec (as_users (everything ∷ [])) (record { pair = pair.Passwd; on = false } ∷ []) everything
      ∷ spec None (record { pair = pair.Passwd; on = true } ∷ []) (command 1 (codes "/bin/su")) ∷ [])
      ∷ rule 3 (named (codes "eve")) (spec (as_users (named (codes "ben") ∷ [])) [] everything ∷ [])
      ∷ [];
  placed = refl;
  unfolded = refl;
}

abbrev level_between : State → State → Level
level_between s t = (step_given policy known web (known_groups known) s t).level

-- ben reaches root with the group adm alone, which ben may add; eve has it
steps_between :
    (level_between ben root ≡ level.None)
    × (level_between ben ben_with_adm ≡ level.Listed)
    × (level_between ben_with_adm root ≡ level.AllBut)
    × (level_between eve root ≡ level.AllBut)
    × (level_between eve ben ≡ level.All)
    × (level_between root ben ≡ level.None)
unfolding reading_within written_form user_named user_fits group_fits host_fits tags_named
    tags_before tags_at runas_before runas_at value form_allows runas_allows place_grants section_grants grants
steps_between = (refl, refl, refl, refl, refl, refl)

-- ben ALL = (eve) NOTAFTER=2030010100 ALL, !/bin/su
-- ben ALL = (root) NOTAFTER=2030010100 ALL
-- ben ALL = (root) /bin/ls, !ALL
abbrev noted : Policy
noted = record {
  files = [] ∷ [];
  entries =
      rule 1 (named (codes "ben"))
      (spec (as_users (named (codes "eve") ∷ [])) [] (command 0 (codes "/t[z-a]")) ∷ spec None [] everything
      ∷ spec None [] (command 1 (codes "/bin/su")) ∷ [])
      ∷ rule 2 (named (codes "ben"))
      (spec (as_users (named (codes "root") ∷ [])) [] (command 0 (codes "/t[z-a]")) ∷ spec None [] everything ∷ [])
      ∷ rule 3 (named (codes "ben"))
      (spec (as_users (named (codes "root") ∷ [])) [] (command 0 (codes "/bin/ls")) ∷ spec None [] (with_bangs 1 atom.All) ∷ [])
      ∷ [];
  placed = refl;
  unfolded = refl;
}

abbrev given_noted : State → State → Given
given_noted s t = step_given noted known web (known_groups known) s t

-- su is denied at some times alone; and what stands before a denied ALL without a time does not count
steps_noted :
    ((given_noted ben eve).level ≡ level.All)
    × ((given_noted ben eve).marks ≡ record { digest = false; time = true; chroot = false; regex = false })
    × ((given_noted ben root).level ≡ level.None)
    × ((given_noted ben root).marks ≡ unmarked)
unfolding reading_within written_form user_named user_fits group_fits host_fits tags_named
    tags_before tags_at runas_before runas_at value form_allows runas_allows place_grants section_grants grants
steps_noted = (refl, refl, refl, refl)

-- of the known groups the rules name adm alone
groups_named : named_groups policy known ≡ adm ∷ []
unfolding reading_within written_form
groups_named = refl

-- ---- Passwords: the worst of a chain's steps, which begin with user 1

-- what a step gives that is free, that lets a command go unasked, or neither
abbrev given_with : Bool → Bool → Given
given_with free unasked = record { level = level.All; free = free; unasked = unasked; by = None; marks = unmarked }

abbrev of_all : Given
of_all = given_with true true

abbrev of_some : Given
of_some = given_with false true

abbrev of_none : Given
of_none = given_with false false

no_password : worse (step_password of_all 1 ben) (step_password of_all 1 eve) ≡ password.None
no_password = refl

some_password : worse (step_password of_all 1 ben) (step_password of_some 1 eve) ≡ password.Maybe
some_password = refl

own_password : worse (step_password of_none 1 ben) (step_password of_all 1 eve) ≡ password.Own
own_password = refl

own_before_some : worse (step_password of_none 1 ben) (step_password of_some 1 eve) ≡ password.Own
own_before_some = refl

own_password_twice : worse (step_password of_none 1 ben) (step_password of_none 1 ben_with_adm) ≡ password.Own
own_password_twice = refl

other_password : worse (step_password of_none 1 ben) (step_password of_none 1 eve) ≡ password.Other
other_password = refl

other_before_some : worse (step_password of_some 1 ben) (step_password of_none 1 eve) ≡ password.Other
other_before_some = refl
