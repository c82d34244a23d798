-- The grants of a policy, and which of them apply to a question. sudoers(5), "User Specification".
use Rattle.std.specs.Prelude.{ℕ, Bool, ◌&&◌, List, [], ◌∷◌, map, flat_map, Option}
use Rattle.std.specs.List.{enumerate_from}
use Rattle.sudo_text.specs.declared.line.Place.{Place}
use Rattle.sudo_grammar.specs.declared.kind.Kind.TheVariants as kind
use Rattle.sudo_grammar.specs.declared.kind.Atom.{Atom}
use Rattle.sudo_grammar.specs.declared.kind.Signed.{Signed}
use Rattle.sudo_grammar.specs.declared.kind.Member.{Member}
use Rattle.sudo_grammar.specs.declared.policy.Runas.{Runas}
use Rattle.sudo_grammar.specs.declared.policy.CommandSpec.{CommandSpec}
use Rattle.sudo_grammar.specs.declared.policy.Section.{Section}
use Rattle.sudo_grammar.specs.declared.policy.Entry.{Entry}
use Rattle.sudo_grammar.specs.declared.policy.EntryBody.{EntryBody}
use Rattle.sudo_grammar.specs.declared.policy.EntryBody.TheVariants.{Rule}
use Rattle.sudo_grammar.specs.declared.policy.Policy.{Policy}
use Rattle.sudo_match.specs.declared.request.Tags.{Tags}
use Rattle.sudo_policy.specs.Written.{written_form}
use Rattle.sudo_match.specs.Matching.{command_fits}
use Rattle.sudo_verdict.specs.Tagged.{tags_at, runas_at}
use Rattle.sudo_verdict.specs.Questions.{Question}
use Rattle.sudo_verdict.specs.Values.{user_listed, host_listed}
use Rattle.sudo_verdict.specs.RunasForms.{runas_allows}

-- one atom of a command written out, with its sign, users, hosts, runas and tags
pub record Grant : Type 0 where
  pub place : Place
  pub users : List Member
  pub hosts : List Member
  pub runas : Option Runas
  pub tags : Tags
  pub negated : Bool
  pub atom : Atom

-- a grant of command i of a section
abbrev pub grant_of : Place → List Member → Section → ℕ → Signed → Grant
grant_of place users s i w = record {
  place = place;
  users = users;
  hosts = s.hosts;
  runas = runas_at s.commands i;
  tags = tags_at s.commands i;
  negated = w.negated;
  atom = w.atom;
}

-- the grants of command i: one for each atom of its written form, in order
unfoldable pub place_grants : Policy → Place → List Member → Section → ℕ × CommandSpec → List Grant
place_grants p place users s (i, c) = map (grant_of place users s i) (written_form kind.Cmnd p (c.command ∷ []))

-- the grants of a section: those of each command, with its index
unfoldable pub section_grants : Policy → Place → List Member → Section → List Grant
section_grants p place users s = flat_map (place_grants p place users s) (enumerate_from 0 s.commands)

abbrev pub body_grants : Policy → Place → EntryBody → List Grant
body_grants p place (Rule users sections) = flat_map (section_grants p place users) sections
body_grants p place _ = []

abbrev pub entry_grants : Policy → Entry → List Grant
entry_grants p e = body_grants p e.place e.body

-- every grant of the policy, in file order
unfoldable pub grants : Policy → List Grant
grants p = flat_map (entry_grants p) p.entries

-- a grant applies: the user list and the host list allow, the runas allows, and the atom matches
unfoldable pub applies : Policy → Question → Grant → Bool
applies p q g =
    ((user_listed p g.users q && host_listed p g.hosts q) && runas_allows p q g.runas)
    && command_fits g.atom q.command q.arguments
