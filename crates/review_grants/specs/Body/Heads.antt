-- Records of the table of grants, part by part; only proofs of bodies use these.
use Rattle.std.specs.Prelude.{◌≡◌, ℕ, Bool, cond, List, [], ◌∷◌, ◌++◌, filter, flat_map, is_some, map, Option}
use Rattle.std.specs.List.{enumerate_from}
use Rattle.csv.specs.Writing.{default_writer, field_text, fields_text}
use Rattle.audit_files.specs.Places.{place_text}
use Rattle.audit_files.specs.Report.{line, tags_text}
use Rattle.sudo_grammar.specs.declared.kind.Kind.TheVariants as kind
use Rattle.sudo_grammar.specs.declared.kind.Member.{Member}
use Rattle.sudo_grammar.specs.declared.kind.Signed.{Signed}
use Rattle.sudo_grammar.specs.declared.policy.CommandSpec.{CommandSpec}
use Rattle.sudo_grammar.specs.declared.policy.Policy.{Policy}
use Rattle.sudo_grammar.specs.declared.policy.Section.{Section}
use Rattle.sudo_match.specs.KnownRows.{KnownRows}
use Rattle.sudo_match.specs.declared.people.Person.{Person}
use Rattle.sudo_match.specs.declared.people.Machine.{Machine}
use Rattle.sudo_parser.specs.Texts.{atom_text, user_text}
use Rattle.sudo_policy.specs.Written.{written_form}
use Rattle.sudo_text.specs.declared.line.Place.{Place}
use Rattle.sudo_verdict.specs.Grants.{Grant}
use Rattle.sudo_verdict.specs.Tagged.{runas_at, runas_before, tags_at, tags_before}
use Rattle.review_texts.specs.Masks.{as_written}
use Rattle.review_texts.specs.Notes.{note_in}
use Rattle.review_grants.specs.declared.in_force.InForce.{InForce as TheState}
use Rattle.review_grants.specs.declared.names.Names.{Names as TheNames}
use Rattle.review_grants.specs.GrantRows.{grant_fields, hosts_text, is_for_host, is_shown, runas_text, sign_text, users_text}

-- a name behind a comma and a space, if it is marked
abbrev pub separated : Bool × List ℕ → List ℕ
separated c = cond c.0 (44 ∷ 32 ∷ c.1) []

-- these are the names of a directory's users and hosts
pub record AreNames (d : KnownRows) (names : TheNames) : Type 0 where
  pub users : map (λ v. v.items) names.users.items ≡ map (λ u. user_text u.name) d.people
  pub hosts : map (λ v. v.items) names.hosts.items ≡ map (λ m. user_text m.name) d.machines

-- the last fields of a record, its tags and what it depends on, and its end
abbrev pub row_end : List ℕ → List ℕ → List ℕ
row_end tags depends = fields_text default_writer (tags ∷ depends ∷ []) ++ 10 ∷ []

-- the record of a written-out command behind the fields of its lists and of its runas
abbrev pub command_row : List ℕ → List ℕ → Signed → List ℕ
command_row head end s = head ++ (fields_text default_writer (sign_text s.negated ∷ as_written (atom_text s.atom) ∷ []) ++ end)

-- a note has no record
abbrev pub member_row : List ℕ → List ℕ → Signed → List ℕ
member_row head end s = cond (is_some (note_in s.atom)) [] (command_row head end s)

-- the records of a command, written out
abbrev pub command_rows : Policy → List ℕ → List ℕ → CommandSpec → List ℕ
command_rows p head end spec = flat_map (member_row head end) (written_form kind.Cmnd p (spec.command ∷ []))

-- the fields of a command's lists and of the runas in force there
abbrev pub command_head : Policy → List ℕ → List CommandSpec → ℕ → List ℕ
command_head p head commands i = head ++ fields_text default_writer (runas_text p (runas_at commands i) ∷ [])

abbrev pub place_rows : Policy → List ℕ → List ℕ → List CommandSpec → ℕ × CommandSpec → List ℕ
place_rows p head depends commands (i, spec) =
    command_rows p (command_head p head commands i) (row_end (tags_text (tags_at commands i)) depends) spec

-- the records of the commands of a section
abbrev pub section_rows : Policy → List ℕ → List ℕ → List CommandSpec → List ℕ
section_rows p head depends commands = flat_map (place_rows p head depends commands) (enumerate_from 0 commands)

-- the fields of a rule's place and users
abbrev pub rule_head : Policy → KnownRows → Place → List Member → List ℕ
rule_head p d place users =
    field_text default_writer (place_text p.files place) ++ fields_text default_writer (users_text p d users ∷ [])

-- the fields of a section's lists
abbrev pub section_head : Policy → KnownRows → List ℕ → List Member → List ℕ
section_head p d head hosts = head ++ fields_text default_writer (hosts_text p d hosts ∷ [])

-- the record of a grant
abbrev pub grant_line : Policy → KnownRows → Grant → List ℕ
grant_line p d g = line (grant_fields p.files p d g)

-- the records of those that are shown
abbrev pub lines_of : Policy → KnownRows → Option Person → Option Machine → List Grant → List ℕ
lines_of p d u m gs = flat_map (grant_line p d) (filter (is_shown p u m) gs)

-- this is in force behind these commands
pub record HoldsBehind (p : Policy) (before : List CommandSpec) (state : TheState) : Type 0 where
  pub runas : state.runas.items ≡ runas_text p (runas_before before)
  pub tags : state.tags ≡ tags_before before

-- the records of a section behind the fields of its rule, if its hosts are asked about
abbrev pub rows_on : Policy → KnownRows → Option Machine → List ℕ → List ℕ → Section → List ℕ
rows_on p d m head depends s =
    cond (is_for_host p m s.hosts) (section_rows p (section_head p d head s.hosts) depends s.commands) []
