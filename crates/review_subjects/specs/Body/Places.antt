-- Places of commands and of verdicts, as lists. Only proofs of bodies use these.
use Rattle.std.specs.Prelude.{List, [], ◌∷◌, flat_map, if◌then◌else◌, is_some, unwrap_or}
use Rattle.std.specs.HashMap.{get}
use Rattle.sudo_text.specs.declared.line.Place.{Place}
use Rattle.sudo_grammar.specs.declared.kind.Kind.TheVariants as kinds
use Rattle.sudo_grammar.specs.declared.kind.Signed.{Signed}
use Rattle.sudo_grammar.specs.declared.policy.CommandSpec.{CommandSpec}
use Rattle.sudo_grammar.specs.declared.policy.Section.{Section}
use Rattle.sudo_grammar.specs.declared.policy.Entry.{Entry}
use Rattle.sudo_grammar.specs.declared.policy.EntryBody.{EntryBody}
use Rattle.sudo_grammar.specs.declared.policy.EntryBody.TheVariants.{Rule}
use Rattle.sudo_grammar.specs.declared.policy.Policy.{Policy}
use Rattle.sudo_match.specs.declared.request.Verdict.{Verdict}
use Rattle.sudo_match.specs.declared.request.Verdict.TheVariants.{Allow, Deny}
use Rattle.sudo_policy.specs.Written.{written_form}
use Rattle.review_texts.specs.Notes.{note_in}
use Rattle.review_grants.specs.Depends.{key_of, same_key}
use Rattle.review_subjects.specs.declared.rules.RuleCount.{RuleCount}
use Rattle.review_subjects.specs.declared.rules.Tallies.{Tallies}

-- the place of an atom, unless it stands for a note
abbrev pub atom_place : Place → Signed → List Place
atom_place place s = if is_some (note_in s.atom) then [] else place ∷ []

-- a place for each atom but the notes
abbrev pub atom_places : Place → List Signed → List Place
atom_places place atoms = flat_map (atom_place place) atoms

-- a place for each written-out atom of a command but the notes
abbrev pub command_places : Policy → Place → CommandSpec → List Place
command_places p place c = atom_places place (written_form kinds.Cmnd p (c.command ∷ []))

abbrev pub section_places : Policy → Place → Section → List Place
section_places p place s = flat_map (command_places p place) s.commands

abbrev pub body_places : Policy → Place → EntryBody → List Place
body_places p place (Rule users sections) = flat_map (section_places p place) sections
body_places p place _ = []

-- the place of each grant of a policy but the notes
abbrev pub granted_places : Policy → List Entry → List Place
granted_places p es = flat_map (λ (e : Entry). body_places p e.place e.body) es

-- the place of a verdict that allows
abbrev pub allowed_place : Verdict → List Place
allowed_place (Allow at tags) = at ∷ []
allowed_place _ = []

-- the place of a verdict that denies
abbrev pub denied_place : Verdict → List Place
denied_place (Deny at) = at ∷ []
denied_place _ = []

-- the row of a place by three maps from places to counts
abbrev pub tallied : Tallies → Place → RuleCount
tallied t q = record {
  place = q;
  commands = unwrap_or (get same_key t.commands (key_of q)) 0;
  allowed = unwrap_or (get same_key t.allowed (key_of q)) 0;
  denied = unwrap_or (get same_key t.denied (key_of q)) 0;
}
