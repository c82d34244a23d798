-- The notes of the written-out commands of a policy, each with its place; only proofs of bodies use these.
use Rattle.std.specs.Prelude.{Bool, false, ◌&&◌, List, [], ◌∷◌, flat_map, Option, Some, None, is_some}
use Rattle.std.specs.List.{list_any}
use Rattle.sudo_grammar.specs.declared.kind.Kind.TheVariants as kind
use Rattle.sudo_grammar.specs.declared.kind.Member.{Member}
use Rattle.sudo_grammar.specs.declared.kind.Signed.{Signed}
use Rattle.sudo_grammar.specs.declared.policy.CommandSpec.{CommandSpec}
use Rattle.sudo_grammar.specs.declared.policy.Definition.{Definition}
use Rattle.sudo_grammar.specs.declared.policy.Entry.{Entry}
use Rattle.sudo_grammar.specs.declared.policy.EntryBody.{EntryBody}
use Rattle.sudo_grammar.specs.declared.policy.EntryBody.TheVariants.{Aliases, Rule}
use Rattle.sudo_grammar.specs.declared.policy.Policy.{Policy}
use Rattle.sudo_grammar.specs.declared.policy.Section.{Section}
use Rattle.sudo_policy.specs.Written.{written_form}
use Rattle.sudo_text.specs.declared.line.Place.{Place}
use Rattle.review_texts.specs.declared.note.Note.{Note}
use Rattle.review_texts.specs.Notes.{note_in}
use Rattle.review_grants.specs.declared.noted.Noted.{Noted}
use Rattle.review_grants.specs.Depends.{same_note, same_place}

abbrev pub noted_if : Place → Option Note → List Noted
noted_if place None = []
noted_if place (Some note) = record { place = place; note = note } ∷ []

abbrev pub member_notes : Place → Signed → List Noted
member_notes place s = noted_if place (note_in s.atom)

abbrev pub command_notes : Policy → Place → CommandSpec → List Noted
command_notes p place c = flat_map (member_notes place) (written_form kind.Cmnd p (c.command ∷ []))

abbrev pub section_notes : Policy → Place → Section → List Noted
section_notes p place s = flat_map (command_notes p place) s.commands

abbrev pub body_notes : Policy → Place → EntryBody → List Noted
body_notes p place (Rule users sections) = flat_map (section_notes p place) sections
body_notes p place _ = []

abbrev pub entry_notes : Policy → Entry → List Noted
entry_notes p e = body_notes p e.place e.body

abbrev pub policy_notes : Policy → List Noted
policy_notes p = flat_map (entry_notes p) p.entries

-- the note is that one, at that place
abbrev pub is_noted : Place → Note → Noted → Bool
is_noted at note x = same_place x.place at && same_note note x.note

-- ---- Lists as they stand in a policy

abbrev pub is_note_member : Member → Bool
is_note_member m = is_some (note_in m.atom)

abbrev pub list_has_note : List Member → Bool
list_has_note ms = list_any is_note_member ms

abbrev pub definition_has_note : Definition → Bool
definition_has_note d = list_has_note d.members

abbrev pub command_has_note : CommandSpec → Bool
command_has_note c = is_note_member c.command

abbrev pub section_has_note : Section → Bool
section_has_note s = list_any command_has_note s.commands

-- a list of an alias or of commands has a note
abbrev pub body_has_note : EntryBody → Bool
body_has_note (Aliases k definitions) = list_any definition_has_note definitions
body_has_note (Rule users sections) = list_any section_has_note sections
body_has_note _ = false

abbrev pub entry_has_note : Entry → Bool
entry_has_note e = body_has_note e.body
