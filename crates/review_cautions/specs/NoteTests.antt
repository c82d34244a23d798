-- Which lists have a command that stands for a note: for what decides for sudo and is not judged.
use Rattle.std.specs.Prelude.{Bool, true, false, ◌&&◌, Option, Some}
use Rattle.std.specs.List.{list_any}
use Rattle.sudo_grammar.specs.declared.kind.Atom.{Atom}
use Rattle.sudo_grammar.specs.declared.kind.Member.{Member}
use Rattle.sudo_policy.specs.Definitions.{MemberList}
use Rattle.review_texts.specs.Notes.{note_in}
use Rattle.review_texts.specs.declared.note.Note.{Note}
use Rattle.review_texts.specs.declared.note.Note.TheVariants.{Digest, Time, Chroot, Regex}
use Rattle.review_cautions.specs.ListTests.{is_of_commands}

-- there is a note, and it is this one
abbrev pub is_note : Note → Option Note → Bool
is_note Digest (Some Digest) = true
is_note Time (Some Time) = true
is_note Chroot (Some Chroot) = true
is_note Regex (Some Regex) = true
is_note _ _ = false

-- the atom is a command that stands for the note
abbrev pub stands_for : Note → Atom → Bool
stands_for note atom = is_note note (note_in atom)

-- a command of the list stands for the note
abbrev pub list_has_note : Note → MemberList → Bool
list_has_note note list = is_of_commands list.kind && list_any (λ (m : Member). stands_for note m.atom) list.members
