-- What stands before a command in its line, and what its row may depend on. A note (review_texts, `Notes.antt`) stands in a list
-- before the commands that it is about: so a command before which no note stands depends on nothing, and two commands depend on
-- the same if the same stands before both, written out, and they are the same.
use Rattle.std.specs.Prelude.{ℕ, Bool, true, false, ◌&&◌, if◌then◌else◌, List, [], ◌∷◌, is_some}
use Rattle.std.specs.List.{list_any}
use Rattle.sudo_text.specs.declared.line.Place.{Place}
use Rattle.sudo_grammar.specs.declared.kind.Atom.{Atom}
use Rattle.sudo_match.specs.Matching.{command_fits}
use Rattle.review_texts.specs.Notes.{note_in}
use Rattle.review_grants.specs.Depends.{same_place}

-- the command stands for a note
abbrev pub is_note_atom : Atom → Bool
is_note_atom a = is_some (note_in a)

-- the commands of a line so far, written out
pub record Line : Type 0 where
  pub place : Place
  pub atoms : List Atom

-- before the first line
abbrev pub nowhere : Line
nowhere = record { place = record { file = 0; line = 0 }; atoms = [] }

-- what stands in the line of this place so far; nothing, if it is another line
abbrev pub at_line : Line → Place → List Atom
at_line l place = if same_place l.place place then l.atoms else []

-- these, if a note is among them
abbrev pub noted : List Atom → List Atom
noted atoms = if list_any is_note_atom atoms then atoms else []

-- ---- Noted conditions

-- a command with what stands before it in its line, where a note is among that
pub record Lined : Type 0 where
  pub before : List Atom
  pub atom : Atom

-- which noted conditions hold: whether a command applies where it fits, by itself and by what stands before it in its line. sudo
-- decides that by the digest of a file, the time and the root
abbrev pub Choice : Type 0
Choice = List Atom → Atom → Bool

abbrev pub all_met : Choice
all_met before atom = true

-- no note stands before the command
abbrev pub is_unnoted : List Atom → Bool
is_unnoted [] = true
is_unnoted (atom ∷ rest) = false

-- a command before which no note stands applies wherever it fits
abbrev pub is_met : Choice → Lined → Bool
is_met met a = if is_unnoted a.before then true else met a.before a.atom

-- the command applies, where this is met
abbrev pub fits_where : Choice → List ℕ → List ℕ → Lined → Bool
fits_where met command arguments a = command_fits a.atom command arguments && is_met met a
