-- What the grants of a rule depend on that is not judged: the digest of a file, the time, another root, a regular expression. In
-- a masked text a command that fits nothing stands for it (a note). It is one of the written-out commands, at the place of its
-- rule.
use Rattle.std.specs.Prelude.{◌≡◌, ℕ, Bool, true, false, not, ◌&&◌, ◌||◌, ◌==◌, List, [], ◌∷◌, drop, filter, flat_map}
use Rattle.std.specs.Prelude.{Option, Some, None, is_some}
use Rattle.std.specs.HashMap.{get}
use Rattle.std.specs.List.{list_any}
use Rattle.sudo_grammar.specs.declared.policy.Policy.{Policy}
use Rattle.sudo_match.specs.declared.request.Verdict.{Verdict}
use Rattle.sudo_match.specs.declared.request.Verdict.TheVariants.{Allow, Deny}
use Rattle.sudo_text.specs.declared.line.Place.{Place}
use Rattle.sudo_verdict.specs.Grants.{Grant, grants}
use Rattle.review_texts.specs.declared.note.Note.{Note}
use Rattle.review_texts.specs.declared.note.Note.TheVariants.{Digest, Time, Chroot, Regex}
use Rattle.review_texts.specs.Notes.{note_in, note_name, notes}
use Rattle.review_grants.specs.declared.marks.Marks.{Marks}
use Rattle.review_grants.specs.declared.depends.NotedPlaces.{NotedPlaces}

-- the same line of the same file
abbrev pub same_place : Place → Place → Bool
same_place a b = (a.file == b.file) && (a.line == b.line)

abbrev pub same_note : Note → Note → Bool
same_note Digest Digest = true
same_note Time Time = true
same_note Chroot Chroot = true
same_note Regex Regex = true
same_note _ _ = false

abbrev pub is_note : Note → Option Note → Bool
is_note note None = false
is_note note (Some found) = same_note note found

-- the command of a grant stands for a note
abbrev pub is_note_grant : Grant → Bool
is_note_grant g = is_some (note_in g.atom)

abbrev pub has_note : Note → Grant → Bool
has_note note g = is_note note (note_in g.atom)

-- a grant at the place has the note
abbrev pub is_noted_at : Policy → Place → Note → Bool
is_noted_at p at note = list_any (λ g. same_place g.place at && has_note note g) (grants p)

-- the notes of the grants at the place
abbrev pub notes_at : Policy → Place → List Note
notes_at p at = filter (is_noted_at p at) notes

-- their names, with a blank between them
abbrev pub depends_text : List Note → List ℕ
depends_text found = drop 1 (flat_map (λ note. 32 ∷ note_name note) found)

-- what the grants at the place depend on; empty without a note
abbrev pub depends_at : Policy → Place → List ℕ
depends_at p at = depends_text (notes_at p at)

-- which notes the grants at the place have
abbrev pub marks_at : Policy → Place → Marks
marks_at p at = record {
  digest = is_noted_at p at Digest;
  time = is_noted_at p at Time;
  chroot = is_noted_at p at Chroot;
  regex = is_noted_at p at Regex;
}

abbrev pub unmarked : Marks
unmarked = record { digest = false; time = false; chroot = false; regex = false }

abbrev pub is_unmarked : Marks → Bool
is_unmarked m = not m.digest && (not m.time && (not m.chroot && not m.regex))

-- the notes of both
abbrev pub joined_marks : Marks → Marks → Marks
joined_marks a b = record {
  digest = a.digest || b.digest;
  time = a.time || b.time;
  chroot = a.chroot || b.chroot;
  regex = a.regex || b.regex;
}

-- what a verdict depends on: what the grants at its place do
abbrev pub verdict_depends : Policy → Verdict → List ℕ
verdict_depends p (Allow at tags) = depends_at p at
verdict_depends p (Deny at) = depends_at p at
verdict_depends p _ = []

-- ---- A table of the notes at each place

-- a place as the key of a map
abbrev pub key_of : Place → ℕ × ℕ
key_of place = (place.file, place.line)

abbrev pub same_key : ℕ × ℕ → ℕ × ℕ → Bool
same_key a b = (a.0 == b.0) && (a.1 == b.1)

-- the note is marked
abbrev pub has_mark : Marks → Note → Bool
has_mark m Digest = m.digest
has_mark m Time = m.time
has_mark m Chroot = m.chroot
has_mark m Regex = m.regex

abbrev pub is_marked : Option Marks → Note → Bool
is_marked None note = false
is_marked (Some m) note = has_mark m note

-- the notes that a table has at a place
abbrev pub noted_in : NotedPlaces → Place → List Note
noted_in t at = filter (is_marked (get same_key t.marks (key_of at))) notes

abbrev pub noted_by : NotedPlaces → Verdict → List Note
noted_by t (Allow at tags) = noted_in t at
noted_by t (Deny at) = noted_in t at
noted_by t _ = []

-- at each place the table has the notes of the grants of the policy
abbrev pub IsNoted : Policy → NotedPlaces → Type 0
IsNoted p t = (at : Place) → noted_in t at ≡ notes_at p at

-- which notes a table has at a place
abbrev pub marks_in : NotedPlaces → Place → Marks
marks_in t at = record {
  digest = is_marked (get same_key t.marks (key_of at)) Digest;
  time = is_marked (get same_key t.marks (key_of at)) Time;
  chroot = is_marked (get same_key t.marks (key_of at)) Chroot;
  regex = is_marked (get same_key t.marks (key_of at)) Regex;
}

-- and these are which notes the grants of the policy have there
abbrev pub IsMarked : Policy → NotedPlaces → Type 0
IsMarked p t = (at : Place) → marks_in t at ≡ marks_at p at
