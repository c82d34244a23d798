-- Statements of laws.
use Rattle.std.specs.Prelude.{◌≡◌, ℕ, ◌<◌, ◌+◌, true, false, List, [], ◌∷◌, ◌++◌, length, codes, drop, map, Option, None, Some, Ok}
use Rattle.std.specs.List.{list_all}
use Rattle.sudo_text.specs.declared.line.Line.{Line}
use Rattle.sudo_text.specs.Lines.{lines_of}
use Rattle.sudo_text.specs.Pieces.{plain}
use Rattle.sudo_grammar.specs.declared.kind.Atom.{Atom}
use Rattle.sudo_grammar.specs.declared.kind.Atom.TheVariants as atoms
use Rattle.sudo_grammar.specs.declared.policy.Entry.{Entry}
use Rattle.sudo_parser.specs.Parsed.{AreEntries}
use Rattle.sudo_match.specs.Matching.{command_fits, short_name}
use Rattle.sudo_grammar.specs.declared.fault.Unsupported.TheVariants as forms
use Rattle.review_texts.specs.Places.{no_path, IsRefusedFor}
use Rattle.review_texts.specs.Hostnames.{is_label_byte, StandsName}
use Rattle.review_texts.specs.Masks.{IsUnmasked, IsMasked}
use Rattle.review_texts.specs.declared.readable.Readable.{Readable}
use Rattle.review_texts.specs.Words.{newline_count}
use Rattle.review_texts.specs.declared.note.Note.{Note}
use Rattle.review_texts.specs.Notes.{note_in, note_path}
use Rattle.review_texts.specs.MaskedTexts.{written, IsMaskedText}

-- the text of a file that the fixed parser reads is left alone, byte for byte
abbrev pub ReadIsLeft : Type 0
ReadIsLeft = (r : Readable) (text masked : List ℕ) (lines : List Line) (entries : List Entry) → lines_of 0 text ≡ Ok lines
    → AreEntries lines entries → IsMaskedText r text masked → masked ≡ text

-- `masked` is cut into as many parts as there are lines, and the rest of the text; each part has as many newlines as the
-- bytes that its line was written as, so that it begins at the same physical line
abbrev pub StaysBy : List Line → List ℕ → List ℕ → Type 0
StaysBy [] text masked = masked ≡ text
StaysBy (line ∷ lines) text masked =
    (part rest : List ℕ) × (newline_count part ≡ newline_count (written line text)) × (masked ≡ part ++ rest)
    × StaysBy lines (drop (length (written line text)) text) rest

abbrev pub LinesStay : Type 0
LinesStay = (r : Readable) (text masked : List ℕ) (lines : List Line) → lines_of 0 text ≡ Ok lines → IsMaskedText r text masked
    → StaysBy lines text masked

-- a masked text has as many physical lines as the text
abbrev pub CountStays : Type 0
CountStays = (r : Readable) (text masked : List ℕ) → IsMaskedText r text masked → newline_count masked ≡ newline_count text

-- a text has one masked text
abbrev pub OneMaskedText : Type 0
OneMaskedText = (r : Readable) (text a b : List ℕ) → IsMaskedText r text a → IsMaskedText r text b → a ≡ b

-- no command fits what stands in place of `list`, with whichever arguments
abbrev pub NothingFits : Type 0
NothingFits = (command arguments : List ℕ) → command_fits (atoms.Command (map plain no_path) None) command arguments ≡ false

-- the command that stands for a note of this
abbrev pub noted_command : Note → List ℕ → Atom
noted_command note what = atoms.Command (map plain (note_path note ++ what)) None

-- no command fits what stands for a note, which is found again, whatever is noted
abbrev pub NotesFitNothing : Type 0
NotesFitNothing = (note : Note) (what : List ℕ) → (note_in (noted_command note what) ≡ Some note)
    × ((command arguments : List ℕ) → command_fits (noted_command note what) command arguments ≡ false)

-- What stands for `%h`, before the rest of the line and two blanks, is the part of the host's name before its first dot. It is not empty,
-- and has letters, digits, hyphens and underscores alone: neither a slash nor a dot, so that a path with it names no folder but those that
-- the policy names.
abbrev pub NamesStandForEscapes : Type 0
NamesStandForEscapes = (host : List ℕ) (line : Line) (start end : ℕ) (put : List ℕ) → StandsName (Some host) line start end put
    → (put ≡ short_name host ++ (drop (start + 2) line.text ++ codes "  ")) × (0 < length (short_name host))
    × (list_all is_label_byte (short_name host) ≡ true)

-- the same is made readable, but of the host of this name, if one is given
abbrev pub on_host : Option (List ℕ) → Readable → Readable
on_host host r = record r { host = host }

-- a line without a mask, where no host is given, has none with a host either, unless it is refused for `%h`
abbrev pub UnmaskedWithHost : Type 0
UnmaskedWithHost = (r : Readable) (host : Option (List ℕ)) (line : Line) → r.host ≡ None
    → (IsRefusedFor line forms.HostEscape → ⊥) → IsUnmasked r line → IsUnmasked (on_host host r) line

-- a line behind its masks, where no host is given, is the line behind its masks with a host too, unless it is refused for `%h`
abbrev pub MaskedWithHost : Type 0
MaskedWithHost = (r : Readable) (host : Option (List ℕ)) (line masked : Line) → r.host ≡ None
    → (IsRefusedFor masked forms.HostEscape → ⊥) → IsMasked r line masked → IsMasked (on_host host r) line masked
