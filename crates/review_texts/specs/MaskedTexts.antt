-- The masked text of a file. A masked line is written joined, and followed by as many newlines as it had, so that each line
-- stays at its place; so is a Defaults line that is torn off its first word. Any other line stays as it is written.
use Rattle.std.specs.Prelude.{◌≡◌, ℕ, zero, suc, ◌≤◌, ◌⊎◌, Bool, true, false, not, ◌&&◌, ◌==◌, nat_eq, nat_lt}
use Rattle.std.specs.Prelude.{if◌then◌else◌, List, [], ◌∷◌, ◌++◌, length, take, drop, replicate, codes}
use Rattle.std.specs.List.{list_any, starts_with}
use Rattle.std.specs.Prelude.{Result, Ok, Err, Option, None, Some}
use Rattle.run_base.specs.Holding.{Holdings}
use Rattle.sudo_text.specs.declared.line.Line.{Line}
use Rattle.sudo_text.specs.declared.fault.TextFault.{TextFault}
use Rattle.sudo_text.specs.Lines.{lines_of, text_limit}
use Rattle.sudo_grammar.specs.declared.policy.Entry.{Entry}
use Rattle.sudo_parser.specs.Parsed.{AreEntries}
use Rattle.review_texts.specs.Words.{has_word, newline_count}
use Rattle.review_texts.specs.declared.readable.Readable.{Readable}
use Rattle.review_texts.specs.Places.{with_text}
use Rattle.review_texts.specs.Masks.{are_alike, IsUnmasked, IsMasked}

-- the first physical lines of a text, so many, with their newlines
unfoldable pub front_lines : ℕ → List ℕ → List ℕ
front_lines zero text = []
front_lines (suc n) [] = []
front_lines (suc n) (b ∷ bs) = b ∷ (if b == 10 then front_lines n bs else front_lines (suc n) bs)

-- the bytes that a logical line was written as, at the front of a text
abbrev pub written : Line → List ℕ → List ℕ
written line text = front_lines (suc (length line.joins)) text

-- the column of each fault is that of the line as it is written: it is one physical line, and as long as before
abbrev pub keeps_columns : Line → Line → Bool
keeps_columns line masked = (length line.joins == 0) && (length masked.text == length line.text)

-- the reader reads the line by itself
abbrev pub HasEntries : Line → Type 0
HasEntries line = (entries : List Entry) × AreEntries (line ∷ []) entries

-- the same of a line that a file may have
abbrev pub IsRead : Line → Type 0
IsRead line = (length line.text ≤ text_limit) × HasEntries line

-- no carriage return is in the bytes: for one at the end of a line sudo may refuse it
abbrev pub has_no_return : List ℕ → Bool
has_no_return bytes = not (list_any (λ b. b == 13) bytes)

-- a line behind its masks may stand for the bytes of the line: no fault is named at another column
abbrev pub MayStand : Line → Line → List ℕ → Type 0
MayStand line masked bytes = (has_no_return bytes ≡ true) × ((keeps_columns line masked ≡ true) ⊎ IsRead masked)

-- what the bytes of a line become, if this is the line behind its masks
abbrev pub IsBlockBy : Line → Line → List ℕ → List ℕ → Type 0
IsBlockBy line masked bytes block =
    (MayStand line masked bytes × (block ≡ masked.text ++ replicate (newline_count bytes) 10))
    ⊎ ((MayStand line masked bytes → ⊥) × (block ≡ bytes))

-- a text with these joins begins with the word `Defaults`, torn off by the first join: sudo ends the word there
abbrev pub tears_defaults : List ℕ → List ℕ → Bool
tears_defaults text [] = false
tears_defaults text (join ∷ later) =
    (join == 8) && starts_with nat_eq text (codes "Defaults") && are_alike text later && nat_lt (length text) text_limit
    && (newline_count text == 0)

-- the line with a blank behind the word
abbrev pub spaced : Line → Line
spaced line = with_text line (take 8 line.text ++ (32 ∷ drop 8 line.text))

-- the line with the blank is read, and not as it is
abbrev pub IsReadSpaced : Line → Type 0
IsReadSpaced line = (HasEntries line → ⊥) × IsRead (spaced line)

-- the line with the blank may stand for the bytes of the line
abbrev pub MaySpace : Line → List ℕ → Type 0
MaySpace line bytes = (tears_defaults line.text line.joins ≡ true) × (has_no_return bytes ≡ true) × IsReadSpaced line

-- what the bytes of a line without a mask become
abbrev pub IsPlainBlock : Line → List ℕ → List ℕ → Type 0
IsPlainBlock line bytes block =
    (MaySpace line bytes × (block ≡ (spaced line).text ++ replicate (newline_count bytes) 10))
    ⊎ ((MaySpace line bytes → ⊥) × (block ≡ bytes))

-- what the bytes of a line become
abbrev pub IsBlock : Readable → Line → List ℕ → List ℕ → Type 0
IsBlock r line bytes block =
    (IsUnmasked r line × IsPlainBlock line bytes block)
    ⊎ ((masked : Line) × IsMasked r line masked × IsBlockBy line masked bytes block)

-- what a text becomes that begins with these logical lines
abbrev pub AreBlocks : Readable → List Line → List ℕ → List ℕ → Type 0
AreBlocks r [] text masked = masked ≡ text
AreBlocks r (line ∷ lines) text masked =
    (block rest : List ℕ) × IsBlock r line (written line text) block
    × AreBlocks r lines (drop (length (written line text)) text) rest × (masked ≡ block ++ rest)

-- what the text becomes, by its lines; a text that has a fault before any token is read stays
abbrev pub IsTextBy : Readable → Result (List Line) TextFault → List ℕ → List ℕ → Type 0
IsTextBy r (Ok lines) text masked = AreBlocks r lines text masked
IsTextBy r (Err fault) text masked = masked ≡ text

-- what the text becomes, if one of the words stands in it or not
abbrev pub IsMaskedBy : Readable → Bool → List ℕ → List ℕ → Type 0
IsMaskedBy r true text masked = IsTextBy r (lines_of 0 text) text masked
IsMaskedBy r false text masked = masked ≡ text

-- the masked text of a file
abbrev pub IsMaskedText : Readable → List ℕ → List ℕ → Type 0
IsMaskedText r text masked = IsMaskedBy r (has_word text) text masked

-- the masked text of a file that may be missing
abbrev pub IsMaskedFile : Readable → Option (List ℕ) → Option (List ℕ) → Type 0
IsMaskedFile r None masked = masked ≡ None
IsMaskedFile r (Some text) masked = (bytes : List ℕ) × IsMaskedText r text bytes × (masked ≡ Some bytes)

-- what reading files with their masked texts may give
abbrev pub masked_holdings : Readable → Holdings → Holdings
masked_holdings r held = record {
  is_file = λ path masked. (text : Option (List ℕ)) × held.is_file path text × IsMaskedFile r text masked;
  is_folder = held.is_folder;
  is_unreadable = held.is_unreadable;
  is_long = held.is_long;
}
