-- The hint at a fault of a file of a policy.
use Rattle.std.specs.Prelude.{ℕ, Bool, ◌&&◌, ◌==◌, nat_le, nat_eq, if◌then◌else◌, List, [], ◌∷◌, codes, drop, length, ◌-◌}
use Rattle.std.specs.Prelude.{Option, None, Some}
use Rattle.std.specs.List.{starts_with}
use Rattle.std.specs.Option.{option_or}
use Rattle.sudo_grammar.specs.declared.fault.Expected.{Expected}
use Rattle.sudo_grammar.specs.declared.fault.ParseFault.{ParseFault}
use Rattle.sudo_grammar.specs.declared.fault.ParseFault.TheVariants as parses
use Rattle.sudo_text.specs.declared.fault.TextFault.{TextFault}
use Rattle.sudo_text.specs.declared.fault.TextFault.TheVariants as texts
use Rattle.sudo_text.specs.declared.line.Place.{Place}
use Rattle.review_hints.specs.Addresses.{address_hint}
use Rattle.review_hints.specs.FaultyLines.{faulty_line, first_line, lines_from}
use Rattle.review_hints.specs.FirstWords.{beginning_hint}
use Rattle.review_hints.specs.Tags.{tag_hint}

-- the text begins with the byte order mark of UTF-8
abbrev pub begins_with_mark : List ℕ → Bool
begins_with_mark text = starts_with nat_eq text (239 ∷ 187 ∷ 191 ∷ [])

-- the number of the line that a fault of a text names, and 0 if it names none
abbrev pub text_line : TextFault → ℕ
text_line (texts.BadQuote place col) = place.line
text_line (texts.BadHex place col) = place.line
text_line (texts.BadEscape place col) = place.line
text_line (texts.NotPrintable place col) = place.line
text_line (texts.TooLong file) = 0
text_line texts.Memory = 0

-- the number of the line that a fault names, and 0 if it names none
abbrev pub fault_line : ParseFault → ℕ
fault_line (parses.Syntax place col expected) = place.line
fault_line (parses.Unsupported place what) = place.line
fault_line (parses.NotCommand place col) = place.line
fault_line (parses.BadNumber place col) = place.line
fault_line (parses.TooMany place) = place.line
fault_line (parses.Text fault) = text_line fault
fault_line parses.Memory = 0

-- the hint at an address or at a tag near a fault
abbrev pub hint_inside : List ℕ → List ℕ → ℕ → Option Expected → Option (List ℕ)
hint_inside first line at expected = option_or (address_hint first line at expected) (tag_hint first line at expected)

-- the hint at a fault, given the first physical line of the faulty line, the physical line in which the fault lies, its
-- offset there, and what is expected, if it is a syntax error
abbrev pub hint_near : List ℕ → List ℕ → ℕ → Option Expected → Option (List ℕ)
hint_near first line at expected =
    option_or (beginning_hint first) (hint_inside first line at expected)

-- the same, if the offset lies in that line or at its end
abbrev pub hint_within : List ℕ → List ℕ × ℕ → Option Expected → Option (List ℕ)
hint_within first (line, at) expected = if nat_le at (length line) then hint_near first line at expected else None

-- the hint at a fault of this place and column of a text
abbrev pub hint_at : List ℕ → Place → ℕ → Option Expected → Option (List ℕ)
hint_at text place col expected =
    hint_within (first_line (lines_from text place.line)) (faulty_line (lines_from text place.line) (col - 1)) expected

-- the hint at a syntax error, or at a word that is no command
abbrev pub line_hint : List ℕ → ParseFault → Option (List ℕ)
line_hint text (parses.Syntax place col expected) = hint_at text place col (Some expected)
line_hint text (parses.Unsupported place what) = None
line_hint text (parses.NotCommand place col) = hint_at text place col None
line_hint text (parses.BadNumber place col) = None
line_hint text (parses.TooMany place) = None
line_hint text (parses.Text fault) = None
line_hint text parses.Memory = None

-- the hint at a fault of a file of this text: a byte order mark, if the fault is in the first line; otherwise a misspelled
-- keyword or directive, an address of IPv6, or a misspelled tag
abbrev pub hint_of : List ℕ → ParseFault → Option (List ℕ)
hint_of text fault =
    if begins_with_mark text && (fault_line fault == 1) then Some (codes "the file begins with a byte order mark")
    else line_hint text fault
