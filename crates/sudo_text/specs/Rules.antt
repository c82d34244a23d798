-- The rule that reads the text at an offset of a line.
use Rattle.std.specs.Prelude.{ℕ, Bool, true, false, not, ◌&&◌, ◌||◌, ◌==◌, nat_eq, nat_le, nat_lt, if◌then◌else◌}
use Rattle.std.specs.Prelude.{List, length, drop, slice_index, ◌+◌, Option, Some, None, codes}
use Rattle.std.specs.List.{starts_with}
use Rattle.sudo_text.specs.declared.token.TokenKind.{TokenKind}
use Rattle.sudo_text.specs.declared.token.TokenKind.TheVariants as kinds
use Rattle.sudo_text.specs.declared.token.Mark.{Mark}
use Rattle.sudo_text.specs.declared.token.Mark.TheVariants as marks
use Rattle.sudo_text.specs.declared.rules.LineKind.{LineKind}
use Rattle.sudo_text.specs.declared.rules.LineKind.TheVariants as lines
use Rattle.sudo_text.specs.declared.rules.Before.{Before}
use Rattle.sudo_text.specs.declared.rules.Before.TheVariants as befores
use Rattle.sudo_text.specs.declared.rules.Rule.{Rule}
use Rattle.sudo_text.specs.declared.rules.Rule.TheVariants as rules
use Rattle.sudo_text.specs.declared.piece.Style.{Style}
use Rattle.sudo_text.specs.declared.piece.Style.TheVariants as styles
use Rattle.sudo_text.specs.Bytes.{is_blank, is_digit, begins_word}
use Rattle.sudo_text.specs.Pieces.{piece_at, is_end}

-- the text begins with `Defaults`, followed by a blank, the end or one of `@ : ! >`
unfoldable pub begins_defaults : List ℕ → Bool
begins_defaults text =
    starts_with nat_eq text (codes "Defaults")
    && ((length text == 8)
    || is_blank (slice_index text 8)
    || (slice_index text 8 == 64)
    || (slice_index text 8 == 58)
    || (slice_index text 8 == 33)
    || (slice_index text 8 == 62))

unfoldable pub line_kind : List ℕ → LineKind
line_kind text =
    if begins_word text (codes "@include") then lines.Include false false
    else (if begins_word text (codes "@includedir") then lines.Include true false
    else (if begins_word text (codes "#include") then lines.Include false true
    else (if begins_word text (codes "#includedir") then lines.Include true true
    else (if begins_defaults text then lines.Defaults
    else lines.General))))

abbrev pub before_mark : Mark → Before
before_mark marks.Equals = befores.EqualSign
before_mark marks.RightParen = befores.Other
before_mark marks.PlusEquals = befores.Assignment
before_mark marks.MinusEquals = befores.Assignment
before_mark _ = befores.Opener

-- the class of a token, for the offset after it
abbrev pub before_of : TokenKind → Before
before_of (kinds.Mark mark) = before_mark mark
before_of _ = befores.Other

-- a `#` with a digit after it begins a word or a value after this token
abbrev pub opens : Before → Bool
opens befores.Assignment = false
opens befores.Other = false
opens _ = true

-- an unquoted word after this token is a value, in a Defaults line
abbrev pub wants_value : Before → Bool
wants_value befores.EqualSign = true
wants_value befores.Assignment = true
wants_value _ = false

abbrev pub is_defaults : LineKind → Bool
is_defaults lines.General = false
is_defaults lines.Defaults = true
is_defaults (lines.Include folder hash) = false

abbrev pub word_style : LineKind → Style
word_style lines.General = styles.Word
word_style lines.Defaults = styles.DefaultsWord
word_style (lines.Include folder hash) = styles.Word

-- the marks of Defaults lines alone: `+=` and `-=`, and `@` and `>` directly after the first word
unfoldable pub defaults_mark_at : List ℕ → ℕ → Option Mark
defaults_mark_at text at =
    if (slice_index text at == 43) && (slice_index text (at + 1) == 61) then Some marks.PlusEquals
    else (if (slice_index text at == 45) && (slice_index text (at + 1) == 61) then Some marks.MinusEquals
    else (if (at == 8) && (slice_index text at == 64) then Some marks.At
    else (if (at == 8) && (slice_index text at == 62) then Some marks.Greater
    else None)))

unfoldable pub mark_at : LineKind → List ℕ → ℕ → Option Mark
mark_at kind text at =
    if slice_index text at == 33 then Some marks.Bang
    else (if slice_index text at == 61 then Some marks.Equals
    else (if slice_index text at == 44 then Some marks.Comma
    else (if slice_index text at == 58 then Some marks.Colon
    else (if slice_index text at == 40 then Some marks.LeftParen
    else (if slice_index text at == 41 then Some marks.RightParen
    else (if is_defaults kind then defaults_mark_at text at
    else None))))))

abbrev pub mark_len : Mark → ℕ
mark_len marks.PlusEquals = 2
mark_len marks.MinusEquals = 2
mark_len _ = 1

-- the unquoted word at an offset is `sudoedit`, without escapes: its eight bytes, and then the end of the word
unfoldable pub is_sudoedit : LineKind → List ℕ → ℕ → Bool
is_sudoedit kind text at =
    nat_le (at + 8) (length text)
    && starts_with nat_eq (drop at text) (codes "sudoedit")
    && is_end (piece_at (word_style kind) text at (at + 8))

abbrev pub mark_or_word : Option Mark → Rule
mark_or_word (Some mark) = rules.Mark mark
mark_or_word None = rules.Word

-- the first rule that applies, apart from those for the start of a line
unfoldable pub general_rule_at : LineKind → Before → List ℕ → ℕ → Rule
general_rule_at kind before text at =
    if (slice_index text at == 35) && not (opens before && is_digit (slice_index text (at + 1))) then rules.Comment
    else (if slice_index text at == 34 then rules.Quoted
    else (if is_defaults kind && wants_value before && not (slice_index text at == 44) then rules.Value
    else (if (slice_index text at == 47) || is_sudoedit kind text at then rules.Command
    else mark_or_word (mark_at kind text at))))

-- an include line begins with an include token, and a Defaults line with the word `Defaults`
abbrev pub first_rule : LineKind → Rule → Rule
first_rule (lines.Include folder hash) rule = rules.Include folder hash
first_rule lines.Defaults rule = rules.Keyword
first_rule lines.General rule = rule

-- the first rule that applies
unfoldable pub rule_at : LineKind → Before → List ℕ → ℕ → Rule
rule_at kind before text at =
    if nat_lt 0 at then general_rule_at kind before text at
    else first_rule kind (general_rule_at kind before text at)

abbrev pub directive_len : Bool → ℕ
directive_len folder = if folder then 11 else 8
