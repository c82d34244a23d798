-- Facts about runs that do not follow the text byte by byte: which double quote closes a quoted word, with which bytes
-- a word, a value or a path begins, and which blanks arguments contain.
use Rattle.std.specs.Prelude.{◌≡◌, ◌≢◌, ℕ, zero, suc, Bool, true, false, not, ◌&&◌, ◌==◌, if◌then◌else◌, nat_eq, List}
use Rattle.std.specs.Prelude.{length, map, take, drop, slice_index, slice_get, ◌+◌, ◌%◌, ◌<◌, ◌≤◌, ◌⊎◌, ◌↔◌, Some}
use Rattle.std.specs.Prelude.{IsTrue, codes}
use Rattle.std.specs.List.{starts_with}
use Rattle.sudo_text.specs.declared.token.Ch.{Ch}
use Rattle.sudo_text.specs.declared.rules.LineKind.{LineKind}
use Rattle.sudo_text.specs.declared.rules.Before.{Before}
use Rattle.sudo_text.specs.declared.rules.Rule.{Rule}
use Rattle.sudo_text.specs.declared.rules.Rule.TheVariants as rules
use Rattle.sudo_text.specs.declared.piece.Style.{Style}
use Rattle.sudo_text.specs.declared.piece.Style.TheVariants as styles
use Rattle.sudo_text.specs.Bytes.{is_blank, is_digit}
use Rattle.sudo_text.specs.Pieces.{plain, skip, IsBlankAt, is_mark_byte, is_assignment, ends_run, is_arguments, run_end}
use Rattle.sudo_text.specs.Rules.{opens, is_defaults, directive_len, rule_at}
use Rattle.sudo_text.specs.Tokens.{has_closing, quoted_end, command_end}

-- the number of consecutive backslashes directly before an offset
abbrev pub backslashes_before : List ℕ → ℕ → ℕ
backslashes_before text zero = 0
backslashes_before text (suc at) = if slice_index text at == 92 then suc (backslashes_before text at) else 0

-- a double quote that no backslash escapes, since those before it escape each other in pairs
pub record IsClosingQuote (text : List ℕ) (at : ℕ) : Type 0 where
  pub quote : slice_index text at ≡ 34
  pub even : backslashes_before text at % 2 ≡ 0

-- the first such double quote
pub record IsFirstClosingQuote (text : List ℕ) (at : ℕ) : Type 0 where
  pub is : IsClosingQuote text at
  pub first : (i : ℕ) → i < at → IsClosingQuote text i → ⊥

-- the text after an opening double quote has a closing one exactly if it has such a double quote
abbrev pub QuotesClose : Type 0
QuotesClose = (text : List ℕ) → (has_closing false text ≡ true) ↔ ((at : ℕ) × IsClosingQuote text at)

-- a run between double quotes that ends at a double quote, `len` bytes from its start, ends at the first that closes
abbrev pub QuotesEndRuns : Type 0
QuotesEndRuns = (text : List ℕ) (start len : ℕ) (cs : List Ch)
    → run_end styles.Quoted text start cs ≡ Some (start + len) → slice_index text (start + len) ≡ 34
    → IsFirstClosingQuote (drop start text) len

-- the offset is directly after the first double quote that closes after an opening one
pub record IsBehindFirstQuote (text : List ℕ) (at end : ℕ) : Type 0 where
  pub len : ℕ
  pub behind : end ≡ at + 1 + len + 1
  pub is : IsFirstClosingQuote (drop (at + 1) text) len

-- a quoted word ends directly after the first double quote that closes
abbrev pub QuotesEndWords : Type 0
QuotesEndWords = (text : List ℕ) (at end : ℕ) (cs : List Ch) → quoted_end text at cs ≡ Some end → IsBehindFirstQuote text at end

-- the byte `len` bytes after `start` ends the run from `start`, and no backslash of the run escapes it
pub record EndsBehind (style : Style) (text : List ℕ) (start len : ℕ) : Type 0 where
  pub ends : ends_run style text start (start + len) ≡ true
  pub even : backslashes_before (drop start text) len % 2 ≡ 0

-- blanks at an offset, followed by the end of the text or by a byte that ends arguments
abbrev pub LeadsOut : List ℕ → ℕ → Type 0
LeadsOut text at = IsBlankAt text at
    × ((length text ≤ skip text at) ⊎ (ends_run styles.Arguments text (skip text at) (skip text at) ≡ true))

-- the run from `start` extends to the first byte that ends it, or to the end of the text; arguments leave out the
-- blanks before that
pub record IsWholeRun (style : Style) (text : List ℕ) (start end : ℕ) : Type 0 where
  pub len : ℕ
  pub behind : end ≡ start + len
  pub first : (i : ℕ) → i < len → EndsBehind style text start i → ⊥
  pub last : (length text ≤ end) ⊎ (EndsBehind style text start len ⊎ (IsTrue (is_arguments style) × LeadsOut text end))

-- each run is whole in this sense
abbrev pub RunsAreWhole : Type 0
RunsAreWhole = (style : Style) (text : List ℕ) (start end : ℕ) (cs : List Ch) → run_end style text start cs ≡ Some end
    → IsWholeRun style text start end

-- the characters of a run without a backslash are its bytes, except in arguments
abbrev pub PlainRuns : Type 0
PlainRuns = (style : Style) (text : List ℕ) (start len : ℕ) (cs : List Ch) → is_arguments style ≡ false
    → ((i : ℕ) → i < len → slice_index text (start + i) ≢ 92) → run_end style text start cs ≡ Some (start + len)
    → cs ≡ map plain (take len (drop start text))

-- a `#` at an offset begins a number: a digit follows it, and the token before allows a number
abbrev pub OnlyNumbers : Before → List ℕ → ℕ → Type 0
OnlyNumbers before text at = slice_index text at ≡ 35 → IsTrue (opens before) × IsTrue (is_digit (slice_index text (at + 1)))

-- the first byte of a word: no blank, no mark, no double quote, no slash, and no `#` except that of a number; in a
-- Defaults line no `+=` or `-=` either, and directly after the word `Defaults` no `@` or `>`
pub record BeginsWord (kind : LineKind) (before : Before) (text : List ℕ) (at : ℕ) : Type 0 where
  pub no_blank : is_blank (slice_index text at) ≡ false
  pub no_mark : is_mark_byte (slice_index text at) ≡ false
  pub no_quote : slice_index text at ≢ 34
  pub number : OnlyNumbers before text at
  pub no_path : slice_index text at ≢ 47
  pub no_assignment : IsTrue (is_defaults kind) → is_assignment text at ≡ false
  pub no_binding : IsTrue (is_defaults kind) → at ≡ 8 → (slice_index text at ≢ 64) × (slice_index text at ≢ 62)

-- the first byte of a value of a Defaults line: no blank, no comma, no double quote, and no `#` except that of a number
pub record BeginsValue (before : Before) (text : List ℕ) (at : ℕ) : Type 0 where
  pub no_blank : is_blank (slice_index text at) ≡ false
  pub no_comma : slice_index text at ≢ 44
  pub no_quote : slice_index text at ≢ 34
  pub number : OnlyNumbers before text at

-- the first bytes of a command: a slash, or the bytes of `sudoedit`
abbrev pub BeginsPath : List ℕ → ℕ → Type 0
BeginsPath text at = (slice_index text at ≡ 47) ⊎ IsTrue (starts_with nat_eq (drop at text) (codes "sudoedit"))

-- the first bytes for each rule; the path of an include line, after the directive, does not begin with a blank
abbrev pub Begins : Rule → LineKind → Before → List ℕ → ℕ → Type 0
Begins rules.Word kind before text at = BeginsWord kind before text at
Begins rules.Value kind before text at = BeginsValue before text at
Begins rules.Command kind before text at = BeginsPath text at
Begins (rules.Include folder hash) kind before text at = is_blank (slice_index text (skip text (at + directive_len folder))) ≡ false
Begins rules.Quoted kind before text at = slice_index text at ≡ 34
Begins rules.Comment kind before text at = slice_index text at ≡ 35
Begins rules.Keyword kind before text at = Unit {0}
Begins (rules.Mark mark) kind before text at = Unit {0}

abbrev pub RunsBegin : Type 0
RunsBegin = (kind : LineKind) (before : Before) (text : List ℕ) (from : ℕ)
    → Begins (rule_at kind before text (skip text from)) kind before text (skip text from)

-- a blank that no escape yields
abbrev pub is_plain_blank : Ch → Bool
is_plain_blank c = not c.escaped && is_blank c.byte

-- the character at an index exists and is not such a blank
pub record HasNoBlankAt (cs : List Ch) (at : ℕ) : Type 0 where
  pub char : Ch
  pub there : slice_get cs at ≡ Some char
  pub no_blank : is_plain_blank char ≡ false

-- each such blank is a space, directly followed by a character that is not one
pub record AreSpaced (cs : List Ch) : Type 0 where
  pub space : (at : ℕ) (c : Ch) → slice_get cs at ≡ Some c → is_plain_blank c ≡ true → c.byte ≡ 32
  pub followed : (at : ℕ) (c : Ch) → slice_get cs at ≡ Some c → is_plain_blank c ≡ true → HasNoBlankAt cs (suc at)

abbrev pub BlanksOfArguments : Type 0
BlanksOfArguments = (text : List ℕ) (start end : ℕ) (cs : List Ch) → run_end styles.Arguments text start cs ≡ Some end → AreSpaced cs

-- the arguments of a command begin with a character that is not such a blank, and have single spaces within
abbrev pub ArgumentsOfCommands : Type 0
ArgumentsOfCommands = (kind : LineKind) (text : List ℕ) (at end : ℕ) (path cs : List Ch)
    → command_end kind text at path (Some cs) ≡ Some end → HasNoBlankAt cs 0 × AreSpaced cs
