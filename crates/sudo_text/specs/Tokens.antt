-- The tokens of a line.
--
-- `spells` judges a finished list: the spans of its tokens are in order and apart, with only blanks between them and at
-- most one comment after the last; each span is read by the first rule that applies where it begins, is as long as that
-- rule allows, and has exactly the characters of its token. `LeftmostFault` judges a fault in the same way: by the
-- tokens before it and the rule that then fails.
use Rattle.std.specs.Prelude.{◌≡◌, ℕ, Bool, true, false, not, ◌&&◌, ◌||◌, ◌==◌, nat_lt, nat_le, if◌then◌else◌, List}
use Rattle.std.specs.Prelude.{[], ◌∷◌, length, map, drop, slice_index, ◌+◌, ◌<◌, ◌⊎◌, Option, Some, None}
use Rattle.std.specs.Prelude.{IsTrue, codes}
use Rattle.std.specs.Option.{option_and_then}
use Rattle.std.specs.List.{list_any}
use Rattle.sudo_text.specs.declared.token.Ch.{Ch}
use Rattle.sudo_text.specs.declared.token.Token.{Token}
use Rattle.sudo_text.specs.declared.token.TokenKind.{TokenKind}
use Rattle.sudo_text.specs.declared.token.TokenKind.TheVariants as kinds
use Rattle.sudo_text.specs.declared.token.Mark.{Mark}
use Rattle.sudo_text.specs.declared.token.Mark.TheVariants as marks
use Rattle.sudo_text.specs.declared.line.Line.{Line}
use Rattle.sudo_text.specs.declared.line.Place.{Place}
use Rattle.sudo_text.specs.declared.fault.TextFault.{TextFault}
use Rattle.sudo_text.specs.declared.fault.TextFault.TheVariants as faults
use Rattle.sudo_text.specs.declared.rules.LineKind.{LineKind}
use Rattle.sudo_text.specs.declared.rules.Before.{Before}
use Rattle.sudo_text.specs.declared.rules.Before.TheVariants as befores
use Rattle.sudo_text.specs.declared.rules.Rule.{Rule}
use Rattle.sudo_text.specs.declared.rules.Rule.TheVariants as rules
use Rattle.sudo_text.specs.declared.piece.Style.TheVariants as styles
use Rattle.sudo_text.specs.declared.piece.Flaw.{Flaw}
use Rattle.sudo_text.specs.declared.piece.Flaw.TheVariants as flaws
use Rattle.sudo_text.specs.Pieces.{plain, skip, ends_run, same_bool, same_ch, run_end, Breaks}
use Rattle.sudo_text.specs.Rules.{is_defaults, word_style, mark_len, directive_len, rule_at, before_of, line_kind}

abbrev pub same_chars : List Ch → List Ch → Bool
same_chars [] [] = true
same_chars [] (d ∷ ds) = false
same_chars (c ∷ cs) [] = false
same_chars (c ∷ cs) (d ∷ ds) = same_ch c d && same_chars cs ds

-- each function below returns the end of the token that begins at an offset and has the given parts, if the text has it
-- there

-- a text between double quotes that begin at the offset
unfoldable pub quoted_end : List ℕ → ℕ → List Ch → Option ℕ
quoted_end text at cs =
    option_and_then (λ end. if slice_index text end == 34 then Some (end + 1) else None) (run_end styles.Quoted text (at + 1) cs)

-- the word `Defaults` that begins a line
abbrev pub defaults_word : List Ch
defaults_word = map plain (codes "Defaults")

unfoldable pub keyword_end : ℕ → List Ch → Option ℕ
keyword_end at cs = if same_chars cs defaults_word then Some (at + 8) else None

-- a command whose path ends at an offset has arguments: blanks follow, and then a byte that begins them; a command of a
-- Defaults line has none
unfoldable pub has_arguments : LineKind → List ℕ → ℕ → Bool
has_arguments kind text end =
    not (is_defaults kind)
    && nat_lt end (skip text end)
    && nat_lt (skip text end) (length text)
    && not (ends_run styles.Arguments text (skip text end) (skip text end))

abbrev pub arguments_end : LineKind → List ℕ → ℕ → Option (List Ch) → Option ℕ
arguments_end kind text end None = if has_arguments kind text end then None else Some end
arguments_end kind text end (Some cs) =
    if has_arguments kind text end then run_end styles.Arguments text (skip text end) cs else None

unfoldable pub command_end : LineKind → List ℕ → ℕ → List Ch → Option (List Ch) → Option ℕ
command_end kind text at path args =
    option_and_then (λ end. arguments_end kind text end args) (run_end styles.Path text at path)

-- the marks, numbered
abbrev pub mark_code : Mark → ℕ
mark_code marks.Bang = 0
mark_code marks.Equals = 1
mark_code marks.Comma = 2
mark_code marks.Colon = 3
mark_code marks.LeftParen = 4
mark_code marks.RightParen = 5
mark_code marks.At = 6
mark_code marks.Greater = 7
mark_code marks.PlusEquals = 8
mark_code marks.MinusEquals = 9

-- the path of an include line, after the directive, which ends at an offset, and blanks
unfoldable pub path_end : List ℕ → ℕ → List Ch → Option ℕ
path_end text directive path =
    if nat_le (length text) (skip text directive) then (if same_chars path [] then Some directive else None)
    else (if slice_index text (skip text directive) == 34 then quoted_end text (skip text directive) path
    else run_end styles.Include text (skip text directive) path)

-- the end of the token that begins at an offset, read by the given rule
abbrev pub token_by : Rule → LineKind → List ℕ → ℕ → TokenKind → Option ℕ
token_by rules.Quoted kind text at (kinds.Word true chars) = quoted_end text at chars
token_by rules.Word kind text at (kinds.Word false chars) = run_end (word_style kind) text at chars
token_by rules.Value kind text at (kinds.Word false chars) = run_end styles.Value text at chars
token_by rules.Keyword kind text at (kinds.Word false chars) = keyword_end at chars
token_by rules.Command kind text at (kinds.Command path args) = command_end kind text at path args
token_by (rules.Mark found) kind text at (kinds.Mark mark) =
    if mark_code found == mark_code mark then Some (at + mark_len mark) else None
token_by (rules.Include f h) kind text at (kinds.Include folder hash path) =
    if same_bool f folder && same_bool h hash then path_end text (at + directive_len f) path else None
token_by rule kind text at token = None

-- the end of the token that begins at an offset, read by the first rule that applies
unfoldable pub token_end : LineKind → Before → List ℕ → ℕ → TokenKind → Option ℕ
token_end kind before text at token = token_by (rule_at kind before text at) kind text at token

abbrev pub is_comment : Rule → Bool
is_comment rules.Comment = true
is_comment _ = false

-- a comment that continues over a join: one of the joins lies after its `#`
abbrev pub has_join_after : List ℕ → ℕ → Bool
has_join_after joins at = list_any (λ join. nat_lt at join) joins

abbrev pub is_offset : Option ℕ → ℕ → Bool
is_offset None at = false
is_offset (Some end) at = end == at

-- the token is the next one after an offset
unfoldable pub stands : LineKind → List ℕ → ℕ → Before → Token → Bool
stands kind text from before token =
    (token.start == skip text from)
    && nat_lt token.start (length text)
    && is_offset (token_end kind before text token.start token.kind) token.end

-- after the last token there are blanks, and then nothing, or a comment without a join
unfoldable pub closes_line : LineKind → List ℕ → List ℕ → ℕ → Before → Bool
closes_line kind text joins from before =
    nat_le (length text) (skip text from)
    || (is_comment (rule_at kind before text (skip text from)) && not (has_join_after joins (skip text from)))

-- the text from an offset on spells the tokens
abbrev pub spells_from : LineKind → List ℕ → List ℕ → ℕ → Before → List Token → Bool
spells_from kind text joins from before [] = closes_line kind text joins from before
spells_from kind text joins from before (token ∷ rest) =
    stands kind text from before token && spells_from kind text joins token.end (before_of token.kind) rest

unfoldable pub spells : Line → List Token → Bool
spells line tokens = spells_from (line_kind line.text) line.text line.joins 0 befores.Nothing tokens

-- a double quote closes the quoted word unless a backslash escapes it
abbrev pub closes : Bool → ℕ → Bool
closes taken b = not taken && (b == 34)

abbrev pub takes_next : Bool → ℕ → Bool
takes_next taken b = not taken && (b == 92)

-- the text contains a double quote that no backslash escapes; the first byte is escaped or not
abbrev pub has_closing : Bool → List ℕ → Bool
has_closing taken [] = false
has_closing taken (b ∷ bs) = if closes taken b then true else has_closing (takes_next taken b) bs

-- the flaw of a quoted word that begins at an offset
abbrev pub QuotedFlaw : List ℕ → ℕ → Flaw → ℕ → Type 0
QuotedFlaw text at flaw offset =
    (IsTrue (has_closing false (drop (at + 1) text)) × Breaks styles.Quoted text (at + 1) flaw offset)
    ⊎ (IsTrue (not (has_closing false (drop (at + 1) text))) × (flaw ≡ flaws.BadQuote) × (offset ≡ at))

-- the flaw of a command's arguments, after a path without a flaw
pub record ArgumentsFlaw (kind : LineKind) (text : List ℕ) (at : ℕ) (flaw : Flaw) (offset : ℕ) : Type 0 where
  pub path : List Ch
  pub end : ℕ
  pub path_ends : run_end styles.Path text at path ≡ Some end
  pub goes_on : has_arguments kind text end ≡ true
  pub breaks : Breaks styles.Arguments text (skip text end) flaw offset

-- the flaw of a command
abbrev pub CommandFlaw : LineKind → List ℕ → ℕ → Flaw → ℕ → Type 0
CommandFlaw kind text at flaw offset = Breaks styles.Path text at flaw offset ⊎ ArgumentsFlaw kind text at flaw offset

-- the flaw of the path of an include line, after a directive that ends at an offset
abbrev pub PathFlaw : List ℕ → ℕ → Flaw → ℕ → Type 0
PathFlaw text directive flaw offset =
    (skip text directive < length text)
    × ((IsTrue (slice_index text (skip text directive) == 34) × QuotedFlaw text (skip text directive) flaw offset)
    ⊎ (IsTrue (not (slice_index text (skip text directive) == 34)) × Breaks styles.Include text (skip text directive) flaw offset))

-- reading by the given rule at an offset fails with a flaw
abbrev pub FlawBy : Rule → LineKind → List ℕ → List ℕ → ℕ → Flaw → ℕ → Type 0
FlawBy (rules.Include folder hash) kind text joins at flaw offset = PathFlaw text (at + directive_len folder) flaw offset
FlawBy rules.Keyword kind text joins at flaw offset = ⊥
FlawBy rules.Comment kind text joins at flaw offset =
    IsTrue (has_join_after joins at) × (flaw ≡ flaws.BadEscape) × (offset ≡ at)
FlawBy rules.Quoted kind text joins at flaw offset = QuotedFlaw text at flaw offset
FlawBy rules.Value kind text joins at flaw offset = Breaks styles.Value text at flaw offset
FlawBy rules.Command kind text joins at flaw offset = CommandFlaw kind text at flaw offset
FlawBy (rules.Mark mark) kind text joins at flaw offset = ⊥
FlawBy rules.Word kind text joins at flaw offset = Breaks (word_style kind) text at flaw offset

-- reading fails with a flaw after the tokens that the text spells from an offset on
abbrev pub FlawAfter : LineKind → List ℕ → List ℕ → ℕ → Before → List Token → Flaw → ℕ → Type 0
FlawAfter kind text joins from before [] flaw offset =
    (skip text from < length text)
    × FlawBy (rule_at kind before text (skip text from)) kind text joins (skip text from) flaw offset
FlawAfter kind text joins from before (token ∷ rest) flaw offset =
    IsTrue (stands kind text from before token)
    × FlawAfter kind text joins token.end (before_of token.kind) rest flaw offset

abbrev pub fault_of : Place → Flaw → ℕ → TextFault
fault_of first flaws.BadQuote offset = faults.BadQuote first (offset + 1)
fault_of first flaws.BadHex offset = faults.BadHex first (offset + 1)
fault_of first flaws.BadEscape offset = faults.BadEscape first (offset + 1)
fault_of first flaws.NotPrintable offset = faults.NotPrintable first (offset + 1)

-- the leftmost fault of a line, with the tokens before it
pub record LeftmostFault (line : Line) (fault : TextFault) : Type 0 where
  pub before : List Token
  pub flaw : Flaw
  pub offset : ℕ
  pub after : FlawAfter (line_kind line.text) line.text line.joins 0 befores.Nothing before flaw offset
  pub is : fault ≡ fault_of line.first flaw offset

-- no line spells two lists of tokens
abbrev pub SpelledOnce : Type 0
SpelledOnce = (line : Line) (ts us : List Token) → spells line ts ≡ true → spells line us ≡ true → ts ≡ us

-- a line that spells a list of tokens has no fault
abbrev pub FaultsExclude : Type 0
FaultsExclude = (line : Line) (fault : TextFault) (ts : List Token) → LeftmostFault line fault → spells line ts ≡ true → ⊥

-- no line has two leftmost faults
abbrev pub FaultedOnce : Type 0
FaultedOnce = (line : Line) (fault other : TextFault) → LeftmostFault line fault → LeftmostFault line other → fault ≡ other

-- the place that a fault names, if any
abbrev pub fault_place : TextFault → Option Place
fault_place (faults.BadQuote place col) = Some place
fault_place (faults.BadHex place col) = Some place
fault_place (faults.BadEscape place col) = Some place
fault_place (faults.NotPrintable place col) = Some place
fault_place (faults.TooLong file) = None
fault_place faults.Memory = None

-- a leftmost fault names the place where its line begins
abbrev pub FaultsPlaced : Type 0
FaultsPlaced = (line : Line) (fault : TextFault) → LeftmostFault line fault → fault_place fault ≡ Some line.first
