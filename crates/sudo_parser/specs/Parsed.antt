-- The entries of a file's lines, or the first fault of lines that have none. sudoers(5), "SUDOERS FILE FORMAT".
--
-- Each line's tokens write its entry; a line without tokens has none. The first faulty line decides: a fault of its
-- text comes first, and then its grammar fault.
use Rattle.std.specs.Prelude.{◌≡◌, ℕ, ◌+◌, ◌-◌, Bool, true, nat_le, List, [], ◌∷◌, ◌++◌, length, Option, None, Some}
use Rattle.std.specs.Prelude.{◌⊎◌, if◌then◌else◌}
use Rattle.std.specs.List.{sum_by}
use Rattle.sudo_text.specs.declared.token.Token.{Token}
use Rattle.sudo_text.specs.declared.line.Line.{Line}
use Rattle.sudo_text.specs.declared.line.Place.{Place}
use Rattle.sudo_text.specs.declared.fault.TextFault.{TextFault}
use Rattle.sudo_text.specs.Tokens.{spells, LeftmostFault}
use Rattle.sudo_grammar.specs.declared.policy.Entry.{Entry}
use Rattle.sudo_grammar.specs.declared.policy.EntryBody.{EntryBody}
use Rattle.sudo_grammar.specs.declared.policy.EntryBody.TheVariants as bodies
use Rattle.sudo_grammar.specs.declared.fault.Refusal.{Refusal}
use Rattle.sudo_grammar.specs.declared.fault.Refusal.TheVariants as refusals
use Rattle.sudo_grammar.specs.declared.fault.ParseFault.{ParseFault}
use Rattle.sudo_grammar.specs.declared.fault.ParseFault.TheVariants as faults
use Rattle.sudo_parser.specs.Limits.{definition_count, less}
use Rattle.sudo_grammar.specs.Faults.{Room, Stop, WritesWithin, IsGrammarFault}

-- the maximum number of definitions of aliases of one kind
abbrev pub alias_limit : ℕ
alias_limit = 4096

-- the number of definitions of a kind that are still allowed after these entries
abbrev pub room_after : List Entry → Room
room_after entries kind = alias_limit - sum_by (λ e. definition_count kind e.body) entries

-- a line without tokens has no entry, and any other has the entry that its tokens write, within the room for
-- definitions
abbrev pub IsEntryOf : Room → Line → Option EntryBody → Type 0
IsEntryOf room line None = spells line [] ≡ true
IsEntryOf room line (Some body) =
    (t : Token) × (ts : List Token) × (spells line (t ∷ ts) ≡ true) × WritesWithin room body (t ∷ ts)

-- the entry of a line, if it has one
abbrev pub entry_of : Line → Option EntryBody → List Entry
entry_of line None = []
entry_of line (Some body) = record { place = line.first; body = body } ∷ []

-- the entries of lines that follow those of the entries before
abbrev pub AreEntriesAfter : List Entry → List Line → List Entry → Type 0
AreEntriesAfter before [] entries = entries ≡ []
AreEntriesAfter before (line ∷ lines) entries =
    (line_entry : Option EntryBody) × (rest : List Entry) × IsEntryOf (room_after before) line line_entry
    × AreEntriesAfter (before ++ entry_of line line_entry) lines rest × (entries ≡ entry_of line line_entry ++ rest)

-- the entries of a file's lines
abbrev pub AreEntries : List Line → List Entry → Type 0
AreEntries lines entries = AreEntriesAfter [] lines entries

-- the column of the first of these tokens, which end the line, or that of the line's end
abbrev pub column : Line → List Token → ℕ
column line [] = length line.text + 1
column line (t ∷ ts) = t.start + 1

-- a refusal at a place of a file
abbrev pub fault_at : Place → ℕ → Refusal → ParseFault
fault_at place col (refusals.Syntax expected) = faults.Syntax place col expected
fault_at place col (refusals.Unsupported what) = faults.Unsupported place what
fault_at place col refusals.NotCommand = faults.NotCommand place col
fault_at place col refusals.BadNumber = faults.BadNumber place col
fault_at place col refusals.TooMany = faults.TooMany place

-- the line's text has this leftmost fault
pub record IsTextFault (line : Line) (fault : ParseFault) : Type 0 where
  pub text : TextFault
  pub leftmost : LeftmostFault line text
  pub is : fault ≡ faults.Text text

-- the line has tokens, and they have a grammar fault
pub record IsGrammarFaultOf (room : Room) (line : Line) (fault : ParseFault) : Type 0 where
  pub first : Token
  pub rest : List Token
  pub spelled : spells line (first ∷ rest) ≡ true
  pub stop : Stop
  pub stopped : IsGrammarFault room (first ∷ rest) stop
  pub is : fault ≡ fault_at line.first (column line stop.rest) stop.refusal

abbrev pub IsLineFault : Room → Line → ParseFault → Type 0
IsLineFault room line fault = IsTextFault line fault ⊎ IsGrammarFaultOf room line fault

-- the first fault of lines that follow those of the entries before
abbrev pub IsFirstFaultAfter : List Entry → List Line → ParseFault → Type 0
IsFirstFaultAfter before [] fault = ⊥
IsFirstFaultAfter before (line ∷ lines) fault =
    IsLineFault (room_after before) line fault
    ⊎ ((line_entry : Option EntryBody) × IsEntryOf (room_after before) line line_entry
    × IsFirstFaultAfter (before ++ entry_of line line_entry) lines fault)

-- the fault of a file's lines
abbrev pub IsFirstFault : List Line → ParseFault → Type 0
IsFirstFault lines fault = IsFirstFaultAfter [] lines fault

-- there is room for the definitions of an entry
abbrev pub fits_room : Room → EntryBody → Bool
fits_room room (bodies.Aliases kind definitions) = nat_le (length definitions) (room kind)
fits_room room body = true

-- the place of the first entry with a definition past the room for its kind
abbrev pub over_limit_from : Room → List Entry → Option Place
over_limit_from room [] = None
over_limit_from room (entry ∷ entries) =
    if fits_room room entry.body then over_limit_from (less room entry.body) entries else Some entry.place

abbrev pub over_limit : List Entry → Option Place
over_limit entries = over_limit_from (room_after []) entries
