-- Definitions for proofs of bodies alone: the parser's functions for lists, compared with the reading of a line.
use Rattle.std.specs.Prelude.{◌≡◌, ℕ, suc, ◌&&◌, ◌<◌, ◌≤◌, Bool, true, false, List, [], ◌∷◌, length, Option, None, Some, Ok, Err}
use Rattle.sudo_text.specs.declared.token.Mark.TheVariants as marks
use Rattle.sudo_text.specs.declared.token.Token.{Token}
use Rattle.sudo_grammar.specs.declared.kind.Kind.{Kind}
use Rattle.sudo_grammar.specs.declared.kind.Kind.TheVariants as kinds
use Rattle.sudo_grammar.specs.declared.kind.Member.{Member}
use Rattle.sudo_grammar.specs.declared.fault.Refusal.{Refusal}
use Rattle.sudo_grammar.specs.declared.fault.Refusal.TheVariants as refusals
use Rattle.sudo_grammar.specs.declared.fault.Unsupported.TheVariants as forms
use Rattle.sudo_parser.specs.declared.members.MemberFault.{MemberFault}
use Rattle.sudo_parser.specs.declared.members.MemberFault.TheVariants as declines
use Rattle.sudo_parser.specs.declared.stops.ParserStop.{ParserStop}
use Rattle.sudo_parser.specs.declared.stops.ParserStop.TheVariants as stops
use Rattle.sudo_grammar.specs.Words.{plain_word, is_option_name}
use Rattle.sudo_grammar.specs.Openings.{word_passes}
use Rattle.sudo_grammar.specs.Members.{atom_of}
use Rattle.sudo_grammar.specs.Faults.{Room}
use Rattle.sudo_grammar.specs.Body.States.{Purpose, kind_for, State, Item, AfterItem, step, entry_after_list}
use Rattle.sudo_grammar.specs.Refusals.{is_next, with_next, refused_member}
use Rattle.sudo_grammar.specs.Body.Refused.{is_option, last_command, refused_at}
use Rattle.sudo_grammar.specs.Body.Reading.{reading}
use Rattle.sudo_parser.specs.Body.Stops.{Stops, IsMark, IsNotNext}

-- these states count exclamation marks
abbrev pub CountsBangs : Room → (ℕ → State) → Type 0
CountsBangs room state = (n : ℕ) (t : Token) → IsMark marks.Bang t → step room (state n) t ≡ Some (state (suc n))

-- wherever exclamation marks are counted, reading `count` of them leads to the rest
pub record ReadsBangs (ts : List Token) (count : ℕ) (rest : List Token) : Type 0 where
  pub no_longer : length rest ≤ length ts
  pub none : count ≡ 0 → ts ≡ rest
  pub reads : (room : Room) (state : ℕ → State) → CountsBangs room state
      → reading room (state 0) ts ≡ reading room (state count) rest

-- the member, if it is a command
abbrev pub command_in : Kind → Member → Option Member
command_in kinds.Cmnd m = Some m
command_in _ m = None

-- the next token is no parenthesis that would continue the line in this state
abbrev pub IsShut : Room → State → List Token → Type 0
IsShut room state [] = Unit {0}
IsShut room state (t ∷ ts) = IsMark marks.LeftParen t → step room state t ≡ None

-- the states `before`, by the number of exclamation marks, accept members of the kind, and lead to the states `after`
pub record Takes (kind : Kind) (room : Room) (before : ℕ → State) (after : Member → State) : Type 0 where
  pub counts : CountsBangs room before
  pub takes : (m : Member) → atom_of kind m.token.kind ≡ Ok m.atom → step room (before m.bangs) m.token ≡ Some (after m)
  pub refuses : (n : ℕ) (t : Token) (r : Refusal) → (IsMark marks.Bang t → ⊥)
      → (IsMark marks.LeftParen t → step room (before n) t ≡ None) → atom_of kind t.kind ≡ Err r
      → step room (before n) t ≡ None
  pub shut : (n : ℕ) (t : Token) → IsMark marks.LeftParen t → step room (before (suc n)) t ≡ None
  pub unfinished : (n : ℕ) → entry_after_list (before n) ≡ None
  pub refusal : (n : ℕ) (ts : List Token) → refused_at (before n) ts ≡ refused_member kind ts
  pub option : (m : Member) (ts : List Token) → is_option (command_in kind m) ts ≡ true
      → reading room (after m) ts ≡ Err (record { rest = ts; refusal = refusals.Unsupported forms.CommandOption })

-- the stop of the parser for a refusal of a token, with `left` tokens from it on
abbrev pub stop_of_member : Kind → Token → List Token → MemberFault → ℕ → ParserStop
stop_of_member kind t ts (declines.Refused r) left = stops.At (with_next kind t ts r) left
stop_of_member kind t ts declines.Memory left = stops.Memory

-- an option of a command: its name, with an equals sign after it
abbrev pub option_begins : Kind → Token → List Token → Bool
option_begins kinds.Cmnd t ts = word_passes is_option_name (plain_word t.kind) && is_next marks.Equals ts
option_begins _ t ts = false

-- the first token is a member of the kind, after `bangs` exclamation marks, and not the name of an option
pub record IsTaken (kind : Kind) (bangs : ℕ) (ts : List Token) (m : Member) (rest : List Token) : Type 0 where
  pub whole : ts ≡ m.token ∷ rest
  pub count : m.bangs ≡ bangs
  pub atom : atom_of kind m.token.kind ≡ Ok m.atom
  pub no_option : is_option (command_in kind m) rest ≡ false

-- after `bangs` exclamation marks the reading stops at a member of the kind, or after it
abbrev pub StopsAtMember : Kind → ℕ → List Token → ParserStop → Type 0
StopsAtMember kind bangs ts e = (room : Room) (before : ℕ → State) (after : Member → State) → Takes kind room before after
    → IsShut room (before bangs) ts → Stops e (reading room (before bangs) ts)

-- wherever members of the kind are accepted, the reading of one leads to the rest, which is shorter
pub record ReadsItem (kind : Kind) (ts : List Token) (m : Member) (rest : List Token) : Type 0 where
  pub less : length rest < length ts
  pub bare : m.bangs ≡ 0 → ts ≡ m.token ∷ rest
  pub no_option : is_option (command_in kind m) rest ≡ false
  pub reads : (room : Room) (before : ℕ → State) (after : Member → State) → Takes kind room before after
      → reading room (before 0) ts ≡ reading room (after m) rest

-- wherever members of the kind are accepted, and no parenthesis is next, the reading stops in one
abbrev pub StopsInItem : Kind → List Token → ParserStop → Type 0
StopsInItem kind ts e = (room : Room) (before : ℕ → State) (after : Member → State) → Takes kind room before after
    → IsShut room (before 0) ts → Stops e (reading room (before 0) ts)

-- in any list of the kind, the reading of items, each with the comma after it, leads to the rest
abbrev pub ReadsToItem : Kind → List Token → List Member → List Token → Type 0
ReadsToItem kind ts ms rest = (room : Room) (p : Purpose) → kind_for p ≡ kind
    → reading room (Item p 0 []) ts ≡ reading room (Item p 0 ms) rest

-- in any list of the kind, the reading of items leads to the rest, which is shorter and does not begin with a comma
pub record ReadsItems (kind : Kind) (ts : List Token) (ms : List Member) (rest : List Token) : Type 0 where
  pub less : length rest < length ts
  pub no_more : IsNotNext marks.Comma rest
  pub no_option : is_option (last_command kind ms) rest ≡ false
  pub reads : (room : Room) (p : Purpose) → kind_for p ≡ kind
      → reading room (Item p 0 []) ts ≡ reading room (AfterItem p ms) rest

-- in any list of the kind, the reading stops within it
abbrev pub StopsInItems : Kind → List Token → ParserStop → Type 0
StopsInItems kind ts e = (room : Room) (p : Purpose) → kind_for p ≡ kind → Stops e (reading room (Item p 0 []) ts)
