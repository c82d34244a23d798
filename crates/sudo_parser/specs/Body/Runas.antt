-- Definitions for proofs of bodies alone: the parser's functions for parentheses, compared with the reading of a line.
use Rattle.std.specs.Prelude.{◌≡◌, ◌≤◌, List, [], length, Option, None, Some}
use Rattle.sudo_text.specs.declared.token.Mark.TheVariants as marks
use Rattle.sudo_text.specs.declared.token.Token.{Token}
use Rattle.sudo_grammar.specs.declared.kind.Member.{Member}
use Rattle.sudo_grammar.specs.declared.policy.Runas.{Runas}
use Rattle.sudo_grammar.specs.declared.fault.Expected.TheVariants as wants
use Rattle.sudo_grammar.specs.declared.fault.Refusal.TheVariants as refusals
use Rattle.sudo_parser.specs.declared.stops.ParserStop.{ParserStop}
use Rattle.sudo_parser.specs.declared.stops.ParserStop.TheVariants as stops
use Rattle.sudo_grammar.specs.Faults.{Room}
use Rattle.sudo_grammar.specs.Body.States.{Granting, RunasUsers, RunasGroups, State, Command, AfterItem, RunasStart}
use Rattle.sudo_grammar.specs.Body.States.{GroupsStart}
use Rattle.sudo_grammar.specs.Body.Reading.{reading}
use Rattle.sudo_parser.specs.Body.Stops.{Stops, IsNext, IsNotNext}

-- the state after the users between parentheses, if any
abbrev pub users_state : Granting → Option (List Member) → State
users_state g None = RunasStart g
users_state g (Some ms) = AfterItem (RunasUsers g) ms

-- without users a colon or the closing parenthesis is next, and after users no comma is
abbrev pub EndsUsers : Option (List Member) → List Token → Type 0
EndsUsers None rest = IsNotNext marks.Colon rest → IsNotNext marks.RightParen rest → ⊥
EndsUsers (Some ms) rest = IsNotNext marks.Comma rest

-- after the opening parenthesis the reading of the users leads to the rest
pub record ReadsUsers (ts : List Token) (us : Option (List Member)) (rest : List Token) : Type 0 where
  pub no_longer : length rest ≤ length ts
  pub ends : EndsUsers us rest
  pub reads : (room : Room) (g : Granting) → reading room (RunasStart g) ts ≡ reading room (users_state g us) rest

abbrev pub StopsInUsers : List Token → ParserStop → Type 0
StopsInUsers ts e = (room : Room) (g : Granting) → Stops e (reading room (RunasStart g) ts)

-- the state after the groups between parentheses, if any
abbrev pub groups_state : Granting → Option (List Member) → Option (List Member) → State
groups_state g us None = GroupsStart g us
groups_state g us (Some ms) = AfterItem (RunasGroups g us) ms

-- without groups the closing parenthesis is next, and after groups no comma is
abbrev pub EndsGroups : Option (List Member) → List Token → Type 0
EndsGroups None rest = IsNotNext marks.RightParen rest → ⊥
EndsGroups (Some ms) rest = IsNotNext marks.Comma rest

-- after the colon the reading of the groups leads to the rest
pub record ReadsGroups (ts : List Token) (gs : Option (List Member)) (rest : List Token) : Type 0 where
  pub no_longer : length rest ≤ length ts
  pub ends : EndsGroups gs rest
  pub reads : (room : Room) (g : Granting) (us : Option (List Member))
      → reading room (GroupsStart g us) ts ≡ reading room (groups_state g us gs) rest

abbrev pub StopsInGroups : List Token → ParserStop → Type 0
StopsInGroups ts e = (room : Room) (g : Granting) (us : Option (List Member)) → Stops e (reading room (GroupsStart g us) ts)

-- the lists were read before the closing parenthesis, which alone continues the line
pub record ReadsLists (ts : List Token) (r : Runas) (rest : List Token) : Type 0 where
  pub no_longer : length rest ≤ length ts
  pub closes : (after : List Token) → IsNext marks.RightParen rest after → (room : Room) (g : Granting)
      → reading room (RunasStart g) ts ≡ reading room (Command g (Some r) [] 0) after
  pub unclosed : IsNotNext marks.RightParen rest → (room : Room) (g : Granting)
      → Stops (stops.At (refusals.Syntax wants.RightParen) (length rest)) (reading room (RunasStart g) ts)

-- where a command may begin, the reading of parentheses, if any, leads to the rest
pub record ReadsRunas (ts : List Token) (r : Option Runas) (rest : List Token) : Type 0 where
  pub no_longer : length rest ≤ length ts
  pub closed : r ≡ None → IsNotNext marks.LeftParen rest
  pub reads : (room : Room) (g : Granting) → reading room (Command g None [] 0) ts ≡ reading room (Command g r [] 0) rest

abbrev pub StopsInRunas : List Token → ParserStop → Type 0
StopsInRunas ts e = (room : Room) (g : Granting) → Stops e (reading room (Command g None [] 0) ts)
