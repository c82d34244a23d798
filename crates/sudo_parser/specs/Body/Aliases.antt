-- Definitions for proofs of bodies alone: the parser's functions for alias lines, compared with the reading of a line.
use Rattle.std.specs.Prelude.{◌≡◌, ℕ, ◌<◌, nat_lt, not, Bool, false, List, [], length}
use Rattle.sudo_text.specs.declared.token.Mark.TheVariants as marks
use Rattle.sudo_text.specs.declared.token.Token.{Token}
use Rattle.sudo_grammar.specs.declared.kind.Kind.{Kind}
use Rattle.sudo_grammar.specs.declared.policy.Definition.{Definition}
use Rattle.sudo_parser.specs.declared.stops.ParserStop.{ParserStop}
use Rattle.sudo_grammar.specs.Faults.{Room}
use Rattle.sudo_grammar.specs.Body.States.{Defines, AliasName, AfterName, AfterItem}
use Rattle.sudo_grammar.specs.Body.Refused.{is_option, last_command}
use Rattle.sudo_grammar.specs.Body.Reading.{reading}
use Rattle.sudo_parser.specs.Body.Stops.{Stops, IsNotNext}

-- `full`: a further definition would be over the limit
abbrev pub IsFull : Room → Kind → List Definition → Bool → Type 0
IsFull room kind done full = nat_lt (length done) (room kind) ≡ not full

-- where the name of a definition is expected, the reading of one leads to the rest, which is shorter
pub record ReadsName (full : Bool) (ts : List Token) (w : List ℕ) (rest : List Token) : Type 0 where
  pub less : length rest < length ts
  pub reads : (room : Room) (kind : Kind) (done : List Definition) → IsFull room kind done full
      → reading room (AliasName kind done) ts ≡ reading room (AfterName kind done w) rest

abbrev pub StopsInName : Bool → List Token → ParserStop → Type 0
StopsInName full ts e = (room : Room) (kind : Kind) (done : List Definition) → IsFull room kind done full
    → Stops e (reading room (AliasName kind done) ts)

-- where a definition is expected, the reading of one leads to the rest, which is shorter and does not begin with a
-- comma
pub record ReadsDefinition (kind : Kind) (full : Bool) (ts : List Token) (d : Definition) (rest : List Token) : Type 0 where
  pub less : length rest < length ts
  pub no_more : IsNotNext marks.Comma rest
  pub no_option : is_option (last_command kind d.members) rest ≡ false
  pub reads : (room : Room) (done : List Definition) → IsFull room kind done full
      → reading room (AliasName kind done) ts ≡ reading room (AfterItem (Defines kind done d.name) d.members) rest

abbrev pub StopsInDefinition : Kind → Bool → List Token → ParserStop → Type 0
StopsInDefinition kind full ts e = (room : Room) (done : List Definition) → IsFull room kind done full
    → Stops e (reading room (AliasName kind done) ts)

-- the reading of definitions of the kind, each with the colon after it, leads to the rest
abbrev pub ReadsToDefinition : Kind → ℕ → List Token → List Definition → List Token → Type 0
ReadsToDefinition kind limit ts ds rest = (room : Room) → room kind ≡ limit
    → reading room (AliasName kind []) ts ≡ reading room (AliasName kind ds) rest
