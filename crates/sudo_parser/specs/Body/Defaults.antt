-- Definitions for proofs of bodies alone: the parser's functions for Defaults lines, compared with the reading of a
-- line.
use Rattle.std.specs.Prelude.{◌≡◌, ◌<◌, ◌≤◌, true, false, List, [], ◌∷◌, ◌++◌, length, Option, None, Some, Ok}
use Rattle.sudo_text.specs.declared.token.Mark.TheVariants as marks
use Rattle.sudo_text.specs.declared.token.Token.{Token}
use Rattle.sudo_grammar.specs.declared.policy.Binding.{Binding}
use Rattle.sudo_grammar.specs.declared.policy.Parameter.{Parameter}
use Rattle.sudo_grammar.specs.declared.policy.Parameter.TheVariants as parameters
use Rattle.sudo_grammar.specs.declared.policy.Operator.{Operator}
use Rattle.sudo_grammar.specs.declared.policy.EntryBody.TheVariants as entries
use Rattle.sudo_grammar.specs.declared.fault.Expected.{Expected}
use Rattle.sudo_grammar.specs.declared.fault.Refusal.TheVariants as refusals
use Rattle.sudo_parser.specs.declared.stops.ParserStop.{ParserStop}
use Rattle.sudo_parser.specs.declared.stops.ParserStop.TheVariants as stops
use Rattle.sudo_grammar.specs.Openings.{is_word, operator_of}
use Rattle.sudo_grammar.specs.Faults.{Room}
use Rattle.sudo_grammar.specs.Body.States.{DefaultsStart, AtParameter, AfterSwitch, AfterValue, State, step}
use Rattle.sudo_grammar.specs.Body.Reading.{reading}
use Rattle.sudo_parser.specs.Body.Stops.{Stops, IsMark}

-- the reading of the line's binding, if any, leads to the rest
pub record ReadsBinding (ts : List Token) (b : Option Binding) (rest : List Token) : Type 0 where
  pub no_longer : length rest ≤ length ts
  pub reads : (room : Room) → reading room DefaultsStart ts ≡ reading room (AtParameter b [] 0) rest

abbrev pub StopsInBinding : List Token → ParserStop → Type 0
StopsInBinding ts e = (room : Room) → Stops e (reading room DefaultsStart ts)

-- the next token is this word, and these are the tokens after it
abbrev pub IsWordNext : List Token → Token → List Token → Type 0
IsWordNext ts w rest = (ts ≡ w ∷ rest) × (is_word w.kind ≡ true)

abbrev pub IsNoWordNext : List Token → Type 0
IsNoWordNext [] = Unit {0}
IsNoWordNext (t ∷ ts) = is_word t.kind ≡ false

-- the next token is no word, and the refusal says which token is expected, or allocation failed
abbrev pub IsWordMissing : Expected → List Token → ParserStop → Type 0
IsWordMissing wanted ts stops.Memory = Unit {0}
IsWordMissing wanted ts (stops.At refusal left) =
    (refusal ≡ refusals.Syntax wanted) × ((left ≡ length ts) × IsNoWordNext ts)

-- the next token is this operator, and these are the tokens after it
abbrev pub IsOperatorNext : List Token → Operator → List Token → Type 0
IsOperatorNext [] o rest = ⊥
IsOperatorNext (t ∷ ts) o rest = (operator_of t.kind ≡ Some o) × (ts ≡ rest)

abbrev pub IsNoOperatorNext : List Token → Type 0
IsNoOperatorNext [] = Unit {0}
IsNoOperatorNext (t ∷ ts) = operator_of t.kind ≡ None

-- the state after a parameter
abbrev pub parameter_state : Option Binding → List Parameter → Parameter → State
parameter_state b done (parameters.Switch n name) = AfterSwitch b done n name
parameter_state b done (parameters.Assign name o v) = AfterValue b (done ++ parameters.Assign name o v ∷ [])

-- after a parameter only a comma continues the line
abbrev pub EndsParameter : Parameter → List Token → Type 0
EndsParameter x [] = Unit {0}
EndsParameter x (t ∷ ts) = (room : Room) (b : Option Binding) (done : List Parameter) → (IsMark marks.Comma t → ⊥)
    → step room (parameter_state b done x) t ≡ None

-- the reading of a parameter leads to the rest, which is shorter
pub record ReadsParameter (ts : List Token) (x : Parameter) (rest : List Token) : Type 0 where
  pub less : length rest < length ts
  pub past : EndsParameter x rest
  pub reads : (room : Room) (b : Option Binding) (done : List Parameter)
      → reading room (AtParameter b done 0) ts ≡ reading room (parameter_state b done x) rest

abbrev pub StopsInParameter : List Token → ParserStop → Type 0
StopsInParameter ts e = (room : Room) (b : Option Binding) (done : List Parameter)
    → Stops e (reading room (AtParameter b done 0) ts)

-- the reading of parameters, each with the comma after it, leads to the rest
abbrev pub ReadsToParameter : List Token → List Parameter → List Token → Type 0
ReadsToParameter ts xs rest = (room : Room) (b : Option Binding)
    → reading room (AtParameter b [] 0) ts ≡ reading room (AtParameter b xs 0) rest

-- the parameters are read up to the end of the line
abbrev pub ReadsParameters : List Token → List Parameter → Type 0
ReadsParameters ts xs = (room : Room) (b : Option Binding) → reading room (AtParameter b [] 0) ts ≡ Ok (entries.Defaults b xs)

abbrev pub StopsInParameters : List Token → ParserStop → Type 0
StopsInParameters ts e = (room : Room) (b : Option Binding) → Stops e (reading room (AtParameter b [] 0) ts)
