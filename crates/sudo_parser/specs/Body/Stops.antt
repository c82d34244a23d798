-- Definitions for proofs of bodies alone: the parser's stops, compared with the reading of a line.
use Rattle.std.specs.Prelude.{◌≡◌, List, [], ◌∷◌, length, Result, Ok, Err}
use Rattle.sudo_text.specs.declared.token.Mark.{Mark}
use Rattle.sudo_text.specs.declared.token.Token.{Token}
use Rattle.sudo_text.specs.declared.token.TokenKind.TheVariants as tokens
use Rattle.sudo_grammar.specs.declared.policy.EntryBody.{EntryBody}
use Rattle.sudo_parser.specs.declared.stops.ParserStop.{ParserStop}
use Rattle.sudo_parser.specs.declared.stops.ParserStop.TheVariants as stops
use Rattle.sudo_grammar.specs.Faults.{Stop}

-- the reading stops with this refusal and as many tokens left, or allocation failed
abbrev pub Stops : ParserStop → Result EntryBody Stop → Type 0
Stops (stops.At refusal left) given =
    (stop : Stop) × ((given ≡ Err stop) × ((stop.refusal ≡ refusal) × (length stop.rest ≡ left)))
Stops stops.Memory given = Unit {0}

-- the reading yields this entry or this stop, or allocation failed
abbrev pub GivesEntry : Result EntryBody ParserStop → Result EntryBody Stop → Type 0
GivesEntry (Ok e) given = given ≡ Ok e
GivesEntry (Err e) given = Stops e given

-- the token is that mark
abbrev pub IsMark : Mark → Token → Type 0
IsMark m t = t.kind ≡ tokens.Mark m

-- the next token is not this mark
abbrev pub IsNotNext : Mark → List Token → Type 0
IsNotNext m [] = Unit {0}
IsNotNext m (t ∷ ts) = IsMark m t → ⊥

-- the next token is this mark, and these are the tokens after it
abbrev pub IsNext : Mark → List Token → List Token → Type 0
IsNext m [] rest = ⊥
IsNext m (t ∷ ts) rest = IsMark m t × (ts ≡ rest)
