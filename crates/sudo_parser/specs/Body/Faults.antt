-- The parser's stop in a line, compared with the grammar fault of its tokens.
use Rattle.std.specs.Prelude.{◌≡◌, List, length}
use Rattle.sudo_text.specs.declared.token.Token.{Token}
use Rattle.sudo_parser.specs.declared.stops.ParserStop.{ParserStop}
use Rattle.sudo_parser.specs.declared.stops.ParserStop.TheVariants as stops
use Rattle.sudo_grammar.specs.Faults.{Room, Stop, IsGrammarFault}

-- the line has a grammar fault with this refusal and `left` tokens from it on; for an allocation failure, unspecified
abbrev pub HasGrammarFault : Room → List Token → ParserStop → Type 0
HasGrammarFault room ts (stops.At refusal left) =
    (stop : Stop) × (IsGrammarFault room ts stop × ((stop.refusal ≡ refusal) × (length stop.rest ≡ left)))
HasGrammarFault room ts stops.Memory = Unit {0}
