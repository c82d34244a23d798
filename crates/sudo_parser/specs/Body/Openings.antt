-- Definitions for proofs of bodies alone: the code's type for the kind of line that a token opens.
use Rattle.sudo_text.specs.declared.token.TokenKind.{TokenKind}
use Rattle.sudo_text.specs.declared.token.TokenKind.TheVariants as tokens
use Rattle.sudo_grammar.specs.Openings as grammar
use Rattle.sudo_parser.specs.declared.line.Opening.{Opening}
use Rattle.sudo_parser.specs.declared.line.Opening.TheVariants as openings

abbrev pub opening_view : Opening → grammar.Opening
opening_view (openings.Aliases kind) = grammar.Keyword kind
opening_view openings.Defaults = grammar.DefaultsLine
opening_view openings.Rule = grammar.Other

abbrev pub IsInclude : TokenKind → Type 0
IsInclude (tokens.Include folder hash path) = Unit {0}
IsInclude _ = ⊥
