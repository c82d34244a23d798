-- Definitions for proofs of bodies alone: the tokens of a line that are still to be read.
use Rattle.std.specs.Prelude.{List, drop}
use Rattle.sudo_text.specs.declared.token.Token.{Token}
use Rattle.sudo_parser.specs.declared.unread.Unread.{Unread}

-- the tokens that are left
unfoldable pub tokens_left : Unread → List Token
tokens_left unread = drop unread.read unread.tokens.items
