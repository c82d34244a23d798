-- Addresses and networks that sudo reads otherwise. sudoers(5), "Host_List".
use Rattle.std.specs.Prelude.{ℕ, Bool, false, not, ◌&&◌, ◌||◌, ◌==◌, ◌/◌, List, [], ◌∷◌}
use Rattle.sudo_text.specs.Bytes.{is_digit}
use Rattle.sudo_text.specs.declared.token.Ch.{Ch}
use Rattle.sudo_text.specs.declared.token.TokenKind.{TokenKind}
use Rattle.sudo_text.specs.declared.token.TokenKind.TheVariants as tokens
use Rattle.sudo_grammar.specs.declared.kind.Atom.{Atom}
use Rattle.sudo_grammar.specs.declared.kind.Atom.TheVariants as atoms
use Rattle.sudo_grammar.specs.declared.kind.Member.{Member}

-- a number of two or more digits begins with a zero: for sudo that is no address; `inside`: a digit stands directly
-- before the characters; `zero`: a zero that begins a number does
abbrev pub has_leading_zero : Bool → Bool → List Ch → Bool
has_leading_zero inside zero [] = false
has_leading_zero inside zero (c ∷ cs) =
    (zero && is_digit c.byte) || has_leading_zero (is_digit c.byte) (not inside && (c.byte == 48)) cs

-- the token is a word with such a number
abbrev pub word_has_leading_zero : TokenKind → Bool
word_has_leading_zero (tokens.Word quoted chars) = has_leading_zero false false chars
word_has_leading_zero _ = false

-- an address of 127.0.0.0/8: the reader passes over the addresses of that network, sudo over those of an interface
abbrev pub is_loopback : ℕ → Bool
is_loopback addr = addr / 16777216 == 127

-- a dot stands behind a slash; `behind`: a slash stands before the characters
abbrev pub has_dotted_mask : Bool → List Ch → Bool
has_dotted_mask behind [] = false
has_dotted_mask behind (c ∷ cs) = (behind && (c.byte == 46)) || has_dotted_mask (behind || (c.byte == 47)) cs

-- the token is a word with such a dot
abbrev pub word_has_dotted_mask : TokenKind → Bool
word_has_dotted_mask (tokens.Word quoted chars) = has_dotted_mask false chars
word_has_dotted_mask _ = false

-- an atom is an address or a network that sudo reads otherwise: one of these, or a mask of `/0`, which is no host for
-- sudo, while `/0.0.0.0` is each
abbrev pub is_other_address : Atom → TokenKind → Bool
is_other_address (atoms.Address addr) token = is_loopback addr || word_has_leading_zero token
is_other_address (atoms.Net addr mask) token =
    ((mask == 0) && not (word_has_dotted_mask token)) || is_loopback addr || word_has_leading_zero token
is_other_address _ token = false

-- the member is such an address or network
abbrev pub has_other_address : Member → Bool
has_other_address m = is_other_address m.atom m.token.kind
