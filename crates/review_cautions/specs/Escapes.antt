-- Escapes that sudo reads otherwise. sudoers(5), "Other special characters and reserved words" and "Wildcards".
use Rattle.std.specs.Prelude.{ℕ, Bool, false, not, ◌&&◌, ◌||◌, ◌==◌, nat_lt, nat_le, if◌then◌else◌, List, [], ◌∷◌, length}
use Rattle.std.specs.Prelude.{Option, None, Some}
use Rattle.std.specs.List.{list_any}
use Rattle.sudo_text.specs.Bytes.{is_blank, is_digit}
use Rattle.sudo_text.specs.declared.token.Ch.{Ch}
use Rattle.sudo_text.specs.declared.token.TokenKind.{TokenKind}
use Rattle.sudo_text.specs.declared.token.TokenKind.TheVariants as tokens
use Rattle.sudo_grammar.specs.declared.kind.Atom.{Atom}
use Rattle.sudo_grammar.specs.declared.kind.Atom.TheVariants as atoms
use Rattle.sudo_grammar.specs.declared.kind.Member.{Member}

-- an escape that sudo does not know in a path: it knows those of `, : = #` and of blanks. Any other ends the path, and the
-- line is refused, or arguments begin
abbrev pub is_path_escape : Ch → Bool
is_path_escape c =
    c.escaped && not ((c.byte == 44) || (c.byte == 58) || (c.byte == 61) || (c.byte == 35) || is_blank c.byte)

-- the bytes that arguments may escape for sudo and here alike: `* ? [ ] ! ^ : , = #` and blanks
abbrev pub is_argument_byte : ℕ → Bool
is_argument_byte b = (b == 42) || (b == 63) || (b == 91) || (b == 93) || (b == 33) || (b == 94)
    || (b == 58) || (b == 44) || (b == 61) || (b == 35) || is_blank b

-- another escape in arguments: `\\` is a backslash here, and sudo takes it for an escape once more; the others it refuses
abbrev pub is_argument_escape : Ch → Bool
is_argument_escape c = c.escaped && not (is_argument_byte c.byte)

-- arguments, if any are given, have such an escape
abbrev pub arguments_have_escape : Option (List Ch) → Bool
arguments_have_escape None = false
arguments_have_escape (Some args) = list_any is_argument_escape args

-- the first character is this byte
abbrev pub begins_with : ℕ → List Ch → Bool
begins_with b [] = false
begins_with b (c ∷ cs) = c.byte == b

-- the first character is no slash, and more than the eight characters of `sudoedit` are there: for sudo arguments begin
-- behind those
abbrev pub is_long_sudoedit : List Ch → Bool
is_long_sudoedit path = nat_lt 8 (length path) && not (begins_with 47 path)

-- one of `*`, `?` and `\` that an escape yields: it stands for itself here, and sudo takes it for a mark of a pattern
abbrev pub is_escaped_mark : Ch → Bool
is_escaped_mark c = c.escaped && ((c.byte == 42) || (c.byte == 63) || (c.byte == 92))

-- one of `[`, `]`, `-` and `^` that an escape yields: sudo takes it for a mark of a bracket
abbrev pub is_escaped_bracket_mark : Ch → Bool
is_escaped_bracket_mark c =
    c.escaped && ((c.byte == 91) || (c.byte == 93) || (c.byte == 45) || (c.byte == 94))

-- `[` and `]` are there, escaped or not: without both of them no bracket is there, for sudo either
abbrev pub may_have_bracket : List Ch → Bool
may_have_bracket chars = list_any (λ (c : Ch). c.byte == 91) chars && list_any (λ (c : Ch). c.byte == 93) chars

-- an escaped tab, which ends a word for sudo
abbrev pub is_escaped_tab : Ch → Bool
is_escaped_tab c = c.escaped && (c.byte == 9)

-- a host has an escape that sudo takes for a mark of its pattern, or an escaped tab
abbrev pub host_has_escape : List Ch → Bool
host_has_escape chars = list_any is_escaped_mark chars
    || (list_any is_escaped_bracket_mark chars && may_have_bracket chars) || list_any is_escaped_tab chars

-- the characters begin as a number may for sudo: with a digit, a sign, or a blank or a control byte, which it passes over
abbrev pub begins_number : List Ch → Bool
begins_number [] = false
begins_number (c ∷ cs) = is_digit c.byte || (c.byte == 45) || (c.byte == 43) || nat_le c.byte 32

-- a `#` that an escape yields is the first character, and a number may follow: a name here, and for sudo an ID
abbrev pub begins_as_id : List Ch → Bool
begins_as_id [] = false
begins_as_id (c ∷ cs) = c.escaped && (c.byte == 35) && begins_number cs

-- an escape yields the character
abbrev pub is_escaped : Ch → Bool
is_escaped c = c.escaped

-- the characters of an unquoted word, and none of another token
abbrev pub unquoted : TokenKind → List Ch
unquoted (tokens.Word quoted chars) = if quoted then [] else chars
unquoted _ = []

-- a name begins with an escaped `#`, or has an escaped tab
abbrev pub name_has_escape : List Ch → Bool
name_has_escape chars = begins_as_id chars || list_any is_escaped_tab chars

-- the digits of a group ID, behind `%#`, have an escape; behind `%\#` sudo reads them as here
abbrev pub group_id_has_escape : List Ch → Bool
group_id_has_escape (percent ∷ sign ∷ digits) = not sign.escaped && list_any is_escaped digits
group_id_has_escape _ = false

-- an atom, and the characters of the unquoted word that spells it, have an escape that sudo reads otherwise
abbrev pub has_escape : Atom → List Ch → Bool
has_escape (atoms.Name name) word = name_has_escape word
has_escape (atoms.Group name) word = list_any is_escaped_tab word
has_escape (atoms.Uid id) word = list_any is_escaped word
has_escape (atoms.Gid id) word = group_id_has_escape word
has_escape (atoms.Host chars quoted) word = not quoted && host_has_escape chars
has_escape (atoms.Command path args) word =
    list_any is_path_escape path || is_long_sudoedit path || arguments_have_escape args
has_escape _ word = false

-- the member has an escape that sudo reads otherwise
abbrev pub has_other_escape : Member → Bool
has_other_escape m = has_escape m.atom (unquoted m.token.kind)

-- one of `*`, `?`, `[` and `\`, escaped or not
abbrev pub is_mark : Ch → Bool
is_mark c = (c.byte == 42) || (c.byte == 63) || (c.byte == 91) || (c.byte == 92)

-- a host between double quotes has such a byte: sudo drops the quotes and takes the host for a pattern
abbrev pub has_quoted_mark : Atom → Bool
has_quoted_mark (atoms.Host chars quoted) = quoted && list_any is_mark chars
has_quoted_mark _ = false

-- a byte that an escape yields; a double quote has to be escaped between double quotes, for sudo too
abbrev pub is_escaped_byte : Ch → Bool
is_escaped_byte c = c.escaped && not (c.byte == 34)

-- the token is a word between double quotes that has such a byte: sudo keeps the backslash
abbrev pub has_quoted_escape : TokenKind → Bool
has_quoted_escape (tokens.Word quoted chars) = quoted && list_any is_escaped_byte chars
has_quoted_escape _ = false
