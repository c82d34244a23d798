-- Which lists have none of the characters that most classes of lists look for: they need not be looked at for these classes.
use Rattle.std.specs.Prelude.{Bool, true, false, not, ◌&&◌, ◌==◌, List, Option, None, Some}
use Rattle.std.specs.List.{list_all, list_any}
use Rattle.sudo_text.specs.declared.token.Ch.{Ch}
use Rattle.sudo_text.specs.declared.token.TokenKind.{TokenKind}
use Rattle.sudo_text.specs.declared.token.TokenKind.TheVariants as tokens
use Rattle.sudo_grammar.specs.declared.kind.Atom.{Atom}
use Rattle.sudo_grammar.specs.declared.kind.Atom.TheVariants as atoms
use Rattle.sudo_grammar.specs.declared.kind.Member.{Member}
use Rattle.sudo_policy.specs.Definitions.{MemberList}
use Rattle.review_cautions.specs.Escapes.{is_long_sudoedit}
use Rattle.review_cautions.specs.declared.class.CautionClass.{CautionClass}
use Rattle.review_cautions.specs.declared.class.CautionClass.TheVariants.{Caret, Escape, QuotedHost, QuotedEscape, Bracket}

-- no escape yields the character, and it is no `[`
abbrev pub is_plain : Ch → Bool
is_plain c = not c.escaped && not (c.byte == 91)

-- all of some arguments, if any are given, are such
abbrev pub arguments_are_plain : Option (List Ch) → Bool
arguments_are_plain None = true
arguments_are_plain (Some args) = list_all is_plain args

-- a host without quotes, or a command, of such characters, which is not longer than `sudoedit`; or another atom
abbrev pub atom_is_plain : Atom → Bool
atom_is_plain (atoms.Host chars quoted) = not quoted && list_all is_plain chars
atom_is_plain (atoms.Command path args) = list_all is_plain path && not (is_long_sudoedit path) && arguments_are_plain args
atom_is_plain _ = true

-- a word of such characters, or another token
abbrev pub token_is_plain : TokenKind → Bool
token_is_plain (tokens.Word quoted chars) = list_all is_plain chars
token_is_plain _ = true

-- the member has other characters
abbrev pub is_marked : Member → Bool
is_marked m = not (atom_is_plain m.atom && token_is_plain m.token.kind)

-- a member of the list has
abbrev pub list_is_marked : MemberList → Bool
list_is_marked list = list_any is_marked list.members

-- only such a list has the construct of the class
abbrev pub needs_mark : CautionClass → Bool
needs_mark Caret = true
needs_mark Escape = true
needs_mark QuotedHost = true
needs_mark QuotedEscape = true
needs_mark Bracket = true
needs_mark _ = false
