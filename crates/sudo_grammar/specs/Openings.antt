-- The kind of line that a first token opens, and the words and marks of a Defaults line: sudoers(5), "Aliases",
-- "Defaults" and "Including other files from within sudoers". Keywords and `Defaults` are unquoted words without
-- escapes, and count at the start of a line alone.
use Rattle.std.specs.Prelude.{ℕ, Bool, true, false, not, ◌&&◌, ◌||◌, ◌==◌, List, [], ◌∷◌, Option, None, Some, if◌then◌else◌, codes}
use Rattle.std.specs.Str.{bytes_eq}
use Rattle.sudo_text.specs.declared.token.Ch.{Ch}
use Rattle.sudo_text.specs.declared.token.Mark.{Mark}
use Rattle.sudo_text.specs.declared.token.Mark.TheVariants as marks
use Rattle.sudo_text.specs.declared.token.Token.{Token}
use Rattle.sudo_text.specs.declared.token.TokenKind.{TokenKind}
use Rattle.sudo_text.specs.declared.token.TokenKind.TheVariants as tokens
use Rattle.sudo_grammar.specs.declared.kind.Kind.{Kind}
use Rattle.sudo_grammar.specs.declared.kind.Kind.TheVariants as kinds
use Rattle.sudo_grammar.specs.declared.policy.Operator.{Operator}
use Rattle.sudo_grammar.specs.declared.policy.Operator.TheVariants as operators
use Rattle.sudo_grammar.specs.Words.{plain_word, kind_of_keyword}

pub data Opening : Type 0 where
  -- the keyword of aliases
  Keyword : (kind : Kind) → Opening
  -- `Defaults`
  DefaultsLine : Opening
  -- an include directive that can be resolved
  Directive : (folder hash : Bool) → (path : List Ch) → Opening
  -- an include directive without a path, or with `%h` in it
  BadDirective : (path : List Ch) → Opening
  -- anything else: a rule begins
  Other : Opening

-- an unescaped `%h`
abbrev pub has_host_escape : List Ch → Bool
has_host_escape [] = false
has_host_escape (c ∷ []) = false
has_host_escape (c ∷ d ∷ cs) =
    (((not c.escaped && (c.byte == 37)) && not d.escaped) && (d.byte == 104)) || has_host_escape (d ∷ cs)

abbrev pub has_path : List Ch → Bool
has_path [] = false
has_path (c ∷ cs) = not (has_host_escape (c ∷ cs))

abbrev pub word_opening : Option Kind → List ℕ → Opening
word_opening (Some kind) w = Keyword kind
word_opening None w = if bytes_eq w (codes "Defaults") then DefaultsLine else Other

abbrev pub plain_opening : Option (List ℕ) → Opening
plain_opening None = Other
plain_opening (Some w) = word_opening (kind_of_keyword w) w

abbrev pub opening_of : TokenKind → Opening
opening_of (tokens.Include folder hash path) = if has_path path then Directive folder hash path else BadDirective path
opening_of (tokens.Word quoted chars) = plain_opening (plain_word (tokens.Word quoted chars))
opening_of _ = Other

-- the kind of list that a mark begins
abbrev pub kind_of_mark : TokenKind → Option Kind
kind_of_mark (tokens.Mark marks.At) = Some kinds.Host
kind_of_mark (tokens.Mark marks.Colon) = Some kinds.User
kind_of_mark (tokens.Mark marks.Bang) = Some kinds.Cmnd
kind_of_mark (tokens.Mark marks.Greater) = Some kinds.Runas
kind_of_mark _ = None

-- the token directly follows the eight bytes of `Defaults`; there a mark binds the line to a list, and no other token
-- is allowed: `Defaults!x` is bound, `Defaults !x` has a parameter, `Defaults,x` and `Defaults"x"` are refused
abbrev pub is_direct : Token → Bool
is_direct t = t.start == 8

abbrev pub is_word : TokenKind → Bool
is_word (tokens.Word quoted chars) = true
is_word _ = false

abbrev pub operator_of : TokenKind → Option Operator
operator_of (tokens.Mark marks.Equals) = Some operators.Set
operator_of (tokens.Mark marks.PlusEquals) = Some operators.Add
operator_of (tokens.Mark marks.MinusEquals) = Some operators.Remove
operator_of _ = None

-- an unquoted word without escapes that passes a test
abbrev pub word_passes : (List ℕ → Bool) → Option (List ℕ) → Bool
word_passes test None = false
word_passes test (Some w) = test w

-- the single character `%`, unescaped, in quotes or not
abbrev pub is_percent_sign : List Ch → Bool
is_percent_sign (c ∷ []) = not c.escaped && (c.byte == 37)
is_percent_sign _ = false

abbrev pub is_percent : TokenKind → Bool
is_percent (tokens.Word quoted chars) = is_percent_sign chars
is_percent _ = false

-- equality of marks, for the colon and the equals sign alone
abbrev pub is_equal_mark : Mark → Mark → Bool
is_equal_mark marks.Colon marks.Colon = true
is_equal_mark marks.Equals marks.Equals = true
is_equal_mark _ _ = false

-- the token is the given mark
abbrev pub is_mark : Mark → TokenKind → Bool
is_mark m (tokens.Mark found) = is_equal_mark m found
is_mark m _ = false
