-- Worked examples of the definition of tokens, each by computation.
use Rattle.std.proofs.Common.{◌≡◌, ℕ, List, [], ◌∷◌, ◌++◌, refl, true, false, Some, None, inr, lit<}
use Rattle.std.specs.Prelude.{codes, map}
use Rattle.sudo_text.specs.declared.token.Token.{Token}
use Rattle.sudo_text.specs.declared.token.TokenKind.TheVariants.{Word, Command, Mark, Include}
use Rattle.sudo_text.specs.declared.token.Mark.TheVariants as marks
use Rattle.sudo_text.specs.declared.token.TokenKind.{TokenKind}
use Rattle.sudo_text.specs.declared.line.Line.{Line}
use Rattle.sudo_text.specs.declared.fault.TextFault.TheVariants as faults
use Rattle.sudo_text.specs.declared.piece.Flaw.TheVariants as flaws
use Rattle.sudo_text.specs.Lines.{place}
use Rattle.sudo_text.specs.Pieces.{plain, escaped, piece_at, escape_at, hex_at, blanks_at, ends_run, ends_word, reach, run_end}
use Rattle.sudo_text.specs.Rules.{begins_defaults, line_kind, defaults_mark_at, mark_at, is_sudoedit, general_rule_at, rule_at}
use Rattle.sudo_text.specs.Runs.{backslashes_before}
use Rattle.sudo_text.specs.Tokens.{quoted_end, keyword_end, has_arguments, command_end, path_end, token_end, stands}
use Rattle.sudo_text.specs.Tokens.{closes_line, spells, LeftmostFault}

abbrev line_of : List ℕ → Line
line_of text = record { first = place 0 1; text = text; joins = [] }

-- with one join
abbrev joined_at : ℕ → List ℕ → Line
joined_at join text = record { first = place 0 1; text = text; joins = join ∷ [] }

abbrev token : ℕ → ℕ → TokenKind → Token
token start end kind = record { kind = kind; start = start; end = end }

abbrev word : List ℕ → TokenKind
word bytes = Word false (map plain bytes)

-- a user specification
rule : spells (line_of (codes "alice ALL = /bin/ls -l")) (token 0 5 (word (codes "alice")) ∷ token 6 9
    (word (codes "ALL")) ∷ token 10 11 (Mark marks.Equals) ∷ token 12 22
    (Command (map plain (codes "/bin/ls")) (Some (map plain (codes "-l")))) ∷ []) ≡ true
unfolding piece_at escape_at hex_at blanks_at ends_run ends_word reach run_end begins_defaults line_kind
    defaults_mark_at mark_at is_sudoedit general_rule_at rule_at quoted_end keyword_end has_arguments command_end
    path_end token_end stands closes_line spells
rule = refl

-- a blank line
blank : spells (line_of (codes "  ")) ([]) ≡ true
unfolding piece_at escape_at hex_at blanks_at ends_run ends_word reach run_end begins_defaults line_kind
    defaults_mark_at mark_at is_sudoedit general_rule_at rule_at quoted_end keyword_end has_arguments command_end
    path_end token_end stands closes_line spells
blank = refl

-- a quoted value
defaults : spells (line_of (codes "Defaults" ++ 9 ∷ codes "path=\"/a:/b\"")) (token 0 8 (word (codes "Defaults"))
    ∷ token 9 13 (word (codes "path")) ∷ token 13 14 (Mark marks.Equals) ∷ token 14 21 (Word true (map plain (codes "/a:/b"))) ∷ []) ≡ true
unfolding piece_at escape_at hex_at blanks_at ends_run ends_word reach run_end begins_defaults line_kind
    defaults_mark_at mark_at is_sudoedit general_rule_at rule_at quoted_end keyword_end has_arguments command_end
    path_end token_end stands closes_line spells
defaults = refl

-- a value may hold `/`, `:` and `=`
value : spells (line_of (codes "Defaults p = /sbin:/bin=x")) (token 0 8 (word (codes "Defaults")) ∷ token 9 10
    (word (codes "p")) ∷ token 11 12 (Mark marks.Equals) ∷ token 13 25 (word (codes "/sbin:/bin=x")) ∷ []) ≡ true
unfolding piece_at escape_at hex_at blanks_at ends_run ends_word reach run_end begins_defaults line_kind
    defaults_mark_at mark_at is_sudoedit general_rule_at rule_at quoted_end keyword_end has_arguments command_end
    path_end token_end stands closes_line spells
value = refl

-- a number sign before a digit at the start, and a comment at the end
number : spells (line_of (codes "#1000 ALL # note")) (token 0 5 (word (codes "#1000")) ∷ token 6 9 (word (codes "ALL")) ∷ []) ≡ true
unfolding piece_at escape_at hex_at blanks_at ends_run ends_word reach run_end begins_defaults line_kind
    defaults_mark_at mark_at is_sudoedit general_rule_at rule_at quoted_end keyword_end has_arguments command_end
    path_end token_end stands closes_line spells
number = refl

-- a comment line has no token
comment_line : spells (line_of (codes "# old rule \\")) ([]) ≡ true
unfolding piece_at escape_at hex_at blanks_at ends_run ends_word reach run_end begins_defaults line_kind
    defaults_mark_at mark_at is_sudoedit general_rule_at rule_at quoted_end keyword_end has_arguments command_end
    path_end token_end stands closes_line spells
comment_line = refl

-- no digit saves a comment after a word
comment_after_word : spells (line_of (codes "a #5")) (token 0 1 (word (codes "a")) ∷ []) ≡ true
unfolding piece_at escape_at hex_at blanks_at ends_run ends_word reach run_end begins_defaults line_kind
    defaults_mark_at mark_at is_sudoedit general_rule_at rule_at quoted_end keyword_end has_arguments command_end
    path_end token_end stands closes_line spells
comment_after_word = refl

-- but after a comma it does
number_after_comma : spells (line_of (codes "a,#5")) (token 0 1 (word (codes "a")) ∷ token 1 2 (Mark marks.Comma)
    ∷ token 2 4 (word (codes "#5")) ∷ []) ≡ true
unfolding piece_at escape_at hex_at blanks_at ends_run ends_word reach run_end begins_defaults line_kind
    defaults_mark_at mark_at is_sudoedit general_rule_at rule_at quoted_end keyword_end has_arguments command_end
    path_end token_end stands closes_line spells
number_after_comma = refl

-- a join before the `#` of a comment does no harm
join_before : spells (joined_at 2 (codes "a # b")) (token 0 1 (word (codes "a")) ∷ []) ≡ true
unfolding piece_at escape_at hex_at blanks_at ends_run ends_word reach run_end begins_defaults line_kind
    defaults_mark_at mark_at is_sudoedit general_rule_at rule_at quoted_end keyword_end has_arguments command_end
    path_end token_end stands closes_line spells
join_before = refl

-- a join after it does
join_after : spells (joined_at 3 (codes "a # b")) (token 0 1 (word (codes "a")) ∷ []) ≡ false
unfolding piece_at escape_at hex_at blanks_at ends_run ends_word reach run_end begins_defaults line_kind
    defaults_mark_at mark_at is_sudoedit general_rule_at rule_at quoted_end keyword_end has_arguments command_end
    path_end token_end stands closes_line spells
join_after = refl

-- a number sign directly after a percent sign that begins a word
percent : spells (line_of (codes "%#10 ALL")) (token 0 4 (word (codes "%#10")) ∷ token 5 8 (word (codes "ALL")) ∷ []) ≡ true
unfolding piece_at escape_at hex_at blanks_at ends_run ends_word reach run_end begins_defaults line_kind
    defaults_mark_at mark_at is_sudoedit general_rule_at rule_at quoted_end keyword_end has_arguments command_end
    path_end token_end stands closes_line spells
percent = refl

-- a command of a Defaults line has no arguments
binding : spells (line_of (codes "Defaults!/bin/less x")) (token 0 8 (word (codes "Defaults")) ∷ token 8 9
    (Mark marks.Bang) ∷ token 9 18 (Command (map plain (codes "/bin/less")) None) ∷ token 19 20 (word (codes "x")) ∷ []) ≡ true
unfolding piece_at escape_at hex_at blanks_at ends_run ends_word reach run_end begins_defaults line_kind
    defaults_mark_at mark_at is_sudoedit general_rule_at rule_at quoted_end keyword_end has_arguments command_end
    path_end token_end stands closes_line spells
binding = refl

-- `@` is a mark directly after `Defaults` alone
at_mark : spells (line_of (codes "Defaults@h a@b")) (token 0 8 (word (codes "Defaults")) ∷ token 8 9 (Mark marks.At)
    ∷ token 9 10 (word (codes "h")) ∷ token 11 14 (word (codes "a@b")) ∷ []) ≡ true
unfolding piece_at escape_at hex_at blanks_at ends_run ends_word reach run_end begins_defaults line_kind
    defaults_mark_at mark_at is_sudoedit general_rule_at rule_at quoted_end keyword_end has_arguments command_end
    path_end token_end stands closes_line spells
at_mark = refl

-- `+=` ends a word of a Defaults line, and a `#` after it begins a comment
plus : spells (line_of (codes "Defaults a+b+=#5")) (token 0 8 (word (codes "Defaults")) ∷ token 9 12
    (word (codes "a+b")) ∷ token 12 14 (Mark marks.PlusEquals) ∷ []) ≡ true
unfolding piece_at escape_at hex_at blanks_at ends_run ends_word reach run_end begins_defaults line_kind
    defaults_mark_at mark_at is_sudoedit general_rule_at rule_at quoted_end keyword_end has_arguments command_end
    path_end token_end stands closes_line spells
plus = refl

-- after `=` a number sign before a digit begins a value
value_number : spells (line_of (codes "Defaults a=#5")) (token 0 8 (word (codes "Defaults")) ∷ token 9 10
    (word (codes "a")) ∷ token 10 11 (Mark marks.Equals) ∷ token 11 13 (word (codes "#5")) ∷ []) ≡ true
unfolding piece_at escape_at hex_at blanks_at ends_run ends_word reach run_end begins_defaults line_kind
    defaults_mark_at mark_at is_sudoedit general_rule_at rule_at quoted_end keyword_end has_arguments command_end
    path_end token_end stands closes_line spells
value_number = refl

-- in another line `+` and `@` are ordinary
general_plus : spells (line_of (codes "a+ @b >c")) (token 0 2 (word (codes "a+")) ∷ token 3 5 (word (codes "@b"))
    ∷ token 6 8 (word (codes ">c")) ∷ []) ≡ true
unfolding piece_at escape_at hex_at blanks_at ends_run ends_word reach run_end begins_defaults line_kind
    defaults_mark_at mark_at is_sudoedit general_rule_at rule_at quoted_end keyword_end has_arguments command_end
    path_end token_end stands closes_line spells
general_plus = refl

-- an include line
include_folder : spells (line_of (codes "@includedir /etc/d#x"))
    (token 0 20 (Include true false (map plain (codes "/etc/d#x"))) ∷ []) ≡ true
unfolding piece_at escape_at hex_at blanks_at ends_run ends_word reach run_end begins_defaults line_kind
    defaults_mark_at mark_at is_sudoedit general_rule_at rule_at quoted_end keyword_end has_arguments command_end
    path_end token_end stands closes_line spells
include_folder = refl

-- an include line with a quoted path and a comment
include-quoted : spells (line_of (codes "#include \"a b\" # c")) (token 0 14 (Include false true (map plain (codes "a b"))) ∷ []) ≡ true
unfolding piece_at escape_at hex_at blanks_at ends_run ends_word reach run_end begins_defaults line_kind
    defaults_mark_at mark_at is_sudoedit general_rule_at rule_at quoted_end keyword_end has_arguments command_end
    path_end token_end stands closes_line spells
include-quoted = refl

-- an include line without a path
include-none : spells (line_of (codes "@include  ")) (token 0 8 (Include false false []) ∷ []) ≡ true
unfolding piece_at escape_at hex_at blanks_at ends_run ends_word reach run_end begins_defaults line_kind
    defaults_mark_at mark_at is_sudoedit general_rule_at rule_at quoted_end keyword_end has_arguments command_end
    path_end token_end stands closes_line spells
include-none = refl

-- escapes of a word
escapes : spells (line_of (codes "a\\,\\x4a")) (token 0 7 (Word false (plain 97 ∷ escaped 44 ∷ escaped 74 ∷ [])) ∷ []) ≡ true
unfolding piece_at escape_at hex_at blanks_at ends_run ends_word reach run_end begins_defaults line_kind
    defaults_mark_at mark_at is_sudoedit general_rule_at rule_at quoted_end keyword_end has_arguments command_end
    path_end token_end stands closes_line spells
escapes = refl

-- blanks among arguments count as one space, and `=` is ordinary there
arguments : spells (line_of (codes "/bin/dd  if=a  b , c"))
    (token 0 16 (Command (map plain (codes "/bin/dd")) (Some (map plain (codes "if=a b")))) ∷ token 17 18
    (Mark marks.Comma) ∷ token 19 20 (word (codes "c")) ∷ []) ≡ true
unfolding piece_at escape_at hex_at blanks_at ends_run ends_word reach run_end begins_defaults line_kind
    defaults_mark_at mark_at is_sudoedit general_rule_at rule_at quoted_end keyword_end has_arguments command_end
    path_end token_end stands closes_line spells
arguments = refl

-- an escaped comma goes on
escaped-argument : spells (line_of (codes "/a b\\,c"))
    (token 0 7 (Command (map plain (codes "/a")) (Some (plain 98 ∷ escaped 44 ∷ plain 99 ∷ []))) ∷ []) ≡ true
unfolding piece_at escape_at hex_at blanks_at ends_run ends_word reach run_end begins_defaults line_kind
    defaults_mark_at mark_at is_sudoedit general_rule_at rule_at quoted_end keyword_end has_arguments command_end
    path_end token_end stands closes_line spells
escaped-argument = refl

-- blanks and no argument
no_arguments : spells (line_of (codes "/a , b")) (token 0 2 (Command (map plain (codes "/a")) None) ∷ token 3 4
    (Mark marks.Comma) ∷ token 5 6 (word (codes "b")) ∷ []) ≡ true
unfolding piece_at escape_at hex_at blanks_at ends_run ends_word reach run_end begins_defaults line_kind
    defaults_mark_at mark_at is_sudoedit general_rule_at rule_at quoted_end keyword_end has_arguments command_end
    path_end token_end stands closes_line spells
no_arguments = refl

-- the word `sudoedit` begins a command
sudoedit : spells (line_of (codes "sudoedit /e"))
    (token 0 11 (Command (map plain (codes "sudoedit")) (Some (map plain (codes "/e")))) ∷ []) ≡ true
unfolding piece_at escape_at hex_at blanks_at ends_run ends_word reach run_end begins_defaults line_kind
    defaults_mark_at mark_at is_sudoedit general_rule_at rule_at quoted_end keyword_end has_arguments command_end
    path_end token_end stands closes_line spells
sudoedit = refl

-- a longer word does not
sudoedits : spells (line_of (codes "sudoedits /e")) (token 0 9 (word (codes "sudoedits")) ∷ token 10 12
    (Command (map plain (codes "/e")) None) ∷ []) ≡ true
unfolding piece_at escape_at hex_at blanks_at ends_run ends_word reach run_end begins_defaults line_kind
    defaults_mark_at mark_at is_sudoedit general_rule_at rule_at quoted_end keyword_end has_arguments command_end
    path_end token_end stands closes_line spells
sudoedits = refl

-- a word is as long as possible
no_shorter : spells (line_of (codes "ab")) (token 0 1 (word (codes "a")) ∷ token 1 2 (word (codes "b")) ∷ []) ≡ false
unfolding piece_at escape_at hex_at blanks_at ends_run ends_word reach run_end begins_defaults line_kind
    defaults_mark_at mark_at is_sudoedit general_rule_at rule_at quoted_end keyword_end has_arguments command_end
    path_end token_end stands closes_line spells
no_shorter = refl

-- a command is no word
no_other_reading : spells (line_of (codes "/a")) (token 0 2 (word (codes "/a")) ∷ []) ≡ false
unfolding piece_at escape_at hex_at blanks_at ends_run ends_word reach run_end begins_defaults line_kind
    defaults_mark_at mark_at is_sudoedit general_rule_at rule_at quoted_end keyword_end has_arguments command_end
    path_end token_end stands closes_line spells
no_other_reading = refl

-- no token is left out
all_tokens : spells (line_of (codes "a b")) (token 0 1 (word (codes "a")) ∷ []) ≡ false
unfolding piece_at escape_at hex_at blanks_at ends_run ends_word reach run_end begins_defaults line_kind
    defaults_mark_at mark_at is_sudoedit general_rule_at rule_at quoted_end keyword_end has_arguments command_end
    path_end token_end stands closes_line spells
all_tokens = refl

-- an unclosed double quote
bad_quote : LeftmostFault (line_of (codes "\"alice ALL")) (faults.BadQuote (place 0 1) 1)
unfolding piece_at escape_at hex_at blanks_at ends_run ends_word reach run_end begins_defaults line_kind
    defaults_mark_at mark_at is_sudoedit general_rule_at rule_at quoted_end keyword_end has_arguments command_end
    path_end token_end stands closes_line spells
bad_quote = record { before = []; flaw = flaws.BadQuote; offset = 0; after = (lit< tt, inr (refl, refl, refl)); is = refl }

-- no two hexadecimal digits
bad_hex : LeftmostFault (line_of (codes "a\\xg0 ALL")) (faults.BadHex (place 0 1) 2)
unfolding piece_at escape_at hex_at blanks_at ends_run ends_word reach run_end begins_defaults line_kind
    defaults_mark_at mark_at is_sudoedit general_rule_at rule_at quoted_end keyword_end has_arguments command_end
    path_end token_end stands closes_line spells
bad_hex = record {
  before = [];
  flaw = flaws.BadHex;
  offset = 1;
  after = (lit< tt, record { chars = plain 97 ∷ []; end = 1; reached = refl; broken = refl });
  is = refl;
}

-- a control byte after a word
not_printable : LeftmostFault (line_of (97 ∷ 32 ∷ 98 ∷ 7 ∷ [])) (faults.NotPrintable (place 0 1) 4)
unfolding piece_at escape_at hex_at blanks_at ends_run ends_word reach run_end begins_defaults line_kind
    defaults_mark_at mark_at is_sudoedit general_rule_at rule_at quoted_end keyword_end has_arguments command_end
    path_end token_end stands closes_line spells
not_printable = record {
  before = token 0 1 (word (97 ∷ [])) ∷ [];
  flaw = flaws.NotPrintable;
  offset = 3;
  after = (refl, (lit< tt, record { chars = plain 98 ∷ []; end = 3; reached = refl; broken = refl }));
  is = refl;
}

-- a comment that goes on over a join
bad_comment : LeftmostFault (joined_at 3 (codes "a # b")) (faults.BadEscape (place 0 1) 3)
unfolding piece_at escape_at hex_at blanks_at ends_run ends_word reach run_end begins_defaults line_kind
    defaults_mark_at mark_at is_sudoedit general_rule_at rule_at quoted_end keyword_end has_arguments command_end
    path_end token_end stands closes_line spells
bad_comment = record {
  before = token 0 1 (word (97 ∷ [])) ∷ [];
  flaw = flaws.BadEscape;
  offset = 2;
  after = (refl, (lit< tt, (refl, refl, refl)));
  is = refl;
}

-- a backslash in a command's arguments with nothing after it
bad_escape : LeftmostFault (line_of (codes "/a b\\")) (faults.BadEscape (place 0 1) 5)
unfolding piece_at escape_at hex_at blanks_at ends_run ends_word reach run_end begins_defaults line_kind
    defaults_mark_at mark_at is_sudoedit general_rule_at rule_at quoted_end keyword_end has_arguments command_end
    path_end token_end stands closes_line spells
bad_escape = record {
  before = [];
  flaw = flaws.BadEscape;
  offset = 4;
  after = (
    lit< tt,
    inr (record {
      path = map plain (codes "/a");
      end = 2;
      path_ends = refl;
      goes_on = refl;
      breaks = record { chars = plain 98 ∷ []; end = 4; reached = refl; broken = refl };
    }),
  );
  is = refl;
}

-- three backslashes directly before the quote, of which the first two take each other
before_quote : backslashes_before (codes "\\x\\\\\\\"") 5 ≡ 3
before_quote = refl

-- none before the first byte
before_all : backslashes_before (codes "\"") 0 ≡ 0
before_all = refl
