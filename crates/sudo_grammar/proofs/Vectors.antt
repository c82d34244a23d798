-- Worked lines, each by computation: a wrong one fails the check. Tokens have their offsets in the line, so that
-- 'directly after' is tested, and a fault is given by its column.
use Rattle.std.proofs.Common.{◌≡◌, ℕ, suc, ◌+◌, List, [], ◌∷◌, ◌++◌, length, refl, None, Some, Result, Ok, Err, true, false}
use Rattle.std.specs.Prelude.{map, codes}
use Prim.Native.String.{String}
use Rattle.sudo_text.specs.declared.token.Ch.{Ch}
use Rattle.sudo_text.specs.declared.token.Mark.{Mark}
use Rattle.sudo_text.specs.declared.token.Mark.TheVariants as marks
use Rattle.sudo_text.specs.declared.token.Token.{Token}
use Rattle.sudo_text.specs.declared.token.TokenKind.TheVariants as tokens
use Rattle.sudo_grammar.specs.declared.kind.Kind.TheVariants as kinds
use Rattle.sudo_grammar.specs.declared.kind.Atom.TheVariants as atoms
use Rattle.sudo_grammar.specs.declared.kind.Atom.{Atom}
use Rattle.sudo_grammar.specs.declared.kind.Member.{Member}
use Rattle.sudo_grammar.specs.declared.policy.CommandSpec.{CommandSpec}
use Rattle.sudo_grammar.specs.declared.policy.EntryBody.{EntryBody}
use Rattle.sudo_grammar.specs.declared.policy.EntryBody.TheVariants as entries
use Rattle.sudo_grammar.specs.declared.policy.Operator.TheVariants as operators
use Rattle.sudo_grammar.specs.declared.policy.Parameter.TheVariants as parameters
use Rattle.sudo_grammar.specs.declared.policy.Binding.TheVariants as bindings
use Rattle.sudo_grammar.specs.declared.tag.Tag.{Tag}
use Rattle.sudo_grammar.specs.declared.tag.TagPair.{TagPair}
use Rattle.sudo_grammar.specs.declared.tag.TagPair.TheVariants as pairs
use Rattle.sudo_grammar.specs.declared.fault.Expected.{Expected}
use Rattle.sudo_grammar.specs.declared.fault.Expected.TheVariants as wants
use Rattle.sudo_grammar.specs.declared.fault.Unsupported.TheVariants as forms
use Rattle.sudo_grammar.specs.declared.fault.Refusal.{Refusal}
use Rattle.sudo_grammar.specs.declared.fault.Refusal.TheVariants as refusals
use Rattle.sudo_grammar.specs.Tags.{tag_name}
use Rattle.sudo_grammar.specs.Words.{tag_of_name}
use Rattle.sudo_grammar.specs.Faults.{Room, Stop}
use Rattle.sudo_grammar.specs.Body.States.{Start}
use Rattle.sudo_grammar.specs.Body.Reading.{reading}

abbrev chars : String → List Ch
chars s = map (λ b. record { byte = b; escaped = false }) (codes s)

-- a word, a quoted word, a command and a mark of one byte, each from that offset on
abbrev w : ℕ → String → Token
w n s = record { kind = tokens.Word false (chars s); start = n; end = n + length (codes s) }

abbrev q : ℕ → String → Token
q n s = record { kind = tokens.Word true (chars s); start = n; end = n + (length (codes s) + 2) }

abbrev c : ℕ → String → Token
c n s = record { kind = tokens.Command (chars s) None; start = n; end = n + length (codes s) }

abbrev m : ℕ → Mark → Token
m n k = record { kind = tokens.Mark k; start = n; end = n + 1 }

-- a mark of two bytes
abbrev two : ℕ → Mark → Token
two n k = record { kind = tokens.Mark k; start = n; end = n + 2 }

-- a command with arguments
abbrev a : ℕ → String → String → Token
a n s t = record { kind = tokens.Command (chars s) (Some (chars t)); start = n; end = n + (length (codes s) + suc (length (codes t))) }

-- a word of which an escape gave the middle
abbrev e : ℕ → ℕ → String → String → String → Token
e from to s t u = record {
  kind = tokens.Word false (chars s ++ map (λ b. record { byte = b; escaped = true }) (codes t) ++ chars u);
  start = from;
  end = to;
}

-- an include directive of the whole line up to there, and its path
abbrev include : ℕ → String → Token
include n s = record { kind = tokens.Include false false (chars s); start = 0; end = n }

-- room for two definitions of each kind
abbrev roomy : Room
roomy k = 2

abbrev column : ℕ → List Token → ℕ
column len [] = len + 1
column len (t ∷ ts) = t.start + 1

abbrev outcome : ℕ → Result EntryBody Stop → Result EntryBody (ℕ × Refusal)
outcome len (Ok e) = Ok e
outcome len (Err stop) = Err (column len stop.rest, stop.refusal)

-- A line of a length is refused at a column.
abbrev Refused : ℕ → List Token → ℕ → Refusal → Type 0
Refused len ts col refusal = outcome len (reading roomy Start ts) ≡ Err (col, refusal)

abbrev Syntax : ℕ → List Token → ℕ → Expected → Type 0
Syntax len ts col expected = Refused len ts col (refusals.Syntax expected)

-- A line is read as that entry.
abbrev Reads : List Token → EntryBody → Type 0
Reads ts e = reading roomy Start ts ≡ Ok e

-- a member with no exclamation mark
abbrev the : Token → Atom → Member
the t a = record { bangs = 0; token = t; atom = a }

abbrev plain : Member → CommandSpec
plain x = record { runas = None; tags = []; command = x }

-- Where a command must stand.

-- `alice ALL =`
command_1 : Syntax 11 (w 0 "alice" ∷ w 6 "ALL" ∷ m 10 marks.Equals ∷ []) 12 wants.Command
command_1 = refl

-- `alice ALL = =`
command_2 : Syntax 13 (w 0 "alice" ∷ w 6 "ALL" ∷ m 10 marks.Equals ∷ m 12 marks.Equals ∷ []) 13 wants.Command
command_2 = refl

-- `alice ALL = NOPASSWD:`
command_3 : Syntax 21 (w 0 "alice" ∷ w 6 "ALL" ∷ m 10 marks.Equals ∷ w 12 "NOPASSWD" ∷ m 20 marks.Colon ∷ []) 22 wants.Command
command_3 = refl

-- `alice ALL = NOPASSWD: (root) /bin/ls`
command_4 : Syntax 36 (w 0 "alice" ∷ w 6 "ALL" ∷ m 10 marks.Equals ∷ w 12 "NOPASSWD" ∷ m 20 marks.Colon
    ∷ m 22 marks.LeftParen ∷ w 23 "root" ∷ m 27 marks.RightParen ∷ c 29 "/bin/ls" ∷ []) 23 wants.Command
command_4 = refl

-- `alice ALL = (a)(b) /bin/ls`
command_5 : Syntax 26 (w 0 "alice" ∷ w 6 "ALL" ∷ m 10 marks.Equals ∷ m 12 marks.LeftParen ∷ w 13 "a"
    ∷ m 14 marks.RightParen ∷ m 15 marks.LeftParen ∷ w 16 "b" ∷ m 17 marks.RightParen ∷ c 19 "/bin/ls" ∷ []) 16 wants.Command
command_5 = refl

-- `Cmnd_Alias A =`
command_6 : Syntax 14 (w 0 "Cmnd_Alias" ∷ w 11 "A" ∷ m 13 marks.Equals ∷ []) 15 wants.Command
command_6 = refl

-- `Defaults!`
command_7 : Syntax 9 (w 0 "Defaults" ∷ m 8 marks.Bang ∷ []) 10 wants.Command
command_7 = refl

-- `alice ALL = ALL,`
command_8 : Syntax 16 (w 0 "alice" ∷ w 6 "ALL" ∷ m 10 marks.Equals ∷ w 12 "ALL" ∷ m 15 marks.Comma ∷ []) 17 wants.Command
command_8 = refl

-- The other words of the table.

-- `User_Alias Ab = alice`
alias_name_1 : Syntax 21 (w 0 "User_Alias" ∷ w 11 "Ab" ∷ m 14 marks.Equals ∷ w 16 "alice" ∷ []) 12 wants.AliasName
alias_name_1 = refl

-- `User_Alias A = x:`
alias_name_2 : Syntax 17 (w 0 "User_Alias" ∷ w 11 "A" ∷ m 13 marks.Equals ∷ w 15 "x" ∷ m 16 marks.Colon ∷ []) 18 wants.AliasName
alias_name_2 = refl

-- `Cmnd_Alias A /bin/ls`
equals_1 : Syntax 20 (w 0 "Cmnd_Alias" ∷ w 11 "A" ∷ c 13 "/bin/ls" ∷ []) 14 wants.Equals
equals_1 = refl

-- `alice 2001:db8::1 = ALL`
equals_2 : Syntax 23 (w 0 "alice" ∷ w 6 "2001" ∷ m 10 marks.Colon ∷ w 11 "db8" ∷ m 14 marks.Colon
    ∷ m 15 marks.Colon ∷ w 16 "1" ∷ m 18 marks.Equals ∷ w 20 "ALL" ∷ []) 11 wants.Equals
equals_2 = refl

-- `alice = ALL`
member_1 : Syntax 11 (w 0 "alice" ∷ m 6 marks.Equals ∷ w 8 "ALL" ∷ []) 7 wants.Member
member_1 = refl

-- `alice`
member_2 : Syntax 5 (w 0 "alice" ∷ []) 6 wants.Member
member_2 = refl

-- `alice ALL = (`
member_3 : Syntax 13 (w 0 "alice" ∷ w 6 "ALL" ∷ m 10 marks.Equals ∷ m 12 marks.LeftParen ∷ []) 14 wants.Member
member_3 = refl

-- `alice ALL = (a:=`
member_4 : Syntax 16 (w 0 "alice" ∷ w 6 "ALL" ∷ m 10 marks.Equals ∷ m 12 marks.LeftParen ∷ w 13 "a"
    ∷ m 14 marks.Colon ∷ m 15 marks.Equals ∷ []) 16 wants.Member
member_4 = refl

-- `User_Alias A = x,`
member_5 : Syntax 17 (w 0 "User_Alias" ∷ w 11 "A" ∷ m 13 marks.Equals ∷ w 15 "x" ∷ m 16 marks.Comma ∷ []) 18 wants.Member
member_5 = refl

-- `% :x ALL = ALL`
member_6 : Syntax 14 (w 0 "%" ∷ m 2 marks.Colon ∷ w 3 "x" ∷ w 5 "ALL" ∷ m 9 marks.Equals ∷ w 11 "ALL" ∷ []) 1 wants.Member
member_6 = refl

-- `/bin/ls ALL = ALL`
member_7 : Syntax 17 (c 0 "/bin/ls" ∷ w 8 "ALL" ∷ m 12 marks.Equals ∷ w 14 "ALL" ∷ []) 1 wants.Member
member_7 = refl

-- `alice ALL = (root /bin/ls`
paren_1 : Syntax 25 (w 0 "alice" ∷ w 6 "ALL" ∷ m 10 marks.Equals ∷ m 12 marks.LeftParen ∷ w 13 "root"
    ∷ c 18 "/bin/ls" ∷ []) 19 wants.RightParen
paren_1 = refl

-- `alice ALL = (a:b:c) ALL`
paren_2 : Syntax 23 (w 0 "alice" ∷ w 6 "ALL" ∷ m 10 marks.Equals ∷ m 12 marks.LeftParen ∷ w 13 "a"
    ∷ m 14 marks.Colon ∷ w 15 "b" ∷ m 16 marks.Colon ∷ w 17 "c" ∷ m 18 marks.RightParen ∷ w 20 "ALL" ∷ []) 17 wants.RightParen
paren_2 = refl

-- `Defaults`
parameter_1 : Syntax 8 (w 0 "Defaults" ∷ []) 9 wants.Parameter
parameter_1 = refl

-- `Defaults@web1`
parameter_2 : Syntax 13 (w 0 "Defaults" ∷ m 8 marks.At ∷ w 9 "web1" ∷ []) 14 wants.Parameter
parameter_2 = refl

-- `Defaults a, !`
parameter_3 : Syntax 13 (w 0 "Defaults" ∷ w 9 "a" ∷ m 10 marks.Comma ∷ m 12 marks.Bang ∷ []) 14 wants.Parameter
parameter_3 = refl

-- `Defaults,x`
parameter_4 : Syntax 10 (w 0 "Defaults" ∷ m 8 marks.Comma ∷ w 9 "x" ∷ []) 9 wants.Parameter
parameter_4 = refl

-- `Defaults=x`
parameter_5 : Syntax 10 (w 0 "Defaults" ∷ m 8 marks.Equals ∷ w 9 "x" ∷ []) 9 wants.Parameter
parameter_5 = refl

-- `Defaults"web1" = ALL`
parameter_6 : Syntax 20 (w 0 "Defaults" ∷ q 8 "web1" ∷ m 15 marks.Equals ∷ w 17 "ALL" ∷ []) 9 wants.Parameter
parameter_6 = refl

-- `Defaults a =`
value_1 : Syntax 12 (w 0 "Defaults" ∷ w 9 "a" ∷ m 11 marks.Equals ∷ []) 13 wants.Value
value_1 = refl

-- `Defaults a += ,`
value_2 : Syntax 15 (w 0 "Defaults" ∷ w 9 "a" ∷ two 11 marks.PlusEquals ∷ m 14 marks.Comma ∷ []) 15 wants.Value
value_2 = refl

-- `@include`
path : Syntax 8 (include 8 "" ∷ []) 1 wants.Path
path = refl

-- `@include a b`
end_1 : Syntax 12 (include 10 "a" ∷ w 11 "b" ∷ []) 12 wants.EndOfLine
end_1 = refl

-- `Defaults !a = b`
end_2 : Syntax 15 (w 0 "Defaults" ∷ m 9 marks.Bang ∷ w 10 "a" ∷ m 12 marks.Equals ∷ w 14 "b" ∷ []) 13 wants.EndOfLine
end_2 = refl

-- `alice ALL = ALL (root)`
end_3 : Syntax 22 (w 0 "alice" ∷ w 6 "ALL" ∷ m 10 marks.Equals ∷ w 12 "ALL" ∷ m 16 marks.LeftParen
    ∷ w 17 "root" ∷ m 21 marks.RightParen ∷ []) 17 wants.EndOfLine
end_3 = refl

-- `User_Alias A = x y`
end_4 : Syntax 18 (w 0 "User_Alias" ∷ w 11 "A" ∷ m 13 marks.Equals ∷ w 15 "x" ∷ w 17 "y" ∷ []) 18 wants.EndOfLine
end_4 = refl

-- Forms that are known and refused, and words that are no member.

-- `+ops ALL = ALL`
netgroup_1 : Refused 14 (w 0 "+ops" ∷ w 5 "ALL" ∷ m 9 marks.Equals ∷ w 11 "ALL" ∷ []) 1 (refusals.Unsupported forms.Netgroup)
netgroup_1 = refl

-- `alice "+web" = ALL`
netgroup_2 : Refused 18 (w 0 "alice" ∷ q 6 "+web" ∷ m 13 marks.Equals ∷ w 15 "ALL" ∷ []) 7 (refusals.Unsupported forms.Netgroup)
netgroup_2 = refl

-- `%:x ALL = ALL`
other_group_1 : Refused 13 (w 0 "%" ∷ m 1 marks.Colon ∷ w 2 "x" ∷ w 4 "ALL" ∷ m 8 marks.Equals ∷ w 10 "ALL"
    ∷ []) 1 (refusals.Unsupported forms.NonUnixGroup)
other_group_1 = refl

-- `"%":x ALL = ALL`
other_group_2 : Refused 15 (q 0 "%" ∷ m 3 marks.Colon ∷ w 4 "x" ∷ w 6 "ALL" ∷ m 10 marks.Equals ∷ w 12 "ALL"
    ∷ []) 1 (refusals.Unsupported forms.NonUnixGroup)
other_group_2 = refl

-- `"%:x" ALL = ALL`
other_group_3 : Refused 15 (q 0 "%:x" ∷ w 6 "ALL" ∷ m 10 marks.Equals ∷ w 12 "ALL" ∷ []) 1 (refusals.Unsupported forms.NonUnixGroup)
other_group_3 = refl

-- `alice ALL = sha256 : ab`
digest : Refused 23 (w 0 "alice" ∷ w 6 "ALL" ∷ m 10 marks.Equals ∷ w 12 "sha256" ∷ m 19 marks.Colon
    ∷ w 21 "ab" ∷ []) 13 (refusals.Unsupported forms.Digest)
digest = refl

-- `alice ALL = sha256`
no_digest : Refused 18 (w 0 "alice" ∷ w 6 "ALL" ∷ m 10 marks.Equals ∷ w 12 "sha256" ∷ []) 13 refusals.NotCommand
no_digest = refl

-- `alice ALL = CWD=/tmp /bin/ls`
option_1 : Refused 28 (w 0 "alice" ∷ w 6 "ALL" ∷ m 10 marks.Equals ∷ w 12 "CWD" ∷ m 15 marks.Equals
    ∷ c 16 "/tmp" ∷ c 21 "/bin/ls" ∷ []) 16 (refusals.Unsupported forms.CommandOption)
option_1 = refl

-- `Cmnd_Alias A = /bin/ls, !CWD = x`
option_2 : Refused 32 (w 0 "Cmnd_Alias" ∷ w 11 "A" ∷ m 13 marks.Equals ∷ c 15 "/bin/ls" ∷ m 22 marks.Comma
    ∷ m 24 marks.Bang ∷ w 25 "CWD" ∷ m 29 marks.Equals ∷ w 31 "x" ∷ []) 30 (refusals.Unsupported forms.CommandOption)
option_2 = refl

-- `alice ALL = list`
list_1 : Refused 16 (w 0 "alice" ∷ w 6 "ALL" ∷ m 10 marks.Equals ∷ w 12 "list" ∷ []) 13 (refusals.Unsupported forms.List)
list_1 = refl

-- `alice ALL = "list"`
list_2 : Refused 18 (w 0 "alice" ∷ w 6 "ALL" ∷ m 10 marks.Equals ∷ q 12 "list" ∷ []) 13 refusals.NotCommand
list_2 = refl

-- `alice ALL = ^x`
expression_1 : Refused 14 (w 0 "alice" ∷ w 6 "ALL" ∷ m 10 marks.Equals ∷ w 12 "^x" ∷ []) 13 (refusals.Unsupported forms.RegularExpression)
expression_1 = refl

-- `alice ALL = /a ^b$`
expression_2 : Refused 18 (w 0 "alice" ∷ w 6 "ALL" ∷ m 10 marks.Equals ∷ a 12 "/a" "^b$" ∷ []) 13
    (refusals.Unsupported forms.RegularExpression)
expression_2 = refl

-- `@include /%h`
host_escape : Refused 12 (include 12 "/%h" ∷ []) 1 (refusals.Unsupported forms.HostEscape)
host_escape = refl

-- `alice ALL = ls`
no_command : Refused 14 (w 0 "alice" ∷ w 6 "ALL" ∷ m 10 marks.Equals ∷ w 12 "ls" ∷ []) 13 refusals.NotCommand
no_command = refl

-- `a b = NOEXEC : c = ALL`
no_host : Refused 22 (w 0 "a" ∷ w 2 "b" ∷ m 4 marks.Equals ∷ w 6 "NOEXEC" ∷ m 13 marks.Colon ∷ w 15 "c"
    ∷ m 17 marks.Equals ∷ w 19 "ALL" ∷ []) 16 refusals.NotCommand
no_host = refl

-- `"User_Alias" A = x`
quoted_keyword : Refused 18 (q 0 "User_Alias" ∷ w 13 "A" ∷ m 15 marks.Equals ∷ w 17 "x" ∷ []) 18 refusals.NotCommand
quoted_keyword = refl

-- `#4294967296 ALL = ALL`
number_1 : Refused 21 (w 0 "#4294967296" ∷ w 12 "ALL" ∷ m 16 marks.Equals ∷ w 18 "ALL" ∷ []) 1 refusals.BadNumber
number_1 = refl

-- `alice 10.0.0.256 = ALL`
number_2 : Refused 22 (w 0 "alice" ∷ w 6 "10.0.0.256" ∷ m 17 marks.Equals ∷ w 19 "ALL" ∷ []) 7 refusals.BadNumber
number_2 = refl

-- `alice 10.0.0.0/33 = ALL`
number_3 : Refused 23 (w 0 "alice" ∷ w 6 "10.0.0.0/33" ∷ m 18 marks.Equals ∷ w 20 "ALL" ∷ []) 7 refusals.BadNumber
number_3 = refl

-- `User_Alias A=x:B=x:C=x`
too_many : Refused 22 (w 0 "User_Alias" ∷ w 11 "A" ∷ m 12 marks.Equals ∷ w 13 "x" ∷ m 14 marks.Colon
    ∷ w 15 "B" ∷ m 16 marks.Equals ∷ w 17 "x" ∷ m 18 marks.Colon ∷ w 19 "C" ∷ m 20 marks.Equals ∷ w 21 "x"
    ∷ []) 20 refusals.TooMany
too_many = refl

-- Lines that are read.

-- `User_Alias A = alice, !!bob : B = A`
aliases : Reads (w 0 "User_Alias" ∷ w 11 "A" ∷ m 13 marks.Equals ∷ w 15 "alice" ∷ m 20 marks.Comma
    ∷ m 22 marks.Bang ∷ m 23 marks.Bang ∷ w 24 "bob" ∷ m 28 marks.Colon ∷ w 30 "B" ∷ m 32 marks.Equals
    ∷ w 34 "A" ∷ [])
    (entries.Aliases kinds.User (
    record {
      name = codes "A";
      members = the (w 15 "alice") (atoms.Name (codes "alice"))
          ∷ record { bangs = 2; token = w 24 "bob"; atom = atoms.Name (codes "bob") } ∷ [];
    }
    ∷ record { name = codes "B"; members = the (w 34 "A") (atoms.Alias (codes "A")) ∷ [] } ∷ []))
aliases = refl

-- `Cmd_Alias A = /bin/ls`
old_keyword : Reads (w 0 "Cmd_Alias" ∷ w 10 "A" ∷ m 12 marks.Equals ∷ c 14 "/bin/ls" ∷ [])
    (entries.Aliases kinds.Cmnd (
    record { name = codes "A"; members = the (c 14 "/bin/ls") (atoms.Command (chars "/bin/ls") None) ∷ [] } ∷ []))
old_keyword = refl

-- `root ALL=(ALL:) NOPASSWD:/bin/ls`
granted : Reads (w 0 "root" ∷ w 5 "ALL" ∷ m 8 marks.Equals ∷ m 9 marks.LeftParen ∷ w 10 "ALL"
    ∷ m 13 marks.Colon ∷ m 14 marks.RightParen ∷ w 16 "NOPASSWD" ∷ m 24 marks.Colon ∷ c 25 "/bin/ls" ∷ [])
    (entries.Rule (the (w 0 "root") (atoms.Name (codes "root")) ∷ []) (record {
      hosts = the (w 5 "ALL") atoms.All ∷ [];
      commands = record {
        runas = Some (record { users = Some (the (w 10 "ALL") atoms.All ∷ []); groups = None });
        tags = record { pair = pairs.Passwd; on = false } ∷ [];
        command = the (c 25 "/bin/ls") (atoms.Command (chars "/bin/ls") None);
      } ∷ [];
    } ∷ []))
granted = refl

-- `a b = !NOEXEC : 10.0.0.0/8 = (:g) /x, () ALL`
sections : Reads (w 0 "a" ∷ w 2 "b" ∷ m 4 marks.Equals ∷ m 6 marks.Bang ∷ w 7 "NOEXEC" ∷ m 14 marks.Colon
    ∷ w 16 "10.0.0.0/8" ∷ m 27 marks.Equals ∷ m 29 marks.LeftParen ∷ m 30 marks.Colon ∷ w 31 "g"
    ∷ m 32 marks.RightParen ∷ c 34 "/x" ∷ m 36 marks.Comma ∷ m 38 marks.LeftParen ∷ m 39 marks.RightParen
    ∷ w 41 "ALL" ∷ [])
    (entries.Rule (the (w 0 "a") (atoms.Name (codes "a")) ∷ []) (
    record {
      hosts = the (w 2 "b") (atoms.Host (chars "b") false) ∷ [];
      commands = plain (record { bangs = 1; token = w 7 "NOEXEC"; atom = atoms.Alias (codes "NOEXEC") }) ∷ [];
    }
    ∷ record {
      hosts = the (w 16 "10.0.0.0/8") (atoms.Net 167772160 4278190080) ∷ [];
      commands = record {
        runas = Some (record { users = None; groups = Some (the (w 31 "g") (atoms.Name (codes "g")) ∷ []) });
        tags = [];
        command = the (c 34 "/x") (atoms.Command (chars "/x") None);
      }
          ∷ record { runas = Some (record { users = None; groups = None }); tags = []; command = the (w 41 "ALL") atoms.All }
          ∷ [];
    }
    ∷ []))
sections = refl

-- `%\#5 ALL = ALL`
group_number : Reads (e 0 5 "%" "#" "5" ∷ w 5 "ALL" ∷ m 9 marks.Equals ∷ w 11 "ALL" ∷ [])
    (entries.Rule (the (e 0 5 "%" "#" "5") (atoms.Gid 5) ∷ [])
    (record { hosts = the (w 5 "ALL") atoms.All ∷ []; commands = plain (the (w 11 "ALL") atoms.All) ∷ [] } ∷ []))
group_number = refl

-- `"ALL" "A" = ALL`
quoted : Reads (q 0 "ALL" ∷ q 6 "A" ∷ m 10 marks.Equals ∷ w 12 "ALL" ∷ [])
    (entries.Rule (the (q 0 "ALL") (atoms.Name (codes "ALL")) ∷ [])
    (record { hosts = the (q 6 "A") (atoms.Host (chars "A") true) ∷ []; commands = plain (the (w 12 "ALL") atoms.All) ∷ [] } ∷ []))
quoted = refl

-- `Defaults !!a, b += "c d", e`
switched : Reads (w 0 "Defaults" ∷ m 9 marks.Bang ∷ m 10 marks.Bang ∷ w 11 "a" ∷ m 12 marks.Comma ∷ w 14 "b"
    ∷ two 16 marks.PlusEquals ∷ q 19 "c d" ∷ m 24 marks.Comma ∷ w 26 "e" ∷ [])
    (entries.Defaults None (parameters.Switch 2 (w 11 "a")
    ∷ parameters.Assign (w 14 "b") operators.Add (q 19 "c d") ∷ parameters.Switch 0 (w 26 "e") ∷ []))
switched = refl

-- `Defaults@web a`
bound_hosts : Reads (w 0 "Defaults" ∷ m 8 marks.At ∷ w 9 "web" ∷ w 13 "a" ∷ [])
    (entries.Defaults (Some (bindings.Hosts (the (w 9 "web") (atoms.Host (chars "web") false) ∷ [])))
    (parameters.Switch 0 (w 13 "a") ∷ []))
bound_hosts = refl

-- `Defaults:%g a`
bound_users : Reads (w 0 "Defaults" ∷ m 8 marks.Colon ∷ w 9 "%g" ∷ w 12 "a" ∷ [])
    (entries.Defaults (Some (bindings.Users (the (w 9 "%g") (atoms.Group (codes "g")) ∷ [])))
    (parameters.Switch 0 (w 12 "a") ∷ []))
bound_users = refl

-- `Defaults!/x !a`
bound_commands : Reads (w 0 "Defaults" ∷ m 8 marks.Bang ∷ c 9 "/x" ∷ m 12 marks.Bang ∷ w 13 "a" ∷ [])
    (entries.Defaults (Some (bindings.Commands (the (c 9 "/x") (atoms.Command (chars "/x") None) ∷ [])))
    (parameters.Switch 1 (w 13 "a") ∷ []))
bound_commands = refl

-- `Defaults>root a`
bound_runas : Reads (w 0 "Defaults" ∷ m 8 marks.Greater ∷ w 9 "root" ∷ w 14 "a" ∷ [])
    (entries.Defaults (Some (bindings.Runas (the (w 9 "root") (atoms.Name (codes "root")) ∷ [])))
    (parameters.Switch 0 (w 14 "a") ∷ []))
bound_runas = refl

-- `@include a`
included : Reads (include 10 "a" ∷ [])
    (entries.Include false false (chars "a"))
included = refl

abbrev IsRead : Tag → Type 0
IsRead tag = tag_of_name (tag_name tag) ≡ Some tag

-- Each tag is read by its name; so no two names are the same.
tags_are_read : (p : TagPair) → IsRead (record { pair = p; on = true }) × IsRead (record { pair = p; on = false })
tags_are_read pairs.Exec = (refl, refl)
tags_are_read _ = (refl, refl)
