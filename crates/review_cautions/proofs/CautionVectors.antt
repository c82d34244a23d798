-- Worked examples of the classes of cautions: for each one a construct that has it, and one that does not.
use Rattle.std.proofs.Common.{◌≡◌, ℕ, Bool, true, false, List, [], ◌∷◌, ◌++◌, Option, None, Some, map, refl}
use Rattle.std.specs.Prelude.{codes}
use Rattle.sudo_text.specs.Lines.{place}
use Rattle.sudo_text.specs.Pieces.{plain, escaped}
use Rattle.sudo_text.specs.declared.token.Ch.{Ch}
use Rattle.sudo_text.specs.declared.token.TokenKind.TheVariants as tokens
use Rattle.sudo_grammar.specs.declared.kind.Kind.{Kind}
use Rattle.sudo_grammar.specs.declared.kind.Kind.TheVariants as kinds
use Rattle.sudo_grammar.specs.declared.kind.Atom.{Atom}
use Rattle.sudo_grammar.specs.declared.kind.Atom.TheVariants as atoms
use Rattle.sudo_grammar.specs.declared.kind.Member.{Member}
use Rattle.sudo_grammar.specs.declared.policy.Parameter.{Parameter}
use Rattle.sudo_grammar.specs.declared.policy.Parameter.TheVariants.{Switch, Assign}
use Rattle.sudo_grammar.specs.declared.policy.Operator.TheVariants.{Set}
use Rattle.sudo_grammar.specs.declared.tag.Tag.{Tag}
use Rattle.sudo_grammar.specs.declared.tag.TagPair.TheVariants as pair
use Rattle.sudo_grammar.specs.declared.policy.Runas.{Runas}
use Rattle.sudo_grammar.specs.declared.policy.CommandSpec.{CommandSpec}
use Rattle.sudo_grammar.specs.declared.policy.EntryBody.TheVariants as entries
use Rattle.sudo_grammar.specs.declared.policy.Entry.{Entry}
use Rattle.sudo_policy.specs.Definitions.{MemberList, granting_list, definition_in}
use Rattle.review_texts.specs.Notes.{note_path}
use Rattle.review_texts.specs.declared.note.Note.{Note}
use Rattle.review_texts.specs.declared.note.Note.TheVariants.{Digest, Time, Chroot, Regex}
use Rattle.review_cautions.specs.declared.class.CautionClass.TheVariants.{Return, BlankAfterBackslash, Join, TornMark}
use Rattle.review_cautions.specs.declared.class.CautionClass.TheVariants.{IncludeEscape, IncludeIndent, Comment, EmptyGroup}
use Rattle.review_cautions.specs.declared.class.CautionClass.TheVariants.{Caret, Escape, Case, QuotedHost, QuotedEscape, Linked, Defaults}
use Rattle.review_cautions.specs.declared.class.CautionClass.TheVariants.{Sudoedit, Network, Bracket, Setenv}
use Rattle.review_cautions.specs.declared.class.CautionClass.TheVariants.{GroupForm, Reserved, Arguments}
use Rattle.review_cautions.specs.ListTests.{linking, usual_links}
use Rattle.review_cautions.specs.Cautions.{caution_at, text_cautions, list_cautions, linked_cautions, parameter_cautions}
use Rattle.review_cautions.specs.Cautions.{entry_cautions, note_caution, noted_cautions}
use Rattle.review_cautions.specs.Uses.{deciding_in}

-- the carriage return behind a command is dropped; that of a comment means nothing, nor does one behind `ALL`
return : text_cautions Return ((codes "alice ALL = /bin/ls" ++ 13 ∷ 10 ∷ codes "# /bin/ls" ++ 13 ∷ 10
    ∷ codes "bob ALL = ALL" ++ 13 ∷ 10 ∷ codes "bob ALL = sudoedit" ++ 13 ∷ 10 ∷ codes "eve ALL = \\" ++ 10
    ∷ codes "ALL" ++ 13 ∷ 10 ∷ codes "Defaults insults") ∷ [])
    ≡ caution_at Return (place 0 1) ∷ caution_at Return (place 0 4) ∷ caution_at Return (place 0 6) ∷ []
return = refl

-- behind a backslash, and not at the end of the last line
return_alone : text_cautions Return ((codes "User_Alias A = bob\\" ++ 13 ∷ 10 ∷ codes "# note" ++ 10
    ∷ codes "bob ALL = ALL" ++ 13 ∷ []) ∷ [])
    ≡ caution_at Return (place 0 1) ∷ []
return_alone = refl

-- a blank behind a backslash, and one behind two
blank : text_cautions BlankAfterBackslash (codes "Defaults insults" ∷ (codes "alice ALL = /bin/ls foo\\ " ++ 10
    ∷ codes "bob ALL = /bin/ls foo\\\\ ") ∷ []) ≡ caution_at BlankAfterBackslash (place 1 1) ∷ []
blank = refl

-- the command `/bin/ls-l` here; a blank before the backslash is one for both
join : text_cautions Join ((codes "alice ALL = /bin/ls\\" ++ 10 ∷ codes "  -l" ++ 10
    ∷ codes "bob ALL = /bin/ls \\" ++ 10 ∷ codes "-l") ∷ []) ≡ caution_at Join (place 0 1) ∷ []
join = refl

-- a line that ends in a comma or an equals sign tears no word, and an escaped blank is a part of one
no_join : text_cautions Join ((codes "alice ALL =\\" ++ 10 ∷ codes "/bin/ls,\\" ++ 10 ∷ codes "/bin/cat a\\ \\" ++ 10 ∷ codes "b") ∷ [])
    ≡ caution_at Join (place 0 3) ∷ []
no_join = refl

-- in arguments an equals sign is a part of a word
equals : text_cautions Join ((codes "alice ALL =\\" ++ 10 ∷ codes "/bin/dd if=\\" ++ 10 ∷ codes "/dev/zero") ∷ [])
    ≡ caution_at Join (place 0 2) ∷ []
equals = refl

-- the colon of a tag on the next line; a comment is never continued
torn : text_cautions TornMark ((codes "alice ALL = NOPASSWD\\" ++ 10 ∷ codes ": ALL" ++ 10 ∷ codes "# NOPASSWD\\" ++ 10
    ∷ codes ": ALL" ++ 10 ∷ codes "alice ALL = NOPASSWD: \\" ++ 10 ∷ codes "ALL") ∷ []) ≡ caution_at TornMark (place 0 1) ∷ []
torn = refl

-- a percent sign apart from its group
group : text_cautions TornMark ((codes "%\\" ++ 10 ∷ codes "#27 ALL = ALL" ++ 10 ∷ codes "%adm \\" ++ 10 ∷ codes "ALL = ALL") ∷ [])
    ≡ caution_at TornMark (place 0 1) ∷ []
group = refl

-- a backslash before `%` or `x` in the path of an include line, or beside double quotes; none, and one before a comma
include_escape : text_cautions IncludeEscape ((codes "@include /x/a\\%h" ++ 10 ∷ codes "@include /x/a" ++ 10
    ∷ codes "@include /x/a\\,b" ++ 10 ∷ codes "@include a\\x62" ++ 10 ∷ codes "@include \"a\\,b\"" ++ 10
    ∷ codes "alice ALL = /bin/ls a\\%b") ∷ [])
    ≡ caution_at IncludeEscape (place 0 1) ∷ caution_at IncludeEscape (place 0 4) ∷ caution_at IncludeEscape (place 0 5) ∷ []
include_escape = refl

-- blanks before `#include`; none before the next, and blanks before `@include` are blanks for both
include_indent : text_cautions IncludeIndent ((codes "  #include /x/a" ++ 10 ∷ codes "#include /x/a" ++ 10 ∷ codes "  @include /x/a" ++ 10
    ∷ codes " # include /x/a") ∷ []) ≡ caution_at IncludeIndent (place 0 1) ∷ []
include_indent = refl

-- a continuation line is never an include line
include_continued : text_cautions IncludeIndent ((codes "alice ALL = ALL, \\" ++ 10 ∷ codes "  #include /x/a") ∷ []) ≡ []
include_continued = refl

-- `#5` behind `ALL`, `#-1` and `#-` at the front of a line; not `# #5`, nor `#-x`, nor an ID behind a comma
comment : text_cautions Comment ((codes "alice ALL = ALL#5" ++ 10 ∷ codes "#-1 ALL = ALL" ++ 10 ∷ codes "#-" ++ 10
    ∷ codes "alice ALL = ALL # #5" ++ 10 ∷ codes "#-x" ++ 10 ∷ codes "alice, #5 ALL = ALL" ++ 10 ∷ codes "#5 ALL = ALL #-7") ∷ [])
    ≡ caution_at Comment (place 0 1) ∷ caution_at Comment (place 0 2) ∷ caution_at Comment (place 0 3)
    ∷ caution_at Comment (place 0 7) ∷ []
comment = refl

-- no escaped `#` begins a comment, none between double quotes, and none in the path of an include line
no_comment : text_cautions Comment ((codes "a\\#5 ALL = ALL" ++ 10 ∷ codes "\"a #5\" ALL = ALL" ++ 10 ∷ codes "@include /x#5" ++ 10
    ∷ codes "%#5 ALL = (#6 : #7) ALL") ∷ []) ≡ []
no_comment = refl

-- a colon before a `)`, also over a join; not `(:)`, nor one in a quoted name or in a comment
empty_group : text_cautions EmptyGroup ((codes "alice ALL = (bob : ) ALL" ++ 10 ∷ codes "alice ALL = (bob: \\" ++ 10 ∷ codes "  ) ALL"
    ++ 10 ∷ codes "alice ALL = (:) /x, () /y, (bob:adm) /z # :)" ++ 10 ∷ codes "\"a:)\" ALL = ALL") ∷ [])
    ≡ caution_at EmptyGroup (place 0 1) ∷ caution_at EmptyGroup (place 0 2) ∷ []
empty_group = refl

-- a backslash alone before a definition; not before a rule
torn_definition : text_cautions TornMark ((codes " \\" ++ 10 ∷ codes "User_Alias A = bob" ++ 10 ∷ codes "\\" ++ 10
    ∷ codes "alice ALL = ALL") ∷ []) ≡ caution_at TornMark (place 0 1) ∷ []
torn_definition = refl

-- a member with this atom
member : Atom → Member
member atom = record { bangs = 0; token = record { kind = tokens.Word false []; start = 0; end = 0 }; atom = atom }

-- a list on a line, with a member of this atom alone
list : Kind → ℕ → Atom → MemberList
list kind line atom = granting_list kind (place 0 line) (member atom ∷ [])

-- a command with these arguments
command : List Ch → List Ch → Atom
command path args = atoms.Command path (Some args)

-- `/usr/bin/passwd [^-]*` twice on a line, and `/usr/bin/passwd ^-` on another
caret : list_cautions Caret (list kinds.Cmnd 1 (command (map plain (codes "/usr/bin/passwd")) (map plain (codes "[^-]*")))
    ∷ list kinds.Cmnd 1 (command (map plain (codes "/usr/bin/passwd")) (plain 91 ∷ escaped 94 ∷ map plain (codes "-]")))
    ∷ list kinds.Cmnd 2 (command (map plain (codes "/usr/bin/passwd")) (map plain (codes "^-"))) ∷ []) ≡ caution_at Caret (place 0 1) ∷ []
unfolding list member command
caret = refl

-- a member with this atom, spelled by a word of these characters
word : Bool → List Ch → Atom → Member
word quoted chars atom = record { bangs = 0; token = record { kind = tokens.Word quoted chars; start = 0; end = 0 }; atom = atom }

-- `/bin/ls a\\b` and `/bin/l!\*`, and not `/bin/ls a\,b`
escape : list_cautions Escape (list kinds.Cmnd 1 (command (map plain (codes "/bin/ls")) (plain 97 ∷ escaped 92 ∷ plain 98 ∷ []))
    ∷ list kinds.Cmnd 2 (atoms.Command (map plain (codes "/bin/l!") ++ escaped 42 ∷ []) None)
    ∷ list kinds.Cmnd 3 (command (map plain (codes "/bin/ls")) (plain 97 ∷ escaped 44 ∷ plain 98 ∷ [])) ∷ [])
    ≡ caution_at Escape (place 0 1) ∷ caution_at Escape (place 0 2) ∷ []
unfolding list member command
escape = refl

-- `/bin/l\s` and `/bin/l!\*`, and not `/bin/[!l]s`, `/bin/l\,s` and `/bin/l\` with a tab; `sudoedit` has no arguments
path_escape : list_cautions Escape (list kinds.Cmnd 1 (atoms.Command (map plain (codes "/bin/[!l]s")) None)
    ∷ list kinds.Cmnd 2 (atoms.Command (map plain (codes "/bin/l") ++ escaped 115 ∷ []) None)
    ∷ list kinds.Cmnd 3 (atoms.Command (map plain (codes "/bin/l") ++ escaped 44 ∷ plain 115 ∷ []) None)
    ∷ list kinds.Cmnd 4 (atoms.Command (map plain (codes "sudoedit")) None)
    ∷ list kinds.Cmnd 5 (atoms.Command (map plain (codes "sudoedit\"a\"")) None)
    ∷ list kinds.Cmnd 6 (atoms.Command (map plain (codes "/bin/l!") ++ escaped 42 ∷ []) None)
    ∷ list kinds.Cmnd 7 (atoms.Command (map plain (codes "/bin/l") ++ escaped 9 ∷ []) None) ∷ [])
    ≡ caution_at Escape (place 0 2) ∷ caution_at Escape (place 0 5) ∷ caution_at Escape (place 0 6) ∷ []
unfolding list member
path_escape = refl

-- `/bin/ls \-l`, and not `/bin/ls \*` and `/bin/ls a\ b`
argument_escape : list_cautions Escape
    (list kinds.Cmnd 1 (command (map plain (codes "/bin/ls")) (escaped 45 ∷ plain 108 ∷ []))
    ∷ list kinds.Cmnd 2 (command (map plain (codes "/bin/ls")) (escaped 42 ∷ []))
    ∷ list kinds.Cmnd 3 (command (map plain (codes "/bin/ls")) (plain 97 ∷ escaped 32 ∷ plain 98 ∷ [])) ∷ [])
    ≡ caution_at Escape (place 0 1) ∷ []
unfolding list member command
argument_escape = refl

-- `#5\4` and `%#\5`, and not `%\#5`; a name with an escaped tab, and not one with an escaped letter
word_escape : list_cautions Escape
    (granting_list kinds.User (place 0 1) (word false (plain 35 ∷ plain 53 ∷ escaped 52 ∷ []) (atoms.Uid 54) ∷ [])
    ∷ granting_list kinds.User (place 0 2) (word false (plain 37 ∷ plain 35 ∷ escaped 53 ∷ []) (atoms.Gid 5) ∷ [])
    ∷ granting_list kinds.User (place 0 3) (word false (plain 37 ∷ escaped 35 ∷ plain 53 ∷ []) (atoms.Gid 5) ∷ [])
    ∷ granting_list kinds.User (place 0 4) (word false (plain 97 ∷ escaped 9 ∷ []) (atoms.Name (97 ∷ 9 ∷ [])) ∷ [])
    ∷ granting_list kinds.User (place 0 5) (word false (plain 97 ∷ escaped 98 ∷ []) (atoms.Name (codes "ab")) ∷ []) ∷ [])
    ≡ caution_at Escape (place 0 1) ∷ caution_at Escape (place 0 2) ∷ caution_at Escape (place 0 4) ∷ []
unfolding word
word_escape = refl

-- `web\*`, and not `web*` and `web\ 1`
host_escape : list_cautions Escape (list kinds.Host 1 (atoms.Host (map plain (codes "web") ++ escaped 42 ∷ []) false)
    ∷ list kinds.Host 2 (atoms.Host (map plain (codes "web*")) false)
    ∷ list kinds.Host 3 (atoms.Host (map plain (codes "web") ++ escaped 32 ∷ plain 49 ∷ []) false) ∷ [])
    ≡ caution_at Escape (place 0 1) ∷ []
unfolding list member
host_escape = refl

-- `web[0\-9]`, and not `web\-1`
bracket_escape : list_cautions Escape
    (list kinds.Host 1 (atoms.Host (map plain (codes "web[0") ++ escaped 45 ∷ map plain (codes "9]")) false)
    ∷ list kinds.Host 2 (atoms.Host (map plain (codes "web") ++ escaped 45 ∷ plain 49 ∷ []) false) ∷ [])
    ≡ caution_at Escape (place 0 1) ∷ []
unfolding list member
bracket_escape = refl

-- `\#1000`, and not `"\#1000"`, `a\#` and `\#a`
id_escape : list_cautions Escape
    (granting_list kinds.User (place 0 1) (word false (escaped 35 ∷ map plain (codes "1000")) (atoms.Name (codes "#1000")) ∷ [])
    ∷ granting_list kinds.Runas (place 0 2) (word true (escaped 35 ∷ map plain (codes "1000")) (atoms.Name (codes "#1000")) ∷ [])
    ∷ granting_list kinds.Runas (place 0 3) (word false (plain 97 ∷ escaped 35 ∷ []) (atoms.Name (codes "a#")) ∷ [])
    ∷ granting_list kinds.Runas (place 0 4) (word false (escaped 35 ∷ plain 97 ∷ []) (atoms.Name (codes "#a")) ∷ []) ∷ [])
    ≡ caution_at Escape (place 0 1) ∷ []
unfolding word
id_escape = refl

-- `Alice` and `%ADM`, and not the host `WEB1` and the user `alice`
case : list_cautions Case (list kinds.User 1 (atoms.Name (codes "Alice"))
    ∷ list kinds.Host 2 (atoms.Host (map plain (codes "WEB1")) false) ∷ list kinds.User 3 (atoms.Name (codes "alice"))
    ∷ list kinds.Runas 4 (atoms.Group (codes "ADM")) ∷ []) ≡ caution_at Case (place 0 1) ∷ caution_at Case (place 0 4) ∷ []
unfolding list member
case = refl

-- `"web?"`, and not `web?` and `"web1"`
quoted_host : list_cautions QuotedHost (list kinds.Host 1 (atoms.Host (map plain (codes "web?")) true)
    ∷ list kinds.Host 2 (atoms.Host (map plain (codes "web?")) false)
    ∷ list kinds.Host 3 (atoms.Host (map plain (codes "web1")) true) ∷ []) ≡ caution_at QuotedHost (place 0 1) ∷ []
unfolding list member
quoted_host = refl

-- `"al\ice"`, and not `al\ice` and `"al\"ice"`
quoted_escape : list_cautions QuotedEscape
    (granting_list kinds.User (place 0 1) (word true (plain 97 ∷ plain 108 ∷ escaped 105 ∷ []) (atoms.Name (codes "ali")) ∷ [])
    ∷ granting_list kinds.User (place 0 2) (word false (plain 97 ∷ plain 108 ∷ escaped 105 ∷ []) (atoms.Name (codes "ali")) ∷ [])
    ∷ granting_list kinds.User (place 0 3) (word true (plain 97 ∷ plain 108 ∷ escaped 34 ∷ []) (atoms.Name (codes "al\"")) ∷ []) ∷ [])
    ≡ caution_at QuotedEscape (place 0 1) ∷ []
unfolding word
quoted_escape = refl

-- `/opt/*` and `/bi`; `/usr/*` may lie below `/usr/bin/`, and so does `/bin/ls`, but one caution is enough
linked : linked_cautions usual_links (list kinds.Cmnd 1 (atoms.Command (map plain (codes "/opt/*")) None)
    ∷ list kinds.Cmnd 2 (atoms.Command (map plain (codes "/bi")) None)
    ∷ list kinds.Cmnd 3 (atoms.Command (map plain (codes "/usr/*")) None)
    ∷ list kinds.Cmnd 4 (atoms.Command (map plain (codes "/bin/ls")) None) ∷ []) ≡ caution_at Linked (place 0 3) ∷ []
unfolding list member
linked = refl

-- by a link from `/opt` to `/srv/opt`: `/srv/opt/run`, and not `/bin/ls`, `/opt` and `/opt2/run`
other_link : linked_cautions (linking (codes "/opt") (codes "/srv/opt") ∷ [])
    (list kinds.Cmnd 1 (atoms.Command (map plain (codes "/bin/ls")) None)
    ∷ list kinds.Cmnd 2 (atoms.Command (map plain (codes "/opt")) None)
    ∷ list kinds.Cmnd 3 (atoms.Command (map plain (codes "/opt2/run")) None)
    ∷ list kinds.Cmnd 4 (atoms.Command (map plain (codes "/srv/opt/run")) None) ∷ []) ≡ caution_at Linked (place 0 4) ∷ []
unfolding list member
other_link = refl

-- a switch of this name
switch : ℕ → List ℕ → Parameter
switch bangs name = Switch bangs (record { kind = tokens.Word false (map plain name); start = 0; end = 0 })

-- `!authenticate` and `targetpw` decide, `authenticate` and `env_reset` do not
defaults : parameter_cautions (place 0 1) (switch 1 (codes "authenticate") ∷ switch 0 (codes "env_reset")
    ∷ switch 2 (codes "authenticate") ∷ switch 0 (codes "targetpw") ∷ [])
    ≡ record { class = Defaults; place = place 0 1; subject = codes "authenticate" }
    ∷ record { class = Defaults; place = place 0 1; subject = codes "targetpw" } ∷ []
unfolding switch
defaults = refl

-- a parameter of this name with this value
assigned : List ℕ → List Ch → Parameter
assigned name value = Assign (record { kind = tokens.Word false (map plain name); start = 0; end = 0 }) Set
    (record { kind = tokens.Word false value; start = 0; end = 0 })

-- `runas_default=bob` and `runas_default=r\oot`, and not `runas_default=root`, `fast_glob=x` and `!case_insensitive_user`
values : parameter_cautions (place 0 1) (assigned (codes "runas_default") (map plain (codes "root"))
    ∷ assigned (codes "runas_default") (map plain (codes "bob")) ∷ assigned (codes "fast_glob") (map plain (codes "x"))
    ∷ assigned (codes "runas_default") (plain 114 ∷ escaped 111 ∷ map plain (codes "ot"))
    ∷ switch 1 (codes "case_insensitive_user") ∷ [])
    ≡ record { class = Defaults; place = place 0 1; subject = codes "runas_default" }
    ∷ record { class = Defaults; place = place 0 1; subject = codes "runas_default" } ∷ []
unfolding switch assigned
values = refl

-- `/usr/bin/sudoedit`, and not `sudoedit` and `/usr/bin/sudoedit.sh`
sudoedit : list_cautions Sudoedit (list kinds.Cmnd 1 (atoms.Command (map plain (codes "/usr/bin/sudoedit")) None)
    ∷ list kinds.Cmnd 2 (atoms.Command (map plain (codes "sudoedit")) None)
    ∷ list kinds.Cmnd 3 (atoms.Command (map plain (codes "/usr/bin/sudoedit.sh")) None) ∷ []) ≡ caution_at Sudoedit (place 0 1) ∷ []
unfolding list member
sudoedit = refl

-- a host that a word of these bytes spells, on a line
spelled : ℕ → List ℕ → Atom → MemberList
spelled line bytes atom = granting_list kinds.Host (place 0 line) (word false (map plain bytes) atom ∷ [])

-- `010.0.0.1`, and not `10.0.0.100`
leading_zero : list_cautions Network (spelled 1 (codes "010.0.0.1") (atoms.Address 167772161)
    ∷ spelled 2 (codes "10.0.0.100") (atoms.Address 167772260) ∷ []) ≡ caution_at Network (place 0 1) ∷ []
unfolding spelled word
leading_zero = refl

-- `10.0.0.0/0` and `127.5.0.1`, and not `10.0.0.0/0.0.0.0`, `10.0.0.0/8` and the host `web01`
network : list_cautions Network (spelled 1 (codes "10.0.0.0/0") (atoms.Net 167772160 0)
    ∷ spelled 5 (codes "10.0.0.0/0.0.0.0") (atoms.Net 167772160 0)
    ∷ spelled 2 (codes "127.5.0.1") (atoms.Address 2131034113) ∷ spelled 3 (codes "10.0.0.0/8") (atoms.Net 167772160 4278190080)
    ∷ spelled 4 (codes "web01") (atoms.Host (map plain (codes "web01")) false) ∷ [])
    ≡ caution_at Network (place 0 1) ∷ caution_at Network (place 0 2) ∷ []
unfolding spelled word
network = refl

-- a command with this runas and these tags
granted : Option Runas → List Tag → Atom → CommandSpec
granted runas tags atom = record { runas = runas; tags = tags; command = member atom }

-- SETENV or NOSETENV
environment : Bool → List Tag
environment on = record { pair = pair.SetEnv; on = on } ∷ []

-- `/bin/ls`
ls : Atom
ls = atoms.Command (map plain (codes "/bin/ls")) None

-- a rule on a line with one section of these commands
rule : ℕ → List CommandSpec → Entry
rule line commands = record {
  place = place 0 line;
  body = entries.Rule (member atoms.All ∷ [])
      (record { hosts = member atoms.All ∷ []; commands = commands } ∷ []);
}

-- `NOSETENV: /bin/ls, ALL` and `SETENV: /bin/ls, ALL, /bin/ls`; not `SETENV: /bin/ls, ALL`, `NOSETENV: ALL, /bin/ls`,
-- `ALL, /bin/ls` and `SETENV: /bin/ls, ALL, NOSETENV: /bin/ls`
setenv : entry_cautions Setenv
    (rule 1 (granted None (environment false) ls ∷ granted None [] atoms.All ∷ [])
    ∷ rule 2 (granted None (environment true) ls ∷ granted None [] atoms.All ∷ granted None [] ls ∷ [])
    ∷ rule 3 (granted None (environment true) ls ∷ granted None [] atoms.All ∷ [])
    ∷ rule 4 (granted None (environment false) atoms.All ∷ granted None [] ls ∷ [])
    ∷ rule 5 (granted None [] atoms.All ∷ granted None [] ls ∷ [])
    ∷ rule 6 (granted None (environment true) ls ∷ granted None [] atoms.All ∷ granted None (environment false) ls ∷ []) ∷ [])
    ≡ caution_at Setenv (place 0 1) ∷ caution_at Setenv (place 0 2) ∷ []
unfolding rule granted environment ls member
setenv = refl

-- the definition of an alias `X` of this kind, with this member
alias : Kind → ℕ → Atom → Entry
alias kind line atom = record {
  place = place 0 line;
  body = entries.Aliases kind (record { name = codes "X"; members = member atom ∷ [] } ∷ []);
}

-- `Cmnd_Alias X = ALL`, where a rule has an alias; not `Host_Alias X = ALL` and `Cmnd_Alias X = /bin/ls`
alias_of_all : entry_cautions Setenv (alias kinds.Cmnd 1 atoms.All ∷ alias kinds.Host 2 atoms.All ∷ alias kinds.Cmnd 3 ls
    ∷ rule 4 (granted None [] (atoms.Alias (codes "X")) ∷ []) ∷ []) ≡ caution_at Setenv (place 0 1) ∷ []
unfolding alias rule granted ls member
alias_of_all = refl

-- no rule has an alias
idle_alias : entry_cautions Setenv (alias kinds.Cmnd 1 atoms.All ∷ rule 2 (granted None [] ls ∷ []) ∷ []) ≡ []
unfolding alias rule granted ls member
idle_alias = refl

-- `(:adm) ALL`, and not `() ALL`, `(bob:adm) ALL` and `ALL`
group_form : entry_cautions GroupForm
    (rule 1 (granted (Some (record { users = None; groups = Some (member (atoms.Name (codes "adm")) ∷ []) })) [] atoms.All ∷ [])
    ∷ rule 2 (granted (Some (record { users = None; groups = None })) [] atoms.All ∷ [])
    ∷ rule 3 (granted (Some (record {
      users = Some (member (atoms.Name (codes "bob")) ∷ []);
      groups = Some (member (atoms.Name (codes "adm")) ∷ []);
    })) [] atoms.All ∷ [])
    ∷ rule 4 (granted None [] atoms.All ∷ []) ∷ []) ≡ caution_at GroupForm (place 0 1) ∷ []
unfolding rule granted member
group_form = refl

-- the definition of an alias of this name
alias_named : List ℕ → ℕ → Entry
alias_named name line = record {
  place = place 0 line;
  body = entries.Aliases kinds.Host (record { name = name; members = member atoms.All ∷ [] } ∷ []);
}

-- `CWD` is the name of an option, `CWDS` is not
reserved : entry_cautions Reserved (alias_named (codes "CWD") 1 ∷ alias_named (codes "CWDS") 2 ∷ []) ≡ caution_at Reserved (place 0 1) ∷ []
unfolding alias_named member
reserved = refl

-- `/usr/bin/[l/]s`, and not `/usr/[bs]bin/ls`
bracket_slash : list_cautions Bracket (list kinds.Cmnd 1 (atoms.Command (map plain (codes "/usr/bin/[l/]s")) None)
    ∷ list kinds.Cmnd 2 (atoms.Command (map plain (codes "/usr/[bs]bin/ls")) None) ∷ []) ≡ caution_at Bracket (place 0 1) ∷ []
unfolding list member
bracket_slash = refl

-- `[[\:name\:`
class : List ℕ → List Ch
class name = map plain (codes "[[") ++ escaped 58 ∷ map plain name ++ escaped 58 ∷ []

-- `/bin/ls [[=a=]]` and `/bin/ls [[\:word\:]]`, and not `/bin/ls [[\:upper\:]=]` and `/bin/ls [[\:Word\:]]`
bracket_class : list_cautions Bracket
    (list kinds.Cmnd 1 (command (map plain (codes "/bin/ls")) (map plain (codes "[[=a=]]")))
    ∷ list kinds.Cmnd 2 (command (map plain (codes "/bin/ls")) (class (codes "word") ++ map plain (codes "]]")))
    ∷ list kinds.Cmnd 3 (command (map plain (codes "/bin/ls")) (class (codes "upper") ++ map plain (codes "]=]")))
    ∷ list kinds.Cmnd 4 (command (map plain (codes "/bin/ls")) (class (codes "Word") ++ map plain (codes "]]"))) ∷ [])
    ≡ caution_at Bracket (place 0 1) ∷ caution_at Bracket (place 0 2) ∷ []
unfolding list member command class
bracket_class = refl

-- `[[\:upper\:]]`, and not `[[\:lower\:]]` and `"[[:upper:]]"`
bracket_host : list_cautions Bracket
    (list kinds.Host 1 (atoms.Host (class (codes "upper") ++ map plain (codes "]]")) false)
    ∷ list kinds.Host 2 (atoms.Host (class (codes "lower") ++ map plain (codes "]]")) false)
    ∷ list kinds.Host 3 (atoms.Host (map plain (codes "[[:upper:]]")) true) ∷ []) ≡ caution_at Bracket (place 0 1) ∷ []
unfolding list member class
bracket_host = refl

-- `/opt/ -a`, `/opt/x ^a` and `/opt/x a =`, and not `/opt/`, `/opt/x \^a` and `/opt/x a=b`
arguments : list_cautions Arguments
    (list kinds.Cmnd 1 (command (map plain (codes "/opt/")) (map plain (codes "-a")))
    ∷ list kinds.Cmnd 2 (command (map plain (codes "/opt/x")) (map plain (codes "^a")))
    ∷ list kinds.Cmnd 3 (command (map plain (codes "/opt/x")) (map plain (codes "a =")))
    ∷ list kinds.Cmnd 4 (atoms.Command (map plain (codes "/opt/")) None)
    ∷ list kinds.Cmnd 5 (command (map plain (codes "/opt/x")) (escaped 94 ∷ plain 97 ∷ []))
    ∷ list kinds.Cmnd 6 (command (map plain (codes "/opt/x")) (map plain (codes "a=b"))) ∷ [])
    ≡ caution_at Arguments (place 0 1) ∷ caution_at Arguments (place 0 2) ∷ caution_at Arguments (place 0 3) ∷ []
unfolding list member command
arguments = refl

-- an escape parts the pieces of arguments: `/opt/x a\,=` is read as two, and `/opt/x a\,=b` too
escaped_equals : list_cautions Arguments
    (list kinds.Cmnd 1 (command (map plain (codes "/opt/x")) (plain 97 ∷ escaped 44 ∷ plain 61 ∷ []))
    ∷ list kinds.Cmnd 2 (command (map plain (codes "/opt/x")) (plain 97 ∷ escaped 44 ∷ plain 61 ∷ plain 98 ∷ [])) ∷ [])
    ≡ caution_at Arguments (place 0 1) ∷ []
unfolding list member command
escaped_equals = refl

-- `(root : %adm) ALL`, and not `(%adm : adm) ALL`
group_of_users : entry_cautions GroupForm
    (rule 1 (granted (Some (record {
      users = Some (member (atoms.Name (codes "root")) ∷ []);
      groups = Some (member (atoms.Group (codes "adm")) ∷ []);
    })) [] atoms.All ∷ [])
    ∷ rule 2 (granted (Some (record {
      users = Some (member (atoms.Group (codes "adm")) ∷ []);
      groups = Some (member (atoms.Name (codes "adm")) ∷ []);
    })) [] atoms.All ∷ []) ∷ []) ≡ caution_at GroupForm (place 0 1) ∷ []
unfolding rule granted member
group_of_users = refl

-- two definitions of hosts on a line, each with this member
two_aliases : ℕ → Atom → Entry
two_aliases line atom = record {
  place = place 0 line;
  body = entries.Aliases kinds.Host
      (record { name = codes "X"; members = member atom ∷ [] } ∷ record { name = codes "Y"; members = member atom ∷ [] } ∷ []);
}

-- `Host_Alias X = MAIL : Y = MAIL`, and not `Host_Alias X = MAILS : Y = MAILS` and `Host_Alias X = MAIL`
tag : entry_cautions Reserved (two_aliases 1 (atoms.Alias (codes "MAIL")) ∷ two_aliases 2 (atoms.Alias (codes "MAILS"))
    ∷ alias kinds.Host 3 (atoms.Alias (codes "MAIL")) ∷ []) ≡ caution_at Reserved (place 0 1) ∷ []
unfolding two_aliases alias member
tag = refl

-- where the alias of hosts `X` is unused, of `Host_Alias X = ALL : Y = ALL` the list of `Y` decides, and the alias of users `X` does too
deciding : (deciding_in (definition_in kinds.Host (place 0 1) (record { name = codes "X"; members = [] }) ∷ []) (place 0 1)
    (entries.Aliases kinds.Host (record { name = codes "X"; members = [] } ∷ record { name = codes "Y"; members = [] } ∷ []))
    ≡ record { kind = kinds.Host; place = place 0 1; granting = false; members = [] } ∷ [])
    × (deciding_in (definition_in kinds.Host (place 0 1) (record { name = codes "X"; members = [] }) ∷ []) (place 0 1)
    (entries.Aliases kinds.User (record { name = codes "X"; members = [] } ∷ []))
    ≡ record { kind = kinds.User; place = place 0 1; granting = false; members = [] } ∷ [])
deciding = (refl, refl)

-- a command without arguments on a line
noting : ℕ → List ℕ → MemberList
noting line path = list kinds.Cmnd line (atoms.Command (map plain path) None)

-- note by note, one caution for each line; none for another path, nor for a list of other kind
depends : noted_cautions (noting 1 (codes "/t[z-a]") ∷ noting 2 (codes "/c[z-a]") ∷ noting 2 (codes "/d[z-a]") ∷ noting 2 (codes "/d[z-a]")
    ∷ noting 3 (codes "/r[z-a]") ∷ noting 3 (codes "/d[z-b]") ∷ noting 4 (codes "/e[z-a]") ∷ noting 5 (codes "/d[z-a]") ∷ [])
    ≡ note_caution Digest (place 0 2) ∷ note_caution Digest (place 0 5) ∷ note_caution Time (place 0 1)
    ∷ note_caution Chroot (place 0 2) ∷ note_caution Regex (place 0 3) ∷ []
unfolding noting list member
depends = refl

-- none with arguments, nor with an escaped bracket
no_depends : noted_cautions (list kinds.Cmnd 1 (command (map plain (codes "/d[z-a]")) []) ∷ list kinds.Cmnd 2 (atoms.Command
    (map plain (codes "/d") ++ escaped 91 ∷ map plain (codes "z-a]")) None) ∷ []) ≡ []
unfolding list member command
no_depends = refl

-- the paths of notes have no construct of another class, nor do they lie below a usual link
depends_alone : (note : Note) → linked_cautions usual_links (noting 1 (note_path note) ∷ [])
    ++ list_cautions Caret (noting 1 (note_path note) ∷ []) ++ list_cautions Escape (noting 1 (note_path note) ∷ [])
    ++ list_cautions Sudoedit (noting 1 (note_path note) ∷ []) ++ list_cautions Bracket (noting 1 (note_path note) ∷ [])
    ++ list_cautions Arguments (noting 1 (note_path note) ∷ []) ≡ []
unfolding noting list member
depends_alone Digest = refl
depends_alone Time = refl
depends_alone Chroot = refl
depends_alone Regex = refl
