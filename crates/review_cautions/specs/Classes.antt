-- The classes of cautions: their names, and the texts that explain them.
use Rattle.std.specs.Prelude.{ℕ, List, [], ◌∷◌, codes}
use Rattle.review_cautions.specs.declared.class.CautionClass.{CautionClass}
use Rattle.review_cautions.specs.declared.class.CautionClass.TheVariants.{Return, BlankAfterBackslash, Join, TornMark}
use Rattle.review_cautions.specs.declared.class.CautionClass.TheVariants.{IncludeEscape, IncludeIndent, Comment, EmptyGroup}
use Rattle.review_cautions.specs.declared.class.CautionClass.TheVariants.{Caret, Escape, Case, QuotedHost, QuotedEscape, Linked, Defaults}
use Rattle.review_cautions.specs.declared.class.CautionClass.TheVariants.{UnknownParameter, Sudoedit, Network, Bracket}
use Rattle.review_cautions.specs.declared.class.CautionClass.TheVariants.{Setenv, GroupForm, Reserved, Arguments, Depends}

-- the classes, in the order in which they are listed
abbrev pub classes : List CautionClass
classes = Return ∷ BlankAfterBackslash ∷ Join ∷ TornMark ∷ IncludeEscape ∷ IncludeIndent ∷ Comment ∷ EmptyGroup ∷ Caret
    ∷ Escape ∷ Case ∷ QuotedHost ∷ QuotedEscape ∷ Linked ∷ Defaults ∷ UnknownParameter ∷ Sudoedit ∷ Network ∷ Bracket
    ∷ Setenv ∷ GroupForm ∷ Reserved ∷ Arguments ∷ Depends ∷ []

-- the name of a class
abbrev pub class_name : CautionClass → List ℕ
class_name Return = codes "return"
class_name BlankAfterBackslash = codes "blank-after-backslash"
class_name Join = codes "join"
class_name TornMark = codes "torn-mark"
class_name IncludeEscape = codes "include-escape"
class_name IncludeIndent = codes "include-indent"
class_name Comment = codes "comment"
class_name EmptyGroup = codes "empty-group"
class_name Caret = codes "caret"
class_name Escape = codes "escape"
class_name Case = codes "case"
class_name QuotedHost = codes "quoted-host"
class_name QuotedEscape = codes "quoted-escape"
class_name Linked = codes "linked"
class_name Defaults = codes "defaults"
class_name UnknownParameter = codes "unknown-parameter"
class_name Sudoedit = codes "sudoedit"
class_name Network = codes "network"
class_name Bracket = codes "bracket"
class_name Setenv = codes "setenv"
class_name GroupForm = codes "group-form"
class_name Reserved = codes "reserved"
class_name Arguments = codes "arguments"
class_name Depends = codes "depends"

-- what the reader does with the construct, and what sudo does
abbrev pub class_text : CautionClass → List ℕ
class_text Return = codes "a carriage return ends the line: dropped here, for sudo a byte of the line"
class_text BlankAfterBackslash =
    codes "blanks stand between the last backslash and the end of the line: an escaped blank here, for sudo a join of two lines"
class_text Join = codes "lines are joined inside a word: nothing stands between them here, for sudo a blank"
class_text TornMark = codes "lines are joined where sudo does not join them: read here, refused by sudo"
class_text IncludeEscape =
    codes "an include line has a backslash: read here as everywhere, for sudo a part of the path"
class_text IncludeIndent = codes "blanks stand before #include: the file is read here, for sudo the line is a comment"
class_text Comment =
    codes "a number or a carriage return stands behind the # of a comment: a comment here, none for sudo, which mostly refuses it"
class_text EmptyGroup = codes "a runas has users, a colon and no group behind it: as without the colon here, refused by sudo"
class_text Caret = codes "`[^` begins a bracket: `^` is one of its characters here, for sudo a complement"
class_text Escape = codes "an escape is read otherwise by sudo: as a wildcard, as an ID, as two characters, or refused"
class_text Case = codes "a name has a capital letter: letter case counts here, not for sudo"
class_text QuotedHost = codes "a quoted host has a wildcard: it stands for itself here, for sudo it is a pattern"
class_text QuotedEscape =
    codes "a backslash stands between double quotes: an escape here, for sudo a byte of the name"
class_text Linked =
    codes "a command is below a folder that is a link on most machines: two paths here, for sudo one file"
class_text Defaults = codes "decides for sudo, has no effect here"
class_text UnknownParameter =
    codes "sudo 1.9 has no such parameter: passed over here in silence, by sudo with a warning"
class_text Sudoedit = codes "a path ends in sudoedit: a program here, for sudo the editing of files"
class_text Network =
    codes "an address is read otherwise by sudo: a mask of 0, a zero in front of a number, or an address of the loopback"
class_text Bracket = codes "a bracket is read otherwise by sudo: a slash, a class or an equivalence stands in it"
class_text Setenv =
    codes "SETENV is given otherwise: ALL has it for sudo whatever the tag, an alias of ALL has it here alone"
class_text GroupForm =
    codes "a runas names no user, which sudo allows only where a group is asked for, or a group by %, which it refuses"
class_text Reserved =
    codes "an alias has the name of an option, or of a tag before a colon: read here, reserved for sudo, which refuses the line"
class_text Arguments =
    codes "arguments stand behind a folder, begin with ^, or one is = alone: arguments here, mostly refused by sudo"
class_text Depends = codes "sudo asks for it too: not judged here"
