-- The texts of faults of a policy, as a program prints them.
use Rattle.std.specs.Prelude.{ℕ, List, [], ◌++◌, Option, None, Some, codes, decimal}
use Rattle.sudo_load.specs.declared.fault.LoadFault.{LoadFault}
use Rattle.sudo_load.specs.declared.fault.LoadFault.TheVariants as loads
use Rattle.sudo_load.specs.declared.fault.Want.{Want}
use Rattle.sudo_load.specs.declared.fault.Want.TheVariants as wants
use Rattle.sudo_text.specs.declared.fault.TextFault.{TextFault}
use Rattle.sudo_text.specs.declared.fault.TextFault.TheVariants as texts
use Rattle.sudo_text.specs.declared.line.Place.{Place}
use Rattle.sudo_grammar.specs.declared.fault.Expected.{Expected}
use Rattle.sudo_grammar.specs.declared.fault.Expected.TheVariants as expecteds
use Rattle.sudo_grammar.specs.declared.fault.ParseFault.{ParseFault}
use Rattle.sudo_grammar.specs.declared.fault.ParseFault.TheVariants as parses
use Rattle.sudo_grammar.specs.declared.fault.Unsupported.{Unsupported}
use Rattle.sudo_grammar.specs.declared.fault.Unsupported.TheVariants as unsupporteds
use Rattle.audit_files.specs.Places.{path_of, place_text}
use Rattle.review_hints.specs.Hints.{hint_of}
use Rattle.run_base.specs.declared.obstacle.Obstacle.{Obstacle}
use Rattle.run_base.specs.declared.obstacle.Obstacle.TheVariants as obstacles

abbrev pub no_memory : List ℕ
no_memory = codes "out of memory"

abbrev pub cannot_read : List ℕ → List ℕ
cannot_read path = codes "cannot read " ++ path

-- why a path cannot be read, behind the path
abbrev pub reason_text : Obstacle → List ℕ
reason_text obstacles.NotFound = codes ": no such file"
reason_text obstacles.PermissionDenied = codes ": permission denied"
reason_text obstacles.IsFolder = codes ": is a folder"
reason_text obstacles.NotFolder = codes ": not a folder"
reason_text obstacles.NotFile = codes ": not a regular file"
reason_text obstacles.NotText = codes ": name is not UTF-8"
reason_text (obstacles.LeadsOut folder) = codes ": leads out of " ++ folder
reason_text obstacles.TooManyLinks = codes ": too many symbolic links"
reason_text obstacles.Other = []

-- `cannot read PATH`, and why
abbrev pub cannot_read_since : List ℕ → Obstacle → List ℕ
cannot_read_since path why = cannot_read path ++ reason_text why

-- the text of an expected form
abbrev pub expected_text : Expected → List ℕ
expected_text expecteds.AliasName = codes "alias name"
expected_text expecteds.Equals = codes "="
expected_text expecteds.Member = codes "member"
expected_text expecteds.Command = codes "command"
expected_text expecteds.RightParen = codes ")"
expected_text expecteds.Parameter = codes "parameter"
expected_text expecteds.Value = codes "value"
expected_text expecteds.Path = codes "path"
expected_text expecteds.EndOfLine = codes "end of line"

-- the text of an unsupported form
abbrev pub unsupported_text : Unsupported → List ℕ
unsupported_text unsupporteds.Netgroup = codes "netgroup"
unsupported_text unsupporteds.Digest = codes "digest"
unsupported_text unsupporteds.RegularExpression = codes "regular expression"
unsupported_text unsupporteds.NonUnixGroup = codes "non-Unix group"
unsupported_text unsupporteds.CommandOption = codes "option"
unsupported_text unsupporteds.List = codes "list"
unsupported_text unsupporteds.HostEscape = codes "%h"

-- `PATH:LINE: ` and a fault
abbrev pub at_line : List (List ℕ) → Place → List ℕ → List ℕ
at_line files place what = place_text files place ++ codes ": " ++ what

-- `PATH:LINE:COLUMN: ` and a fault
abbrev pub at_column : List (List ℕ) → Place → ℕ → List ℕ → List ℕ
at_column files place col what = place_text files place ++ codes ":" ++ decimal col ++ codes ": " ++ what

-- the fault of a text
abbrev pub text_fault_text : List (List ℕ) → TextFault → List ℕ
text_fault_text files (texts.BadQuote place col) = at_column files place col (codes "bad quote")
text_fault_text files (texts.BadHex place col) = at_column files place col (codes "bad hexadecimal")
text_fault_text files (texts.BadEscape place col) = at_column files place col (codes "bad escape")
text_fault_text files (texts.NotPrintable place col) = at_column files place col (codes "not printable")
text_fault_text files (texts.TooLong file) = path_of files file ++ codes ": text too long"
text_fault_text files texts.Memory = no_memory

-- the fault of a policy file
abbrev pub parse_fault_text : List (List ℕ) → ParseFault → List ℕ
parse_fault_text files (parses.Syntax place col expected) =
    at_column files place col (codes "syntax error, expected ") ++ expected_text expected
parse_fault_text files (parses.Unsupported place what) = at_line files place (codes "unsupported ") ++ unsupported_text what
parse_fault_text files (parses.NotCommand place col) = at_column files place col (codes "not a command")
parse_fault_text files (parses.BadNumber place col) = at_column files place col (codes "bad number")
parse_fault_text files (parses.TooMany place) = at_line files place (codes "too many aliases")
parse_fault_text files (parses.Text fault) = text_fault_text files fault
parse_fault_text files parses.Memory = no_memory

-- the path of a needed file or folder
abbrev pub wanted_path : Want → List ℕ
wanted_path (wants.File path) = path
wanted_path (wants.Folder path) = path

-- the hint at a fault of a policy's lines, given the text of the file in which it is
abbrev pub hint_in : Option (List ℕ) → ParseFault → Option (List ℕ)
hint_in None fault = None
hint_in (Some text) fault = hint_of text fault

-- the hint at a fault of a policy, given the text of the file in which it is
abbrev pub hint_at_fault : Option (List ℕ) → LoadFault → Option (List ℕ)
hint_at_fault text (loads.Parse fault) = hint_in text fault
hint_at_fault text (loads.TooNested place) = None
hint_at_fault text (loads.TooMany place) = None
hint_at_fault text (loads.Missing place path) = None
hint_at_fault text (loads.Wanted want) = None
hint_at_fault text loads.Memory = None

-- the fault of a policy, given the paths of the files that were read
abbrev pub load_fault_text : List (List ℕ) → LoadFault → List ℕ
load_fault_text files (loads.Parse fault) = parse_fault_text files fault
load_fault_text files (loads.TooNested place) = at_line files place (codes "includes too deep")
load_fault_text files (loads.TooMany place) = at_line files place (codes "too many files")
load_fault_text files (loads.Missing place path) = at_line files place (codes "missing ") ++ path
load_fault_text files (loads.Wanted want) = cannot_read (wanted_path want)
load_fault_text files loads.Memory = no_memory
