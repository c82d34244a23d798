-- The file in which a fault lies: its number is that of one of the files that were read.
use Rattle.std.specs.Prelude.{ℕ, ◌<◌, length, Option, None, Some, ⊤}
use Rattle.sudo_text.specs.declared.fault.TextFault.{TextFault}
use Rattle.sudo_text.specs.declared.fault.TextFault.TheVariants as texts
use Rattle.sudo_grammar.specs.declared.fault.ParseFault.{ParseFault}
use Rattle.sudo_grammar.specs.declared.fault.ParseFault.TheVariants as parses
use Rattle.sudo_load.specs.declared.fault.LoadFault.{LoadFault}
use Rattle.sudo_load.specs.declared.fault.LoadFault.TheVariants as faults
use Rattle.sudo_load.specs.Unfolding.{Refusal}

-- the number of the file that a fault of a text names, if any
abbrev pub text_file : TextFault → Option ℕ
text_file (texts.BadQuote place col) = Some place.file
text_file (texts.BadHex place col) = Some place.file
text_file (texts.BadEscape place col) = Some place.file
text_file (texts.NotPrintable place col) = Some place.file
text_file (texts.TooLong file) = Some file
text_file texts.Memory = None

-- the number of the file that a fault of lines names, if any
abbrev pub parse_file : ParseFault → Option ℕ
parse_file (parses.Syntax place col expected) = Some place.file
parse_file (parses.Unsupported place what) = Some place.file
parse_file (parses.NotCommand place col) = Some place.file
parse_file (parses.BadNumber place col) = Some place.file
parse_file (parses.TooMany place) = Some place.file
parse_file (parses.Text fault) = text_file fault
parse_file parses.Memory = None

-- the number of the file that a fault of loading names, if any
abbrev pub fault_file : LoadFault → Option ℕ
fault_file (faults.Parse fault) = parse_file fault
fault_file (faults.TooNested place) = Some place.file
fault_file (faults.TooMany place) = Some place.file
fault_file (faults.Wanted want) = None
fault_file (faults.Missing place path) = Some place.file
fault_file faults.Memory = None

-- a number, if any, is below n
abbrev pub IsBelow : ℕ → Option ℕ → Type 0
IsBelow n None = ⊤
IsBelow n (Some file) = file < n

-- a fault lies in one of the files that were read
abbrev pub IsInFiles : Refusal → Type 0
IsInFiles refusal = IsBelow (length refusal.0) (fault_file refusal.1)
