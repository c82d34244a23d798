-- The entries of a file's lines, or the first fault of lines that have none. sudoers(5), "SUDOERS FILE FORMAT". Only
-- proofs of bodies use these.
use Rattle.std.specs.Prelude.{◌≡◌, ◌+◌, List, ◌++◌, Option}
use Rattle.std.specs.Prelude.{Result, Ok, Err}
use Rattle.sudo_text.specs.declared.line.Line.{Line}
use Rattle.sudo_text.specs.declared.fault.TextFault.{TextFault}
use Rattle.sudo_text.specs.declared.fault.TextFault.TheVariants as texts
use Rattle.sudo_grammar.specs.declared.policy.Entry.{Entry}
use Rattle.sudo_grammar.specs.declared.policy.EntryBody.{EntryBody}
use Rattle.sudo_grammar.specs.declared.fault.ParseFault.{ParseFault}
use Rattle.sudo_grammar.specs.declared.fault.ParseFault.TheVariants as faults
use Rattle.sudo_parser.specs.Parsed.{room_after, IsEntryOf, entry_of}

-- a fault of a text, as one of a policy
abbrev pub text_fault : TextFault → ParseFault
text_fault texts.Memory = faults.Memory
text_fault fault = faults.Text fault

-- the result is this value, or allocation failed
abbrev pub GivesOr : {X : Type 0} → X → Result X ParseFault → Type 0
GivesOr x (Ok given) = given ≡ x
GivesOr x (Err fault) = fault ≡ faults.Memory

-- a line's entry, if any, is appended to those before
abbrev pub Adds : List Entry → Line → List Entry → Type 0
Adds before line entries = (line_entry : Option EntryBody) × IsEntryOf (room_after before) line line_entry
    × (entries ≡ before ++ entry_of line line_entry)
