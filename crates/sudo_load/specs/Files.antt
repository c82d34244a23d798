-- The entries of one file.
use Rattle.std.specs.Prelude.{◌≡◌, ℕ, List, Result, Ok, Err, ◌⊎◌}
use Rattle.sudo_text.specs.declared.line.Line.{Line}
use Rattle.sudo_text.specs.declared.fault.TextFault.{TextFault}
use Rattle.sudo_text.specs.Lines.{lines_of}
use Rattle.sudo_grammar.specs.declared.policy.Entry.{Entry}
use Rattle.sudo_grammar.specs.declared.fault.ParseFault.{ParseFault}
use Rattle.sudo_grammar.specs.declared.fault.ParseFault.TheVariants as faults
use Rattle.sudo_parser.specs.Parsed.{AreEntries, IsFirstFault}

-- the file with this number has these entries, or this fault
abbrev pub HasContent : ℕ → List ℕ → Result (List Entry) ParseFault → Type 0
HasContent file text (Ok entries) = (lines : List Line) × (lines_of file text ≡ Ok lines) × AreEntries lines entries
HasContent file text (Err fault) =
    ((why : TextFault) × (lines_of file text ≡ Err why) × (fault ≡ faults.Text why))
    ⊎ ((lines : List Line) × (lines_of file text ≡ Ok lines) × IsFirstFault lines fault)
