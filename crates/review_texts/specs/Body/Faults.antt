-- What a fault names that can be masked; only proofs of bodies use it.
use Rattle.std.specs.Prelude.{◌≡◌, ℕ}
use Rattle.sudo_text.specs.declared.line.Place.{Place}
use Rattle.sudo_grammar.specs.declared.fault.Expected.{Expected}
use Rattle.sudo_grammar.specs.declared.fault.ParseFault.{ParseFault}
use Rattle.sudo_grammar.specs.declared.fault.ParseFault.TheVariants as faults
use Rattle.review_texts.specs.declared.mask.Form.{Form}
use Rattle.review_texts.specs.declared.mask.Form.TheVariants as what

-- the fault is one by this name, or a syntax error
abbrev pub IsFormOf : ParseFault → Form → Type 0
IsFormOf fault (what.Named form) = (place : Place) × (fault ≡ faults.Unsupported place form)
IsFormOf fault what.Ipv6 = (place : Place) × (column : ℕ) × (expected : Expected) × (fault ≡ faults.Syntax place column expected)
