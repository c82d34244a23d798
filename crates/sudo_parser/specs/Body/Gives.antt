-- The results of the parser's functions, compared with definitions, up to allocation failure.
use Rattle.std.specs.Prelude.{◌≡◌, Result, Ok, Err}
use Rattle.sudo_parser.specs.declared.members.MemberFault.{MemberFault}
use Rattle.sudo_parser.specs.declared.members.MemberFault.TheVariants as declines
use Rattle.sudo_grammar.specs.declared.fault.Refusal.{Refusal}

abbrev pub Declines : {X : Type 0} → MemberFault → Result X Refusal → Type 0
Declines (declines.Refused refusal) given = given ≡ Err refusal
Declines declines.Memory given = Unit {0}

-- the result is the given one, or allocation failed
abbrev pub AgreesWith : {X : Type 0} → Result X MemberFault → Result X Refusal → Type 0
AgreesWith (Ok x) given = given ≡ Ok x
AgreesWith (Err e) given = Declines e given
