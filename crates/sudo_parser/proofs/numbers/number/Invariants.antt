use Rattle.sudo_parser.proofs.Digits.{IsReadUpTo}
use Rattle.sudo_parser.proofs.numbers.number.Given as goal

abbrev pub invariant-loop-b : goal.invariant-loop-b
invariant-loop-b l = IsReadUpTo l.bytes l.value l.b-index
