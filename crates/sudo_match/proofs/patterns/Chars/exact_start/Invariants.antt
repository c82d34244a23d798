use Rattle.std.proofs.Common.{None}
use Rattle.sudo_match.specs.Reading.{seen}
use Rattle.sudo_match.specs.Body.Reading.{text_of}
use Rattle.sudo_match.proofs.StepLemmas.{Keeps}
use Rattle.sudo_match.proofs.patterns.Chars.exact_start.Given as goal

abbrev pub invariant-loop-at : goal.invariant-loop-at
invariant-loop-at l = Keeps l.fn.slash (seen l.self) (text_of l.text) l.at l.at None
