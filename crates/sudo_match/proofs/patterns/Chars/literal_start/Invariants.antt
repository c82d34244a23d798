use Rattle.std.proofs.Common.{◌≤◌, ◌-◌, length, None}
use Rattle.sudo_match.specs.Reading.{seen}
use Rattle.sudo_match.specs.Body.Reading.{text_of}
use Rattle.sudo_match.proofs.StepLemmas.{Keeps}
use Rattle.sudo_match.proofs.patterns.Chars.literal_start.Given as goal

abbrev pub invariant-loop-ch : goal.invariant-loop-ch
invariant-loop-ch l = record {
  within : l.at ≤ length (seen l.self);
  keeps : Keeps l.fn.slash (seen l.self) (text_of l.text) l.at l.at None;
}

abbrev pub decreases-loop-ch : goal.decreases-loop-ch
decreases-loop-ch l = length (seen l.self) - l.at
