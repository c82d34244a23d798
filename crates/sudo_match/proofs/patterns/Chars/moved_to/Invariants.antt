use Rattle.std.proofs.Common.{◌-◌}
use Rattle.sudo_match.specs.Reading.{seen}
use Rattle.sudo_match.specs.Body.Closing.{Knows}
use Rattle.sudo_match.proofs.patterns.Chars.moved_to.Given as goal

abbrev pub invariant-loop-known : goal.invariant-loop-known
invariant-loop-known l = Knows (seen l.self) l.known

abbrev pub decreases-loop-known : goal.decreases-loop-known
decreases-loop-known l = l.to - l.known.at
