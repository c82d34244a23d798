use Rattle.std.proofs.Common.{◌≡◌, drop}
use Rattle.sudo_match.specs.Body.Beginnings.{is_named_otherwise}
use Rattle.sudo_match.proofs.beginning.same_letters.Given as goal

-- the characters passed are the name's letters
abbrev pub invariant-loop-at : goal.invariant-loop-at
invariant-loop-at l = is_named_otherwise l.chars l.name ≡ is_named_otherwise (drop l.at l.chars) (drop l.at l.name)
