use Rattle.std.proofs.Common.{◌≡◌, map, take, Some}
use Rattle.sudo_match.specs.Body.Indexing.{group_there}
use Rattle.sudo_match.specs.KnownRows.{groups_of}
use Rattle.sudo_match.proofs.PositionLemmas.{SpotsTo}
use Rattle.sudo_match.proofs.positions.positions_of.Given as goal

abbrev pub invariant-loop-at : goal.invariant-loop-at
invariant-loop-at l = SpotsTo l.people l.positions.items l.user l.at

abbrev pub invariant-loop-user : goal.invariant-loop-user
invariant-loop-user l = map (group_there l.people) l.positions.items ≡ map Some (groups_of (take l.user l.people))
