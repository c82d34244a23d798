use Rattle.std.proofs.Common.{◌++◌, drop, take}
use Rattle.sudo_match.specs.KnownRows.{KnownRows}
use Rattle.review_roots.specs.Body.Candidates.{AreCandidates, states_of}
use Rattle.review_roots.specs.Order.{IsInOrder}
use Rattle.review_roots.specs.Body.Naming.{IsBase}
use Rattle.review_roots.proofs.rules.gather.Given as goal

abbrev pub invariant-loop-state : goal.invariant-loop-state
invariant-loop-state l = record {
  base : IsBase l.ground.checked.now l.ground.directory.now l.ground.blocks.now l.base;
  gathered : AreCandidates l.ground.checked.now l.ground.directory.now l.ground.groups.now l.ground.least l.ground.blocks.now
      (take l.state-index l.states) l.gathered.candidates.items;
  order : (d : KnownRows) → IsInOrder d l.states → IsInOrder d (states_of l.gathered.candidates.items ++ drop l.state-index l.states);
}
