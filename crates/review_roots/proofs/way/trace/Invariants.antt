use Rattle.std.proofs.Common.{◌<◌, length}
use Rattle.std.specs.Prelude.{All}
use Rattle.std.specs.List.{Contains}
use Rattle.review_roots.specs.Body.Found.{found_states}
use Rattle.review_roots.proofs.FirstLemmas.{AlongSoFar}
use Rattle.review_roots.proofs.WayLemmas.{AsksSoFar, LeadsSoFar, MarksSoFar, RowSoFar}
use Rattle.review_roots.proofs.way.trace.Given as goal

abbrev pub invariant-loop-at : goal.invariant-loop-at
invariant-loop-at l = record {
  inside : l.at < length l.found;
  so_far : LeadsSoFar l.found l.index l.at l.chain.items;
  along : AlongSoFar l.found l.index l.at l.chain.items;
  within : All (Contains (found_states l.found)) l.chain.items;
  row : RowSoFar l.found l.index l.at l.chain.items;
  marks : MarksSoFar l.found l.index l.at l.chain.items l.marks;
  asks : AsksSoFar l.found l.user l.index l.at l.chain.items l.password;
}

-- each step leads further back
abbrev pub decreases-loop-at : goal.decreases-loop-at
decreases-loop-at l = l.at
