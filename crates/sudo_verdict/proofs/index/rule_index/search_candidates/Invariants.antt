use Rattle.std.proofs.Common.{◌≡◌, ◌+◌, ◌≤◌, map, take}
use Rattle.sudo_verdict.specs.Last.{last_set}
use Rattle.sudo_verdict.specs.Body.Queries.{question}
use Rattle.sudo_verdict.specs.Found.{entry_found}
use Rattle.sudo_verdict.proofs.index.rule_index.search_candidates.Given as goal

-- the entries from there on decide nothing
abbrev pub invariant-loop-left : goal.invariant-loop-left
invariant-loop-left l = record {
  within : l.start + l.left ≤ l.end;
  same : last_set (map (entry_found l.lists.checked.now (question l.query)) (take l.end l.lists.checked.now.entries))
      ≡ last_set (map (entry_found l.lists.checked.now (question l.query)) (take (l.start + l.left) l.lists.checked.now.entries));
}

abbrev pub decreases-loop-left : goal.decreases-loop-left
decreases-loop-left l = l.left
