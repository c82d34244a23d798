use Rattle.std.proofs.Common.{◌≡◌, ◌≤◌, length, map, take}
use Rattle.sudo_verdict.specs.Last.{last_set}
use Rattle.sudo_verdict.specs.Body.Queries.{question}
use Rattle.sudo_verdict.specs.Found.{entry_found}
use Rattle.sudo_verdict.proofs.index.rule_index.search_indexed.Given as goal

-- the entries from the end on decide nothing
abbrev pub invariant-loop-end : goal.invariant-loop-end
invariant-loop-end l = record {
  within : l.end ≤ length l.lists.checked.now.entries;
  same : last_set (map (entry_found l.lists.checked.now (question l.query)) l.lists.checked.now.entries) ≡ last_set
      (map (entry_found l.lists.checked.now (question l.query)) (take l.end l.lists.checked.now.entries));
}

abbrev pub decreases-loop-end : goal.decreases-loop-end
decreases-loop-end l = l.end
