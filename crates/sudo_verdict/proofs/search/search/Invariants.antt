use Rattle.std.proofs.Common.{◌≡◌, IsTrue, map, length}
use Rattle.std.specs.List.{list_all}
use Rattle.sudo_verdict.specs.Body.Resolved.{body_resolves}
use Rattle.sudo_verdict.specs.Last.{last_set}
use Rattle.sudo_verdict.specs.Body.Queries.{question}
use Rattle.sudo_verdict.specs.Found.{entry_found}
use Rattle.sudo_verdict.proofs.search.search.Given as goal

-- the entries passed decide nothing
abbrev pub invariant-loop-entry : goal.invariant-loop-entry
invariant-loop-entry l = record {
  resolve : IsTrue (list_all (λ e. body_resolves l.lists.checked.now e.body) l.left);
  same : last_set (map (entry_found l.lists.checked.now (question l.query)) l.lists.checked.now.entries) ≡ last_set
      (map (entry_found l.lists.checked.now (question l.query)) l.left);
}

abbrev pub decreases-loop-entry : goal.decreases-loop-entry
decreases-loop-entry l = length l.left
