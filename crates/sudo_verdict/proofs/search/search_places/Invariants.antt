use Rattle.std.proofs.Common.{◌≡◌, true, false, IsTrue, take, length}
use Rattle.std.specs.List.{list_all}
use Rattle.sudo_policy.specs.Body.Resolving.{command_resolves}
use Rattle.sudo_verdict.specs.Body.Queries.{question}
use Rattle.sudo_verdict.specs.RunasForms.{runas_allows}
use Rattle.sudo_verdict.specs.Tagged.{runas_before}
use Rattle.sudo_verdict.specs.Found.{commands_found}
use Rattle.sudo_verdict.proofs.search.search_places.Given as goal

-- the places passed decide nothing
abbrev pub invariant-loop-spec : goal.invariant-loop-spec
invariant-loop-spec l = record {
  refused : l.refused ≡ true → runas_allows l.lists.checked.now (question l.query) (runas_before l.left) ≡ false;
  front : l.left ≡ take (length l.left) l.commands;
  resolve : IsTrue (list_all (command_resolves l.lists.checked.now) l.left);
  same : commands_found l.lists.checked.now (question l.query) l.place l.commands (length l.commands) ≡ commands_found
      l.lists.checked.now (question l.query) l.place l.commands (length l.left);
}

abbrev pub decreases-loop-spec : goal.decreases-loop-spec
decreases-loop-spec l = length l.left
