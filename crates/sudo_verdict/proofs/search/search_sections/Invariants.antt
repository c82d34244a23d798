use Rattle.std.proofs.Common.{◌≡◌, IsTrue, map, length, take}
use Rattle.std.specs.List.{list_all}
use Rattle.sudo_policy.specs.Body.Resolving.{section_resolves}
use Rattle.sudo_verdict.specs.Last.{last_set}
use Rattle.sudo_verdict.specs.Body.Queries.{question}
use Rattle.sudo_verdict.specs.Found.{section_found}
use Rattle.sudo_verdict.proofs.search.search_sections.Given as goal

-- the sections passed decide nothing
abbrev pub invariant-loop-section : goal.invariant-loop-section
invariant-loop-section l = record {
  resolve : IsTrue (list_all (section_resolves l.lists.checked.now) l.left);
  front : l.left ≡ take (length l.left) l.sections;
  same : last_set (map (section_found l.lists.checked.now (question l.query) l.place) l.sections) ≡ last_set
      (map (section_found l.lists.checked.now (question l.query) l.place) l.left);
}

abbrev pub decreases-loop-section : goal.decreases-loop-section
decreases-loop-section l = length l.left
