use Rattle.std.proofs.Common.{◌≡◌, ◌++◌, map, not, take}
use Rattle.std.specs.Prelude.{filter, is_some}
use Rattle.std.specs.List.{filter_map}
use Rattle.review_roots.specs.Body.Found.{first_of}
use Rattle.review_roots.proofs.layer.draw.Given as goal

abbrev pub invariant-loop-candidate : goal.invariant-loop-candidate
invariant-loop-candidate l = record {
  kept : map (λ c. c.now) l.kept.items
      ≡ filter (λ c. not (is_some (first_of l.steps (map (λ a. a.aim) l.layer.aims.items) c)))
      (map (λ c. c.now) (take l.candidate-index l.left));
  found : l.found.items ≡ l.initial.found.items
      ++ filter_map (first_of l.steps (map (λ a. a.aim) l.layer.aims.items)) (map (λ c. c.now) (take l.candidate-index l.left));
}
