use Rattle.std.proofs.Common.{◌≡◌, ◌++◌, map, drop}
use Rattle.std.specs.Prelude.{flat_map}
use Rattle.sudo_policy.specs.Body.DefinitionRef.{granting_row}
use Rattle.sudo_policy.specs.Definitions.{list_view}
use Rattle.sudo_policy.proofs.survey.roots.Given as goal

abbrev pub invariant-loop-list : goal.invariant-loop-list
invariant-loop-list l = l.roots.items ++ flat_map (granting_row l.index) (map list_view (drop l.list-index l.lists))
    ≡ flat_map (granting_row l.index) (map list_view l.lists)
