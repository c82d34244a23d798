use Rattle.std.proofs.Common.{◌≡◌, ◌++◌, map, drop}
use Rattle.std.specs.Prelude.{flat_map}
use Rattle.sudo_policy.specs.Body.Judgement.{missing_in}
use Rattle.sudo_policy.specs.Definitions.{list_view}
use Rattle.sudo_policy.proofs.examination.undefined.Given as goal

abbrev pub invariant-loop-list : goal.invariant-loop-list
invariant-loop-list l = l.findings.items ++ flat_map (missing_in l.index) (map list_view (drop l.list-index l.lists))
    ≡ flat_map (missing_in l.index) (map list_view l.lists)
