use Rattle.std.proofs.Common.{◌≡◌, ◌++◌, map, drop}
use Rattle.sudo_policy.specs.Definitions.{lists_of_list, list_view}
use Rattle.sudo_policy.proofs.survey.push_defined.Given as goal

abbrev pub invariant-loop-definition : goal.invariant-loop-definition
invariant-loop-definition l = map list_view l.all.items ++ lists_of_list l.kind l.place
    (drop l.definition-index l.definitions) ≡ map list_view l.initial.all.items ++ lists_of_list l.kind l.place l.definitions
