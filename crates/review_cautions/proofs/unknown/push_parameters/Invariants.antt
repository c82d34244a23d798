use Rattle.std.proofs.Common.{◌≡◌, ◌++◌, take}
use Rattle.review_cautions.specs.Cautions.{unknown_parameters}
use Rattle.review_cautions.proofs.unknown.push_parameters.Given as goal

abbrev pub invariant-loop-parameter : goal.invariant-loop-parameter
invariant-loop-parameter l = l.found.items ≡ l.initial.found.items ++ unknown_parameters l.place (take l.parameter-index l.parameters)
