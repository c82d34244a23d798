use Rattle.std.proofs.Common.{◌≡◌, ◌++◌, drop}
use Rattle.review_cautions.specs.Cautions.{parameter_cautions}
use Rattle.review_cautions.proofs.defaults.push_parameters.Given as goal

abbrev pub invariant-loop-parameter : goal.invariant-loop-parameter
invariant-loop-parameter l = l.found.items ++ parameter_cautions l.place (drop l.parameter-index l.parameters)
    ≡ l.initial.found.items ++ parameter_cautions l.place l.parameters
