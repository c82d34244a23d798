-- The arrivals among the outcomes that workers put.
use Rattle.std.specs.Prelude.{List, [], ◌∷◌}
use Rattle.audit_collect.specs.declared.arrival.Arrival.{Arrival}
use Rattle.audit_run.specs.declared.message.Outcome.{Outcome}
use Rattle.audit_run.specs.declared.message.Outcome.TheVariants.{Arrived, End, Stopped}

-- the arrivals among the outcomes, in order
abbrev pub arrivals_of : List Outcome → List Arrival
arrivals_of [] = []
arrivals_of (Arrived arrival ∷ rest) = arrival ∷ arrivals_of rest
arrivals_of (End sender ∷ rest) = arrivals_of rest
arrivals_of (Stopped ∷ rest) = arrivals_of rest
