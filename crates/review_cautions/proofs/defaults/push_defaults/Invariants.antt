use Rattle.std.proofs.Common.{◌≡◌, ◌++◌, drop}
use Rattle.review_cautions.specs.Cautions.{defaults_cautions}
use Rattle.review_cautions.proofs.defaults.push_defaults.Given as goal

abbrev pub invariant-loop-entry : goal.invariant-loop-entry
invariant-loop-entry l = l.found.items ++ defaults_cautions (drop l.entry-index l.entries)
    ≡ l.initial.found.items ++ defaults_cautions l.entries
