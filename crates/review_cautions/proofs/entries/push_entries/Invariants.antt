use Rattle.std.proofs.Common.{◌≡◌, ◌++◌, drop}
use Rattle.review_cautions.specs.Cautions.{cautions_among}
use Rattle.review_cautions.proofs.entries.push_entries.Given as goal

abbrev pub invariant-loop-entry : goal.invariant-loop-entry
invariant-loop-entry l = l.found.items ++ cautions_among l.class l.used (drop l.entry-index l.entries)
    ≡ l.initial.found.items ++ cautions_among l.class l.used l.entries
