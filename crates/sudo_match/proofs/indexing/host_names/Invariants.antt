use Rattle.sudo_base.specs.Body.Indexes.{IndexesRows}
use Rattle.sudo_base.specs.NameIndices.{index_of}
use Rattle.sudo_match.specs.Class.{lower_text}
use Rattle.sudo_match.specs.KnownRows.{same_host}
use Rattle.sudo_match.proofs.ClashLemmas.{NoneBefore}
use Rattle.sudo_match.proofs.indexing.host_names.Given as goal

abbrev pub invariant-loop-at : goal.invariant-loop-at
invariant-loop-at l = record {
  indexed : IndexesRows (λ m. lower_text m.name) l.machines l.at (index_of l.names);
  none : NoneBefore same_host l.machines l.at;
}
