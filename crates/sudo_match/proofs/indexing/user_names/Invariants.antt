use Rattle.sudo_base.specs.Body.Indexes.{IndexesRows}
use Rattle.sudo_base.specs.NameIndices.{index_of}
use Rattle.sudo_match.specs.KnownRows.{same_user}
use Rattle.sudo_match.proofs.ClashLemmas.{NoneBefore}
use Rattle.sudo_match.proofs.indexing.user_names.Given as goal

abbrev pub invariant-loop-at : goal.invariant-loop-at
invariant-loop-at l = record {
  indexed : IndexesRows (λ u. u.name) l.people l.at (index_of l.names);
  none : NoneBefore same_user l.people l.at;
}
