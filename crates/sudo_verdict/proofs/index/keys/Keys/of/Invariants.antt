use Rattle.std.proofs.Common.{◌≡◌, length}
use Rattle.sudo_grammar.specs.declared.policy.Entry.{Entry}
use Rattle.sudo_verdict.specs.Keys.{Pairwise, HaveBodyKeys}
use Rattle.sudo_verdict.proofs.index.keys.Keys.of.Given as goal

abbrev pub invariant-loop-entry : goal.invariant-loop-entry
invariant-loop-entry l = record {
  count : length l.rows.items ≡ l.entry-index;
  have : Pairwise (λ ks (e : Entry). HaveBodyKeys l.checked ks e.body) l.rows.items l.entries;
}
