use Rattle.std.proofs.Common.{◌≡◌}
use Rattle.review_roots.specs.Body.Unnamed.{named_indices, unnamed_indices}
use Rattle.review_roots.proofs.unnamed.split_groups.Given as goal

abbrev pub invariant-loop-index : goal.invariant-loop-index
invariant-loop-index l = record {
  named : l.named.items ≡ named_indices l.ids l.groups l.index;
  unnamed : l.unnamed.items ≡ unnamed_indices l.ids l.groups l.index;
}
