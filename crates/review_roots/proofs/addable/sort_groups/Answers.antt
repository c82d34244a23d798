use Rattle.std.proofs.Common.{cond, rules}
use Rattle.std.proofs.lemmas.List.Sorted.{sum_by-IsPermutation}
use Rattle.sudo_base.proofs.Options.{on_ok}
use Rattle.review_roots.specs.AddableGroups.{group_cmp}
use Rattle.review_roots.specs.KnownGroups.{same_group}
use Rattle.review_roots.proofs.OrderLemmas.{group-total, sorted-by-calls}
use Rattle.review_roots.proofs.addable.sort_groups.Goals as goal

pub returns-clause-sorted : goal.returns-clause-sorted
returns-clause-sorted c =
    on_ok c.sort_by.result
    (λ sorted. sorted-by-calls group_cmp group-total c.sort_by.new.self.items sorted (λ a r f call. search rules))
    c.sort_by.ensures.sorted

pub returns-clause-same : goal.returns-clause-same
returns-clause-same c g =
    sum_by-IsPermutation (λ h. cond (same_group g h) 1 0) c.args.groups.now.items c.sort_by.new.self.items c.sort_by.ensures.permutation
