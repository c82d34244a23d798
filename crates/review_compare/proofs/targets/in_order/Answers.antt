use Rattle.std.proofs.Common.{◌∙◌, ap}
use Rattle.std.specs.List.{list_any}
use Rattle.review_compare.specs.Differences.{same_number, targets_of}
use Rattle.review_compare.specs.Body.Merged.{has_target}
use Rattle.review_compare.proofs.TargetLemmas.{has-permuted}
use Rattle.review_compare.proofs.targets.in_order.Goals as goal

pub returns : goal.returns
returns c = λ t.
    ap (λ ts. has_target ts t) c.from_vec.ensures
    ∙ ap (list_any (same_number t)) (c.in_ok-all.ensures ∙ ap targets_of c.deref.ensures.value)
    ∙ has-permuted c.into_vec-sorted.result.items c.sort_unstable.new.self.items c.sort_unstable.ensures.permutation t
    ∙ ap (λ ts. has_target ts t) c.into_vec-sorted.ensures
