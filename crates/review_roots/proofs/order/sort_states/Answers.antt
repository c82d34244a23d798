use Rattle.std.proofs.Common.{rules}
use Rattle.sudo_base.proofs.Options.{on_ok}
use Rattle.review_roots.proofs.OrderLemmas.{moved-has, sorted-by-calls, state-total}
use Rattle.review_roots.specs.Order.{state_cmp}
use Rattle.review_roots.proofs.order.sort_states.Goals as goal

pub returns-clause-sorted : goal.returns-clause-sorted
returns-clause-sorted c =
    on_ok c.sort_by.result
    (λ sorted.
    sorted-by-calls (state_cmp c.args.directory.now) (state-total c.args.directory.now) c.sort_by.new.self.items sorted
    (λ a r f call. search rules))
    c.sort_by.ensures.sorted

pub returns-clause-same : goal.returns-clause-same
returns-clause-same c = moved-has c.args.states.now.items c.sort_by.new.self.items c.sort_by.ensures.permutation
