use Rattle.std.proofs.Common.{ℕ, ap, arith, length, option_copied}
use Rattle.review_compare.proofs.DifferenceLemmas.{no-user-between, user-more, users-between}
use Rattle.review_compare.proofs.differences.rows_between.Goals as goal

pub loop-user-preserved : goal.loop-user-preserved
loop-user-preserved c =
    let behind = c.loop-user.invariant.behind in
    record {
      behind = omega (arith, behind);
      done = user-more c.args.pair.now c.loop-user.rows.items c.add_user.new.rows.items (option_copied c.args.scope.user)
          (option_copied c.args.scope.host) c.args.first c.loop-user.user c.args.asks.now.all.items behind c.loop-user.invariant.done
          c.in_ok-add_user.ensures.added;
      right = c.in_ok-add_user.ensures.right;
    }

pub returns : goal.returns
returns c =
    users-between c.args.pair.now c.loop-user.rows.items (option_copied c.args.scope.user) (option_copied c.args.scope.host)
    c.args.first c.loop-user.user c.args.end c.args.asks.now.all.items
    (λ less.
    let long = ap length c.people-people.ensures in
    let over = c.loop-user-test.false in
    let least = c.min-user-end.ensures in
    omega (arith, less, long, over, least)) c.loop-user.invariant.done
