use Rattle.std.proofs.Common.{◌∙◌, option_copied, sym}
use Rattle.sudo_base.proofs.Options.{on_ok}
use Rattle.review_compare.proofs.DifferenceLemmas.{for-user, other-user, same-for-user}
use Rattle.review_compare.proofs.differences.add_user.Goals as goal

pub returns-then-not-is_this_user : goal.returns-then-not-is_this_user
returns-then-not-is_this_user c = record {
  added = other-user c.args.pair.now c.args.rows.now.items c.args.user c.args.person.now (option_copied c.args.scope.user)
      (option_copied c.args.scope.host) c.args.asks.now.all.items c.requires.user (sym c.is_this_user.ensures ∙ c.if-not-is_this_user.true);
  right = c.requires.right;
}

pub returns : goal.returns
returns c = record {
  added = on_ok c.absorb_all.result
      (for-user c.args.pair.now c.args.rows.now.items c.in_ok-more.more.items c.absorb_all.new.rows.items
      (option_copied c.args.scope.user) (option_copied c.args.scope.host) c.args.user c.args.asks.now.all.items c.in_ok-more.ensures.all)
      c.absorb_all.ensures;
  right = on_ok c.absorb_all.result (λ x. c.in_ok-more.ensures.right) c.absorb_all.ensures;
}

pub returns-then-not-may_differ_for : goal.returns-then-not-may_differ_for
returns-then-not-may_differ_for c = record {
  added = same-for-user c.args.pair.now c.args.rows.now.items c.args.user c.args.person.now (option_copied c.args.scope.user)
      (option_copied c.args.scope.host) c.args.asks.now.all.items c.requires.user (c.may_differ_for.ensures c.if-not-may_differ_for.true);
  right = c.requires.right;
}
