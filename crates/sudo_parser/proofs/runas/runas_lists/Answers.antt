use Rattle.std.proofs.Common.{None, refl, subst, sym}
use Rattle.sudo_parser.specs.Body.Runas.{ReadsLists}
use Rattle.sudo_parser.specs.Body.Unread.{tokens_left}
use Rattle.sudo_parser.proofs.RunasSteps.{lists-users, lists-groups}
use Rattle.sudo_parser.proofs.runas.runas_lists.Goals as goal

pub returns-then-not-take_mark-clause-reads : goal.returns-then-not-take_mark-clause-reads
returns-then-not-take_mark-clause-reads c = let end = c.if-not-take_mark.ensures.no refl in
    subst (λ u. ReadsLists (tokens_left c.args.unread.now) (record { users = c.in_ok-users.users; groups = None }) (tokens_left u))
    (sym end.1)
    (lists-users (tokens_left c.args.unread.now) c.in_ok-users.users (tokens_left c.runas_users.new.unread)
    c.in_ok-users.ensures.reads end.0)

pub returns-clause-reads : goal.returns-clause-reads
returns-clause-reads c =
    lists-groups (tokens_left c.args.unread.now) c.in_ok-users.users c.in_ok-groups.groups
    (tokens_left c.runas_users.new.unread) (tokens_left c.take_mark.new.self) (tokens_left c.runas_groups.new.unread)
    c.in_ok-users.ensures.reads (c.if-not-take_mark.ensures.yes refl) c.in_ok-groups.ensures.reads
