use Rattle.std.proofs.Common.{sym, subst, refl, arith}
use Rattle.sudo_text.specs.declared.token.Mark.TheVariants as marks
use Rattle.sudo_parser.specs.Body.Lists.{ReadsToItem, ReadsItems, StopsInItems}
use Rattle.sudo_parser.specs.Body.Unread.{tokens_left}
use Rattle.sudo_parser.proofs.ListSteps.{items-more, items-end, items-stop, next-less}
use Rattle.sudo_parser.proofs.Steps.{passed-on}
use Rattle.sudo_parser.proofs.lists.members.Goals as goal

pub returns-in_err-member-clause-stops : goal.returns-in_err-member-clause-stops
returns-in_err-member-clause-stops c =
    passed-on c.from_residual-in_err-member.result c.in_err-member.field-0.0
    (StopsInItems c.args.kind (tokens_left c.args.unread.now)) c.from_residual-in_err-member.ensures.1
    (items-stop c.args.kind (tokens_left c.args.unread.now) c.items.members (tokens_left c.items.unread) _
    c.items.invariant.1 c.in_err-member.ensures.stops)

pub items-preserved : goal.items-preserved
items-preserved c = (
  omega (
    arith,
    c.items.invariant.0,
    next-less c.args.kind (tokens_left c.items.unread) c.in_ok-member.member (tokens_left c.item.new.unread)
        (tokens_left c.take_mark.new.self) marks.Comma c.in_ok-member.ensures.reads (c.if-not-take_mark.ensures.yes refl),
  ),
  subst (λ x. ReadsToItem c.args.kind (tokens_left c.args.unread.now) x (tokens_left c.take_mark.new.self))
      (sym c.in_ok-push.ensures.ok)
      (items-more c.args.kind (tokens_left c.args.unread.now) c.items.members (tokens_left c.items.unread)
      c.in_ok-member.member (tokens_left c.item.new.unread) (tokens_left c.take_mark.new.self)
      c.items.invariant.1 c.in_ok-member.ensures.reads (c.if-not-take_mark.ensures.yes refl)),
)

pub returns-then-not-take_mark-clause-reads : goal.returns-then-not-take_mark-clause-reads
returns-then-not-take_mark-clause-reads c = let end = c.if-not-take_mark.ensures.no refl in
    subst (λ u. ReadsItems c.args.kind (tokens_left c.args.unread.now) c.push.new.self (tokens_left u)) (sym end.1)
    (subst (λ x. ReadsItems c.args.kind (tokens_left c.args.unread.now) x (tokens_left c.item.new.unread))
    (sym c.in_ok-push.ensures.ok)
    (items-end c.args.kind (tokens_left c.args.unread.now) c.items.members (tokens_left c.items.unread)
    c.in_ok-member.member (tokens_left c.item.new.unread) c.items.invariant.1 c.in_ok-member.ensures.reads
    c.items.invariant.0 end.0))
