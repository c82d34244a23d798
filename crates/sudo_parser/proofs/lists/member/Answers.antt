use Rattle.std.proofs.Common.{sym, ◌∙◌, ◌≡◌, true, subst}
use Rattle.sudo_parser.specs.Body.Lists.{option_begins}
use Rattle.sudo_parser.specs.Body.Unread.{tokens_left}
use Rattle.sudo_parser.proofs.ListSteps.{member-member_stop, member-option}
use Rattle.sudo_parser.proofs.lists.member.Goals as goal

pub returns-in-Err-clause-stops : goal.returns-in-Err-clause-stops
returns-in-Err-clause-stops c =
    rw (c.member_stop.ensures, c.as_slice-rest.ensures, c.len-left.ensures)
    (member-member_stop c.args.kind c.args.bangs (tokens_left c.args.unread.now) c.in-Some.token (tokens_left c.next.new.self)
    c.in-Err.e c.in-Some.ensures c.requires c.in-Err.ensures)

pub returns-then-begins_option-clause-stops : goal.returns-then-begins_option-clause-stops
returns-then-begins_option-clause-stops c =
    rw c.as_slice-rest.ensures
    (member-option c.args.kind c.args.bangs (tokens_left c.args.unread.now) c.in-Some.token (tokens_left c.next.new.self)
    c.in-Ok.atom c.in-Some.ensures c.in-Ok.ensures
    (subst (λ rest. option_begins c.args.kind c.in-Some.token rest ≡ true) c.as_slice-rest.ensures
    (sym c.begins_option.ensures ∙ c.if-begins_option.true)))
