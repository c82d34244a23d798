use Rattle.std.proofs.Common.{◌≡◌, ◌<◌, arith}
use Rattle.review_texts.specs.Words.{newline_count}
use Rattle.review_texts.proofs.HostLists.{list_stands, no_lines, no_list}
use Rattle.review_texts.proofs.addressed.member_hosts.Goals as goal

pub returns-in_default : goal.returns-in_default
returns-in_default c = no_list c.args.known.now c.args.line.now c.args.at c.in_ok-put.field-0
    (rw c.as_slice.ensures at c.in_ok-put.ensures) c.in_default.is

pub returns-then-newline_count-gt0 : goal.returns-then-newline_count-gt0
returns-then-newline_count-gt0 c =
    let count = rw c.as_slice-2.ensures at c.newline_count.ensures in
    no_lines c.args.known.now c.args.line.now c.args.at c.in_ok-put.field-0 c.in-Some.put
    (rw c.as_slice.ensures at c.in_ok-put.ensures) c.in-Some.is (omega (arith, count))

pub returns : goal.returns
returns c =
    let count = rw c.as_slice-2.ensures at c.newline_count.ensures in
    list_stands c.args.known.now c.args.line.now c.args.at c.in_ok-put.field-0 c.in-Some.put
    (rw c.as_slice.ensures at c.in_ok-put.ensures) c.in-Some.is (omega (arith, count))
    (c.in_ok-takes_member.ensures.0 c.if-not-branch.false)
