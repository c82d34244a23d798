use Rattle.std.proofs.Common.{◌<◌, ℕ, Bool, ap, sym, ◌∙◌, subst, arith}
use Rattle.std.specs.List.{list_all}
use Rattle.sudo_verdict.specs.Numbers.{group_number, lacks_group}
use Rattle.sudo_verdict.specs.Postings.{is_in_row}
use Rattle.sudo_verdict.proofs.UserNumbers.{lacks-group, lacks-user}
use Rattle.sudo_verdict.proofs.NumberSteps.{numbered_below}
use Rattle.sudo_verdict.proofs.index.request_numbers.RequestNumbers.add_user.Goals as goal

pub add-requires-2-clause-number : goal.add-requires-2-clause-number
add-requires-2-clause-number c = subst (λ n. n < 16384) (sym c.requires.number) (numbered_below 1 c.args.user.now.name (omega arith))

pub loop-group-init : goal.loop-group-init
loop-group-init c rule missed groups =
    let rows = c.args.rows.now.rows.items in
    let third = c.add-3.ensures.keeps rule missed in
    let second = c.add-2.ensures.keeps rule third in
    let has : ℕ → Bool = λ k. is_in_row rows k rule in
    lacks-user has c.args.user.now
    (c.add.ensures.adds rule second)
    (ap has (sym c.requires.number) ∙ c.add-2.ensures.adds rule third)
    (ap has (sym c.uid_number.ensures) ∙ c.add-3.ensures.adds rule missed)
    (ap (list_all (lacks_group has)) (sym c.as_slice-left.ensures) ∙ groups)

pub loop-group-preserved : goal.loop-group-preserved
loop-group-preserved c rule missed groups =
    let rows = c.args.rows.now.rows.items in
    let before = c.add-in-Some-2.ensures.keeps rule missed in
    c.loop-group.invariant rule (c.add-in-Some.ensures.keeps rule before)
    (lacks-group (λ k. is_in_row rows k rule) c.loop-group.left.now c.in-Some.rest.now c.in-Some.group.now c.in-Some.ensures.cases.0
    (ap (λ k. is_in_row rows k rule) (ap group_number (sym c.as_slice.ensures) ∙ sym c.group_number.ensures.value)
    ∙ c.add-in-Some.ensures.adds rule before)
    (ap (λ k. is_in_row rows k rule) (sym c.gid_number.ensures) ∙ c.add-in-Some-2.ensures.adds rule missed)
    groups)
