use Rattle.std.proofs.Common.{arith, sym, ◌∙◌, ◌≤◌, ◌<◌, ◌+◌, ◌*◌, ◌-◌, get_or, length}
use Rattle.std.proofs.lemmas.Bool.Decides.{nat_tests}
use Rattle.sudo_parser.proofs.Digits.{too_large, read_all}
use Rattle.sudo_parser.proofs.numbers.number.Goals as goal

pub returns-in_err-checked_mul : goal.returns-in_err-checked_mul
returns-in_err-checked_mul c =
    let large : 4294967296 ≤ 10 * c.loop-b.value + (get_or c.args.bytes.now c.loop-b.b-index 0 - 48) =
    omega (arith, c.in_err-checked_mul.ensures) in
    c.from_residual.ensures ∙ sym (too_large _ _ _ c.loop-b-test.true large c.loop-b.invariant)

pub returns-in_err-value : goal.returns-in_err-value
returns-in_err-value c =
    let large : 4294967296 ≤ 10 * c.loop-b.value + (get_or c.args.bytes.now c.loop-b.b-index 0 - 48) =
    omega (arith, c.in_err-value.ensures, c.in_ok-checked_mul.ensures, c.from.ensures) in
    c.from_residual-in_err-value.ensures ∙ sym (too_large _ _ _ c.loop-b-test.true large c.loop-b.invariant)

pub returns : goal.returns
returns c =
    let some : 0 < length c.args.bytes.now = grind (arith, nat_tests) in
    sym (read_all _ _ _ some c.loop-b-test.false c.loop-b.invariant)
