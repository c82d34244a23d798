use Rattle.std.proofs.Common.{◌≡◌, ℕ, ◌-◌, ◌*◌, ◌/◌, ◌<◌, ◌≤◌, false, arith, ◌⊎◌, inl, inr}
use Rattle.std.proofs.lemmas.Bool.{cases_lt}
use Rattle.sudo_verdict.specs.Body.Blocks.{both_have}
use Rattle.sudo_verdict.proofs.Bits.{both-none}
use Rattle.sudo_verdict.proofs.index.candidates.last_in_both_before.Goals as goal

pub returns-then-last-gt0-clause-none : goal.returns-then-last-gt0-clause-none
returns-then-last-gt0-clause-none c i from before = go (cases_lt i c.loop-end.end)
  where
    go : (i < c.loop-end.end) ⊎ (c.loop-end.end ≤ i) → both_have c.args.users.now c.args.commands.now i ≡ false
    go (inl here) =
        let some = c.loop-end-test.true in
        both-none c.args.users.now c.args.commands.now ((c.loop-end.end - 1) / 64) i (
          omega (arith, from, here, some),
          omega (arith, from, here, some),
        )
        (c.last_bit_before-last.ensures.none (i - 64 * ((c.loop-end.end - 1) / 64)) (omega (arith, from)) (omega (arith, here, from)))
    go (inr past) = c.loop-end.invariant.none i past before

pub loop-end-preserved : goal.loop-end-preserved
loop-end-preserved c = record {
  within = let within = c.loop-end.invariant.within in omega (arith, within);
  none = λ i from before. go i from before (cases_lt i c.loop-end.end);
}
  where
    go : (i : ℕ) → 64 * ((c.loop-end.end - 1) / 64) ≤ i → i < c.args.end → (i < c.loop-end.end) ⊎ (c.loop-end.end ≤ i)
        → both_have c.args.users.now c.args.commands.now i ≡ false
    go i from before (inl here) =
        let some = c.loop-end-test.true in
        let none = c.if-last-gt0.false in
        both-none c.args.users.now c.args.commands.now ((c.loop-end.end - 1) / 64) i (
          omega (arith, from, here, some),
          omega (arith, from, here, some),
        )
        (c.last_bit_before-last.ensures.none (i - 64 * ((c.loop-end.end - 1) / 64)) (omega (arith, none)) (omega (arith, here, from)))
    go i from before (inr past) = c.loop-end.invariant.none i past before
