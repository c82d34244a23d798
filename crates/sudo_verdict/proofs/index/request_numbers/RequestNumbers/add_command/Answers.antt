use Rattle.std.proofs.Common.{◌≡◌, ℕ, false, refl, sym, ◌∙◌, ap, arith}
use Rattle.sudo_verdict.specs.Numbers.{next_number, number_from, lacks_beginnings}
use Rattle.sudo_verdict.specs.Body.Blocks.{IsNoted}
use Rattle.sudo_verdict.proofs.NumberSteps.{numbered_next, numbered_end}
use Rattle.sudo_verdict.proofs.NumberSets.{lacks-all, lacks-more, lacks-end}
use Rattle.sudo_verdict.proofs.index.request_numbers.RequestNumbers.add_command.Goals as goal

pub loop-byte-init : goal.loop-byte-init
loop-byte-init c = record {
  below = omega arith;
  whole = refl;
  here = c.add_number-2.ensures.adds;
  users = c.add_number-2.ensures.users ∙ c.add_number.ensures.users;
  none = λ has out whole begins. lacks-all has c.args.command.now
      (out 0 (c.add_number-2.ensures.keeps 0 c.add_number.ensures.adds)) whole begins;
}

pub loop-byte-preserved : goal.loop-byte-preserved
loop-byte-preserved c =
    let byte = c.in-Some.byte.now in
    let rest = c.in-Some.rest.now in
    let split = c.in-Some.ensures.cases.0 in
    let added = c.add_number-in-Some.ensures in
    record {
      below = c.next_number-number.ensures.below;
      whole = c.loop-byte.invariant.whole ∙ ap (number_from c.loop-byte.number) split ∙ numbered_next c.loop-byte.number byte rest
          ∙ ap (λ n. number_from n rest) (sym c.next_number-number.ensures.value);
      here = added.adds;
      users = added.users ∙ c.loop-byte.invariant.users;
      none = λ has out whole begins.
          let old : (n : ℕ) → IsNoted c.args.rows.now.rows.items c.loop-byte.self n → has n ≡ false =
          λ n noted. out n (added.keeps n noted) in
          c.loop-byte.invariant.none has old whole
          (ap (lacks_beginnings has c.loop-byte.number) split
          ∙ lacks-more has c.loop-byte.number byte rest (old c.loop-byte.number c.loop-byte.invariant.here)
          (ap (λ n. lacks_beginnings has n rest) (sym c.next_number-number.ensures.value) ∙ begins));
    }

pub returns-clause-numbers : goal.returns-clause-numbers
returns-clause-numbers c has out =
    let added = c.add_number-3.ensures in
    let old : (n : ℕ) → IsNoted c.args.rows.now.rows.items c.loop-byte.self n → has n ≡ false = λ n noted. out n (added.keeps n noted) in
    c.loop-byte.invariant.none has old
    (ap (λ n. has (next_number n 6)) (c.loop-byte.invariant.whole
    ∙ numbered_end c.loop-byte.number c.loop-byte.left.now c.in_default.ensures.cases)
    ∙ ap has (sym c.whole_number.ensures.value) ∙ out c.whole_number.result added.adds)
    (lacks-end has c.loop-byte.number c.loop-byte.left.now (old c.loop-byte.number c.loop-byte.invariant.here) c.in_default.ensures.cases)
