use Rattle.std.proofs.Common.{ap, sym, ◌∙◌, arith, refl}
use Rattle.sudo_verdict.specs.Numbers.{number_from}
use Rattle.sudo_verdict.proofs.NumberSteps.{numbered_next, numbered_end}
use Rattle.sudo_verdict.proofs.index.numbers.number_from.Goals as goal

pub loop-byte-init : goal.loop-byte-init
loop-byte-init c = record { below = c.requires; same = refl }

pub loop-byte-smaller : goal.loop-byte-smaller
loop-byte-smaller c = let shorter = c.in-Some.ensures.cases.1 in omega (arith, shorter)

pub loop-byte-preserved : goal.loop-byte-preserved
loop-byte-preserved c = record {
  below = c.next_number-number.ensures.below;
  same = c.loop-byte.invariant.same ∙ ap (number_from c.loop-byte.number) c.in-Some.ensures.cases.0
      ∙ numbered_next c.loop-byte.number c.in-Some.byte.now c.in-Some.rest.now
      ∙ ap (λ n. number_from n c.in-Some.rest.now) (sym c.next_number-number.ensures.value);
}

pub returns-clause-value : goal.returns-clause-value
returns-clause-value c = sym (c.loop-byte.invariant.same ∙ numbered_end c.loop-byte.number c.loop-byte.left.now c.in_default.ensures.cases)

pub returns-clause-below : goal.returns-clause-below
returns-clause-below c = c.loop-byte.invariant.below

pub next_number-number-requires : goal.next_number-number-requires
next_number-number-requires c = c.loop-byte.invariant.below
