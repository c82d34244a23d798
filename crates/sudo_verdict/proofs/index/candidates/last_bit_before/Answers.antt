use Rattle.std.proofs.Common.{ap, ◌∙◌}
use Rattle.std.specs.Int.{bit_at}
use Rattle.std.proofs.lemmas.Nat.Bits.{bit_at-zero}
use Rattle.sudo_verdict.proofs.Bits.{cut-within, cut-none, whole-within, whole-bits}
use Rattle.sudo_verdict.proofs.index.candidates.last_bit_before.Goals as goal
use Rattle.sudo_verdict.proofs.index.candidates.last_bit_before.Goals.{then-end-lt64, else-end-lt64}

pub returns-then-word-eq0-clause-none : goal.returns-then-word-eq0-clause-none
returns-then-word-eq0-clause-none c i from before = ap (λ w. bit_at w i) c.if-word-eq0.true ∙ bit_at-zero i

pub returns-clause-within : goal.returns-clause-within
returns-clause-within c = elim c.if-end-lt64.branch [
  | then-end-lt64 w ↦ cut-within c.args.word c.args.end c.if-end-lt64.low c.ranges.word.fits w.if-end-lt64.true w.low-is
  | else-end-lt64 w ↦ whole-within c.args.word c.args.end c.if-end-lt64.low c.ranges.word.fits w.if-end-lt64.false w.low-is
]

pub returns-clause-none : goal.returns-clause-none
returns-clause-none c i from before = elim c.if-end-lt64.branch [
  | then-end-lt64 w ↦ cut-none c.args.word c.args.end c.if-end-lt64.low c.ranges.word.fits w.if-end-lt64.true w.low-is i from before
  | else-end-lt64 w ↦ whole-bits c.args.word c.args.end c.if-end-lt64.low c.ranges.word.fits w.low-is i from
]
