use Rattle.std.proofs.Common.{ap, ◌∙◌, ◌/◌, ◌%◌, arith}
use Rattle.std.specs.Int.{bit_at}
use Rattle.std.proofs.lemmas.Nat.Bits.{bit_at_ones}
use Rattle.sudo_verdict.proofs.index.rows.set_all.Goals as goal

pub returns-clause-sets : goal.returns-clause-sets
returns-clause-sets c i h =
    let end = c.loop-index-test.false in
    let most = c.loop-index.auto in
    ap (λ w. bit_at w (i % 64)) (c.loop-index.invariant (i / 64) (omega (arith, h, end, most))) ∙ bit_at_ones 64 (i % 64) (omega arith)
