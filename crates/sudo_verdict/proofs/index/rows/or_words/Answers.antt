use Rattle.std.proofs.Common.{◌<◌, ◌≤◌, ◌⊎◌, inl, inr, length, arith}
use Rattle.std.proofs.lemmas.Bool.{cases_lt}
use Rattle.sudo_verdict.proofs.Bits.{adds-words}
use Rattle.sudo_verdict.proofs.index.rows.or_words.Goals as goal

pub returns-clause-adds : goal.returns-clause-adds
returns-clause-adds c =
    let least = c.min-count.ensures in
    let end = c.loop-index-test.false in
    let most = c.loop-index.auto.index-end in
    adds-words c.args.words.now c.args.block.now c.loop-index.block c.loop-index.index (omega (arith, least, end, most))
    (ends (cases_lt (length c.args.words.now) (length c.args.block.now))) c.loop-index.invariant.before c.loop-index.invariant.after
  where
    ends : (length c.args.words.now < length c.args.block.now) ⊎ (length c.args.block.now ≤ length c.args.words.now) →
        (length c.args.block.now ≤ c.loop-index.index) ⊎ (length c.args.words.now ≤ c.loop-index.index)
    ends (inl less) = let least = c.min-count.ensures in let end = c.loop-index-test.false in inr (omega (arith, less, least, end))
    ends (inr more) = let least = c.min-count.ensures in let end = c.loop-index-test.false in inl (omega (arith, more, least, end))
