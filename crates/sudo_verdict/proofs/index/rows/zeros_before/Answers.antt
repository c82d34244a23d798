use Rattle.std.proofs.Common.{◌≡◌, ◌*◌, ◌/◌, ◌<◌, ◌≤◌, ◌⊎◌, inl, inr, get_or, ap, ◌∙◌, arith}
use Rattle.std.proofs.lemmas.Bool.{cases_lt}
use Rattle.sudo_verdict.specs.Postings.{bit}
use Rattle.sudo_verdict.proofs.Misses.{bit-outside, bit-zero_word}
use Rattle.sudo_verdict.proofs.index.rows.zeros_before.Goals as goal

pub loop-at-preserved : goal.loop-at-preserved
loop-at-preserved c i before = go (cases_lt i (64 * c.loop-at.at))
  where
    go : (i < 64 * c.loop-at.at) ⊎ (64 * c.loop-at.at ≤ i) → bit c.args.words.now i ≡ 0
    go (inl old) = c.loop-at.invariant i old
    go (inr new) =
        let here : i / 64 ≡ c.loop-at.at = omega (arith, before, new) in
        bit-zero_word c.args.words.now i (ap (λ k. get_or c.args.words.now k 0) here ∙ c.if-words-at-ne0.false)

pub returns-clause-zeros : goal.returns-clause-zeros
returns-clause-zeros c i before = go (cases_lt i (64 * c.loop-at.at))
  where
    go : (i < 64 * c.loop-at.at) ⊎ (64 * c.loop-at.at ≤ i) → bit c.args.words.now i ≡ 0
    go (inl old) = c.loop-at.invariant i old
    go (inr past) =
        let end = c.loop-at-test.false in
        let count = c.min-count.ensures in
        bit-outside c.args.words.now i (omega (arith, before, past, end, count))
