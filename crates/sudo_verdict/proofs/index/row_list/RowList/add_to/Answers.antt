use Rattle.std.proofs.Common.{◌≡◌, ◌<◌, ◌≤◌, ◌+◌, ◌*◌, ◌⊎◌, inl, inr, false, sym, ap, ◌∙◌, arith}
use Rattle.std.specs.List.{slice_index}
use Rattle.std.proofs.lemmas.Bool.{cases_lt}
use Rattle.sudo_verdict.specs.Postings.{is_in_row}
use Rattle.sudo_verdict.proofs.index.row_list.RowList.add_to.Goals as goal

pub returns-then-self-gt-LISTED-clause-has : goal.returns-then-self-gt-LISTED-clause-has
returns-then-self-gt-LISTED-clause-has c i h none =
    let all = c.set_all.ensures.sets i h in
    absurd (omega (arith, all, none))

pub loop-index-init : goal.loop-index-init
loop-index-init c i h none k below = absurd (omega (arith, below))

pub loop-index-preserved : goal.loop-index-preserved
loop-index-preserved c i h none k below = go (cases_lt k c.loop-index.index)
  where
    go : (k < c.loop-index.index) ⊎ (c.loop-index.index ≤ k)
        → is_in_row c.args.rows.now.rows.items (slice_index c.args.self.now.numbers k) (64 * c.args.first + i) ≡ false
    go (inl before) = let count = c.add_to.ensures.count in
        c.loop-index.invariant i (omega (arith, h, count)) (c.add_to.ensures.adds i none).0 k before
    go (inr here) =
        let count = c.add_to.ensures.count in
        let same : c.loop-index.index ≡ k = omega (arith, here, below) in
        ap (λ j. is_in_row c.args.rows.now.rows.items (slice_index c.args.self.now.numbers j) (64 * c.args.first + i)) (sym same)
        ∙ (c.add_to.ensures.adds i none).1 (omega (arith, h, count))

pub returns-clause-has : goal.returns-clause-has
returns-clause-has c i h none =
    let end = c.loop-index-test.false in
    (c.if-self-gt-LISTED.false, λ k below. c.loop-index.invariant i h none k (omega (arith, below, end)))
