use Rattle.std.proofs.Common.{◌≡◌, ◌<◌, ◌≤◌, ◌⊎◌, inl, inr, Some, length, refl, sym, ap, ◌∙◌, arith}
use Rattle.std.specs.Prelude.{slice_get}
use Rattle.std.proofs.lemmas.Bool.{cases_lt}
use Rattle.std.proofs.lemmas.Option.{slice_get_read}
use Rattle.sudo_verdict.specs.Postings.{bit}
use Rattle.sudo_verdict.proofs.Misses.{starts-none}
use Rattle.sudo_verdict.proofs.index.rows.Rows.start.Goals as goal
use Rattle.sudo_policy.proofs.StateLemmas.{within_get}

pub loop-row-preserved : goal.loop-row-preserved
loop-row-preserved c k within row there i before = go (cases_lt k c.loop-row.row-index)
  where
    go : (k < c.loop-row.row-index) ⊎ (c.loop-row.row-index ≤ k) → bit row.items i ≡ 0
    go (inl old) =
        let less = c.zeros_before-start.ensures.within in
        c.loop-row.invariant k old row there i (omega (arith, before, less))
    go (inr new) =
        let at : k ≡ c.loop-row.row-index = omega (arith, new, within) in
        let here = slice_get_read c.as_slice-row-items.result.now (length c.as_slice-row-items.result.now)
        c.loop-row.row-index c.row-item.result refl c.loop-row-test.true c.row-item.is in
        let known : slice_get c.args.self.now.rows.items k ≡ Some c.row-item.result =
        ap (slice_get c.args.self.now.rows.items) at ∙ ap (λ rows. slice_get rows c.loop-row.row-index)
        (sym c.as_slice-row-items.ensures.value) ∙ here in
        let some : Some row ≡ Some c.row-item.result = sym there ∙ known in
        let same : row ≡ c.row-item.result = cc in
        ap (λ r. bit r.items i) same ∙ ap (λ ws. bit ws i) (sym c.as_slice.ensures.value) ∙ c.zeros_before-start.ensures.zeros i before

pub returns : goal.returns
returns c =
    starts-none c.args.self.now.rows.items c.loop-row.start
    (λ k row there i before.
    let within = within_get c.args.self.now.rows.items k row there in
    let end = c.loop-row-test.false in
    let count = ap (λ rows. length rows) c.as_slice-row-items.ensures.value in
    c.loop-row.invariant k (omega (arith, within, end, count)) row there i before)
