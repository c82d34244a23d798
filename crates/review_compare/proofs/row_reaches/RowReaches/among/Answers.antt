use Rattle.std.proofs.Common.{◌≡◌, ◌≤◌, ◌<◌, ◌-◌, ◌+◌, ◌∙◌, ap, arith, drop, length, subst, sym, ℕ, List, get_or}
use Rattle.review_compare.specs.Body.Chosen.{chosen}
use Rattle.review_compare.specs.Body.Reaches.{reach}
use Rattle.review_compare.specs.Body.RowReaches.{lined_by}
use Rattle.review_compare.proofs.RowReachLemmas.{drop-all, left-before, none-from, own-within, reach-here, rows-within}
use Rattle.review_compare.proofs.row_reaches.RowReaches.among.Goals as goal

pub loop-end-init : goal.loop-end-init
loop-end-init c =
    let bs = c.args.blocks.now in
    let xs = c.args.indices.now in
    let none : c.args.total + 0 ≡ c.args.total = omega arith in (
      omega arith,
      ap (λ (ys : List ℕ). c.args.total + length (chosen bs ys)) (drop-all xs) ∙ none ∙ c.requires.total,
      ap (λ (ys : List ℕ). reach (chosen bs ys) (lined_by c.args.self.now)) (drop-all xs),
    )

pub overflow_sub-left : goal.overflow_sub-left
overflow_sub-left c =
    let bs = c.args.blocks.now in
    let xs = c.args.indices.now in
    let k = c.loop-end.end - 1 in
    let on : c.loop-end.end ≡ k + 1 = omega (arith, c.loop-end-test.true) in
    let within : k < length xs = omega (arith, c.loop-end-test.true, c.loop-end.invariant.0) in
    rows-within bs xs k c.loop-end.left c.in_block-rows.result.0 within
    (subst (λ n. c.loop-end.left + length (chosen bs (drop n xs)) ≡ length (chosen bs xs)) on c.loop-end.invariant.1)
    c.in_block-rows.ensures.0

pub overflow_add-result : goal.overflow_add-result
overflow_add-result c =
    let bs = c.args.blocks.now in
    let xs = c.args.indices.now in
    let k = c.loop-end.end - 1 in
    let on : c.loop-end.end ≡ k + 1 = omega (arith, c.loop-end-test.true) in
    let within : k < length xs = omega (arith, c.loop-end-test.true, c.loop-end.invariant.0) in
    let rows = rows-within bs xs k c.loop-end.left c.in_block-rows.result.0 within
    (subst (λ n. c.loop-end.left + length (chosen bs (drop n xs)) ≡ length (chosen bs xs)) on c.loop-end.invariant.1)
    c.in_block-rows.ensures.0 in
    let own = own-within bs (get_or xs k 0) c.in_block-rows.result.0 c.in_block-rows.result.1 (lined_by c.args.self.now)
    c.in_block-rows.ensures.0 c.in_block-rows.ensures.1 in
    omega (arith, rows, own, c.loop-end.auto.left-fits)

pub returns-then-own-gt0 : goal.returns-then-own-gt0
returns-then-own-gt0 c =
    let bs = c.args.blocks.now in
    let xs = c.args.indices.now in
    let a = lined_by c.args.self.now in
    let k = c.loop-end.end - 1 in
    let on : c.loop-end.end ≡ k + 1 = omega (arith, c.loop-end-test.true) in
    reach-here bs xs k c.loop-end.left c.in_block-rows.result.0 c.in_block-rows.result.1 a
    (omega (arith, c.loop-end-test.true, c.loop-end.invariant.0))
    (subst (λ n. c.loop-end.left + length (chosen bs (drop n xs)) ≡ length (chosen bs xs)) on c.loop-end.invariant.1)
    c.in_block-rows.ensures.0 (subst (λ n. reach (chosen bs (drop n xs)) a ≡ 0) on c.loop-end.invariant.2) c.in_block-rows.ensures.1
    c.if-own-gt0.true

pub loop-end-preserved : goal.loop-end-preserved
loop-end-preserved c =
    let bs = c.args.blocks.now in
    let xs = c.args.indices.now in
    let a = lined_by c.args.self.now in
    let k = c.loop-end.end - 1 in
    let on : c.loop-end.end ≡ k + 1 = omega (arith, c.loop-end-test.true) in
    let within : k < length xs = omega (arith, c.loop-end-test.true, c.loop-end.invariant.0) in (
      omega (arith, c.loop-end.invariant.0),
      left-before bs xs k c.loop-end.left c.in_block-rows.result.0 within
          (subst (λ n. c.loop-end.left + length (chosen bs (drop n xs)) ≡ length (chosen bs xs)) on c.loop-end.invariant.1)
          c.in_block-rows.ensures.0,
      none-from bs xs k c.in_block-rows.result.1 a within (subst (λ n. reach (chosen bs (drop n xs)) a ≡ 0) on c.loop-end.invariant.2)
          c.in_block-rows.ensures.1 c.if-own-gt0.false,
    )

pub returns : goal.returns
returns c =
    let bs = c.args.blocks.now in
    let xs = c.args.indices.now in
    let a = lined_by c.args.self.now in
    let ended : 0 ≡ c.loop-end.end = omega (arith, c.loop-end-test.false) in
    sym (ap (λ n. reach (chosen bs (drop n xs)) a) ended ∙ c.loop-end.invariant.2)
