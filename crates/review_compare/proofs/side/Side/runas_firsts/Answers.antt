use Rattle.std.proofs.Common.{◌<◌, ◌+◌, ◌∙◌, ◌∷◌, [], ℕ, List, ap, arith, get_or, length, length-append, subst, sym}
use Rattle.review_compare.specs.Body.SameRunas.{AllowAlike}
use Rattle.review_compare.proofs.SameRunasLemmas.{firsts-more}
use Rattle.review_compare.proofs.side.Side.runas_firsts.Goals as goal

pub loop-at-preserved : goal.loop-at-preserved
loop-at-preserved c =
    let p = c.args.self.now.checked.now in
    let bs = c.args.self.now.blocks.items in
    let is = c.args.indices.now in
    let ns = c.loop-at.firsts.items in
    let items = c.in_ok-push.ensures.items in
    let first = c.in_ok-first_alike.field-0 in (
      ap length items ∙ length-append ns (first ∷ []) ∙ ap (λ (n : ℕ). n + 1) c.loop-at.invariant.0,
      subst (λ (ms : List ℕ). (k : ℕ) → k < c.loop-at.at + 1 → AllowAlike p bs is (get_or ms k k) k) (sym items)
          (firsts-more p bs is ns c.loop-at.at first c.loop-at.invariant.0 c.loop-at.invariant.1 c.in_ok-first_alike.ensures),
    )

pub returns : goal.returns
returns c = λ k less. c.loop-at.invariant.1 k (omega (arith, less, c.loop-at-test.false))
