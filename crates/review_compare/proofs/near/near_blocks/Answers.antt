use Rattle.std.proofs.Common.{◌≡◌, ◌∙◌, ◌++◌, ◌∷◌, ◌+◌, [], ap, append-nil, arith, cond, sym, suc, ℕ, Bool, List}
use Rattle.std.specs.Prelude.{filter}
use Rattle.std.specs.List.{range_with_len}
use Rattle.std.proofs.lemmas.List.Elements.{filter-append}
use Rattle.review_grants.proofs.ListSteps.{range-more}
use Rattle.review_compare.specs.declared.ruling.Ruled.{Ruled}
use Rattle.review_compare.specs.Body.Chosen.{deciders_at}
use Rattle.review_compare.specs.Body.Near.{has_near}
use Rattle.review_compare.specs.Body.Shown.{all_shown}
use Rattle.review_compare.proofs.near.near_blocks.Goals as goal

pub loop-index-preserved : goal.loop-index-preserved
loop-index-preserved c =
    let changed = all_shown c.args.changed.now in
    let bs = c.args.blocks.now in
    let i = c.loop-index.index in
    let t : ℕ → Bool = λ i. has_near changed (deciders_at bs i) in
    let keep : c.has_near.result ≡ t i =
    c.has_near.ensures
    ∙ ap (has_near changed)
    (ap (λ (rows : List Ruled). all_shown rows) c.deref.ensures.value ∙ c.in_ok-rows.ensures ∙ append-nil (deciders_at bs i)) in (
      c.in_ok-push_if.ensures
          ∙ ap (λ (is : List ℕ). is ++ cond c.has_near.result (i ∷ []) []) c.loop-index.invariant.0
          ∙ ap (λ (b : Bool). filter t (range_with_len 0 i) ++ cond b (i ∷ []) []) keep
          ∙ sym (filter-append t (range_with_len 0 i) (i ∷ []))
          ∙ ap (λ (k : ℕ). filter t (range_with_len 0 i ++ k ∷ [])) (let e : i ≡ 0 + i = omega arith in e)
          ∙ ap (filter t) (sym (range-more 0 i))
          ∙ ap (λ (k : ℕ). filter t (range_with_len 0 k)) (let e : suc i ≡ i + 1 = omega arith in e),
      omega (arith, c.loop-index-test.true),
    )

pub returns : goal.returns
returns c =
    let changed = all_shown c.args.changed.now in
    let bs = c.args.blocks.now in
    c.loop-index.invariant.0
    ∙ ap (λ (k : ℕ). filter (λ i. has_near changed (deciders_at bs i)) (range_with_len 0 k))
    (omega (arith, c.loop-index.invariant.1, c.loop-index-test.false))
