use Rattle.std.proofs.Common.{◌≡◌, ◌<◌, ◌∙◌, Bor, arith, List, Some, ap, false, length, map, subst, sym}
use Rattle.review_roots.specs.Body.Candidates.{states_of}
use Rattle.review_roots.specs.Body.Found.{IsDrawn, kept_steps}
use Rattle.std.specs.Prelude.{All, slice_get}
use Rattle.std.proofs.lemmas.List.Elements.{All-map}
use Rattle.review_roots.specs.declared.candidate.Candidate.{Candidate}
use Rattle.review_roots.specs.declared.search.Aim.{Aim}
use Rattle.review_roots.specs.Body.Found.{reaches}
use Rattle.review_roots.proofs.DrawLemmas.{drawn-next}
use Rattle.review_roots.proofs.LoopLemmas.{there}
use Rattle.review_roots.proofs.search.has_step.Goals as goal

pub loop-index-preserved : goal.loop-index-preserved
loop-index-preserved c =
    let h = c.args.steps.now in
    let n = c.loop-index.index in
    let t = c.index.result.now in
    let found = c.args.spread.now.found.items in
    let left = c.args.spread.now.left.items in
    let less : n < length found = omega (arith, c.loop-index-test.true, c.len-index-end.ensures) in
    let at : slice_get found n ≡ Some t = there found n t less ∙ ap Some (sym c.index.ensures) in
    let aim : Aim = record { index = n; state = t.state; level = c.args.level; counted = c.args.sought.counted; steps = 0 } in
    let none = subst (λ (xs : List (Bor Candidate)). All (λ k. reaches h aim k.now ≡ false) xs) c.deref-in-loop-index.ensures.value
    (c.in_ok-is_reached_by.ensures c.if-branch.false) in
    drawn-next h c.args.sought c.args.level n 0 t found (map (λ k. k.now) left) at
    (All-map (λ k. reaches h aim k ≡ false) (λ (k : Bor Candidate). k.now) left none) c.loop-index.invariant

pub returns-then-is_none : goal.returns-then-is_none
returns-then-is_none c = λ same.
    let found = c.args.spread.now.found.items in
    subst (λ (xs : List (Bor Candidate)). IsDrawn (kept_steps c.args.steps.now c.args.sought) c.args.level (length found) found
    (states_of (map (λ k. k.now) xs))) (sym (sym c.deref.ensures.value ∙ c.is_none.ensures c.if-is_none.true))
    (λ i s less. absurd (omega (arith, less)))
