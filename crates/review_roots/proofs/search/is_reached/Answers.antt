use Rattle.std.proofs.Common.{◌≡◌, Bor, arith, false, subst, sym, take}
use Rattle.std.specs.Prelude.{All}
use Rattle.std.proofs.lemmas.List.{take_all}
use Rattle.std.proofs.lemmas.List.Elements.{All-push}
use Rattle.review_roots.specs.declared.candidate.Candidate.{Candidate}
use Rattle.review_roots.specs.Body.Found.{IsCandidate, reaches}
use Rattle.review_grants.proofs.ListSteps.{take-more}
use Rattle.review_roots.proofs.LoopLemmas.{all-mapped}
use Rattle.review_roots.proofs.search.is_reached.Goals as goal

pub reached-requires-clause-candidate : goal.reached-requires-clause-candidate
reached-requires-clause-candidate c =
    all-mapped (IsCandidate c.args.steps.now) (λ k. k.now) c.args.left.now c.loop-candidate.candidate-index c.candidate-item.result
    c.loop-candidate-test.true c.candidate-item.is c.requires.candidates

pub loop-candidate-preserved : goal.loop-candidate-preserved
loop-candidate-preserved c =
    let h = c.args.steps.now in
    let n = c.loop-candidate.candidate-index in
    let left = c.args.left.now in
    subst (All (λ (k : Bor Candidate). reaches h c.args.aim k.now ≡ false))
    (sym (take-more left n c.candidate-item.result c.loop-candidate-test.true c.candidate-item.is))
    (All-push (λ (k : Bor Candidate). reaches h c.args.aim k.now ≡ false) (take n left) c.candidate-item.result c.loop-candidate.invariant
    (c.reached.ensures.none c.in-None.is))

pub returns : goal.returns
returns c = λ e.
    let h = c.args.steps.now in
    let n = c.loop-candidate.candidate-index in
    subst (All (λ (k : Bor Candidate). reaches h c.args.aim k.now ≡ false))
    (take_all n c.args.left.now (omega (arith, c.loop-candidate-test.false))) c.loop-candidate.invariant
