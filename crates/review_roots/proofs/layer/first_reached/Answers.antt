use Rattle.std.proofs.Common.{◌≡◌, ◌∙◌, Some, ap, arith, false, subst}
use Rattle.std.proofs.lemmas.List.Elements.{All-more}
use Rattle.review_roots.specs.declared.search.Found.{Found}
use Rattle.review_roots.specs.Body.Found.{reaches}
use Rattle.review_roots.proofs.LikeLemmas.{passed-over}
use Rattle.review_roots.proofs.NotedLemmas.{none-reached, one-reached}
use Rattle.review_roots.proofs.layer.first_reached.Goals as goal

pub loop-place-preserved : goal.loop-place-preserved
loop-place-preserved c =
    let h = c.args.steps.now in
    let k = c.loop-place.place in
    let a = c.index-aims-place.result in
    let none = passed-over h c.args.candidate.now c.requires.candidate c.args.aims.now k a c.loop-place-test.true c.index-aims-place.is
    c.requires.aims c.requires.like c.loop-place.invariant (c.reached_by.ensures.none c.in_default.is) in
    All-more (λ a. reaches h a.aim c.args.candidate.now ≡ false) c.args.aims.now k a c.loop-place-test.true
    c.loop-place.invariant (subst (λ b. reaches h b.aim c.args.candidate.now ≡ false) c.index-aims-place.is none)

pub returns-in-Some : goal.returns-in-Some
returns-in-Some c =
    let k = c.loop-place.place in
    let a = c.index-aims-place.result in
    let is = c.reached_by.ensures.given c.in-Some.given c.in-Some.is in
    ap (λ g.
    let f : Found = record { state = c.args.candidate.now.state; steps = a.aim.steps; next = Some a.aim.index; given = g } in Some f) is.1
    ∙ one-reached c.args.steps.now c.args.candidate.now c.args.aims.now k a c.loop-place-test.true c.index-aims-place.is
    c.loop-place.invariant is.0

pub returns : goal.returns
returns c =
    none-reached c.args.steps.now c.args.candidate.now c.args.aims.now c.loop-place.place (omega (arith, c.loop-place-test.false))
    c.loop-place.invariant
