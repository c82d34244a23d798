use Rattle.std.proofs.Common.{◌++◌, ◌∷◌, ◌∙◌, [], List, ap, append_assoc, subst, sym}
use Rattle.std.proofs.lemmas.List.{map-append}
use Rattle.review_roots.specs.declared.candidate.Candidate.{Candidate}
use Rattle.review_roots.specs.declared.state.State.{State}
use Rattle.review_roots.specs.Body.Candidates.{AreCandidates, states_of}
use Rattle.review_roots.specs.Order.{IsInOrder}
use Rattle.review_roots.proofs.CandidateLemmas.{gathered-more}
use Rattle.review_roots.proofs.OrderLemmas.{without}
use Rattle.review_roots.proofs.rules.gather_state.Goals as goal

pub returns-in_ok-push-clause-candidates : goal.returns-in_ok-push-clause-candidates
returns-in_ok-push-clause-candidates c = λ before so_far.
    let ground = c.args.ground in
    subst (AreCandidates ground.checked.now ground.directory.now ground.groups.now ground.least ground.blocks.now
    (before ++ c.args.state ∷ [])) (sym c.in_ok-push.ensures.items)
    (gathered-more ground.checked.now ground.directory.now ground.groups.now ground.least ground.blocks.now before
    c.args.gathered.now.candidates.items so_far c.args.state c.in-Some.candidate
    (c.in_ok-candidate.ensures.known c.in-Some.candidate c.in-Some.is))

pub returns-in_ok-push-clause-order : goal.returns-in_ok-push-clause-order
returns-in_ok-push-clause-order c = λ d after sorted.
    let old = c.args.gathered.now.candidates.items in
    let new = c.in-Some.candidate in
    let known = c.in_ok-candidate.ensures.known new c.in-Some.is in
    subst (IsInOrder d)
    (sym (ap (λ (cs : List Candidate). states_of cs ++ after) c.in_ok-push.ensures.items
    ∙ ap (λ (ss : List State). ss ++ after) (map-append (λ (c : Candidate). c.state) old (new ∷ []))
    ∙ append_assoc (states_of old) (new.state ∷ []) after
    ∙ ap (λ (s : State). states_of old ++ s ∷ after) known.0)) sorted

pub returns-in_default-clause-order : goal.returns-in_default-clause-order
returns-in_default-clause-order c = λ d after sorted.
    without d (states_of c.args.gathered.now.candidates.items) c.args.state after sorted
