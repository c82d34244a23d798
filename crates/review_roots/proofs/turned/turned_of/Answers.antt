use Rattle.std.proofs.Common.{◌≡◌, ◌++◌, ◌∙◌, [], Bor, List, ap, append-nil, map, subst, sym}
use Rattle.std.specs.Prelude.{All, filter}
use Rattle.std.specs.List.{filter_map}
use Rattle.std.proofs.lemmas.List.Elements.{All-filter}
use Rattle.review_roots.specs.declared.candidate.Candidate.{Candidate}
use Rattle.review_roots.specs.declared.layer.Aimed.{Aimed}
use Rattle.review_roots.specs.declared.search.Aim.{Aim}
use Rattle.review_roots.specs.declared.search.Found.{Found}
use Rattle.review_roots.specs.Body.Found.{IsCandidate, aims_at, any_sought, first_of, is_asked}
use Rattle.review_roots.proofs.turned.turned_of.Goals as goal

pub draw-requires-clause-candidates : goal.draw-requires-clause-candidates
draw-requires-clause-candidates c =
    let h = c.args.steps.now in
    subst (All (IsCandidate h))
    (sym (ap (λ (xs : List (Bor Candidate)). map (λ k. k.now) xs) c.deref-2.ensures.value ∙ c.in_ok-asked.ensures))
    (All-filter (is_asked h c.args.target c.args.starts.now c.args.unasked_starts.now) (IsCandidate h) h.candidates.now h.covered.known)

-- where none is asked, nothing is found behind the others
pub returns-then-is_none : goal.returns-then-is_none
returns-then-is_none c =
    let h = c.args.steps.now in
    let found = c.args.unasked.now in
    let empty : filter (is_asked h c.args.target c.args.starts.now c.args.unasked_starts.now) h.candidates.now ≡ [] =
    sym c.in_ok-asked.ensures
    ∙ ap (λ (xs : List (Bor Candidate)). map (λ k. k.now) xs) (sym c.deref.ensures.value ∙ c.is_none.ensures c.if-is_none.true) in
    c.in_ok-turned.ensures ∙ sym (append-nil found)
    ∙ ap (λ (cs : List Candidate). found ++ filter_map (first_of h (aims_at (any_sought c.args.target) c.args.level 0 found)) cs)
    (sym empty)

pub returns : goal.returns
returns c =
    let h = c.args.steps.now in
    c.in_ok-draw.ensures.found
    ∙ ap (λ (fs : List Found). fs ++ filter_map (first_of h (map (λ (a : Aimed). a.aim) c.in_ok-layer.layer.aims.items))
    (map (λ k. k.now) c.deref-2.result.now)) c.in_ok-turned.ensures
    ∙ ap (λ (aims : List Aim). c.args.unasked.now ++ filter_map (first_of h aims) (map (λ k. k.now) c.deref-2.result.now))
    c.in_ok-layer.ensures.aims
    ∙ ap (λ (cs : List Candidate).
    c.args.unasked.now ++ filter_map (first_of h (aims_at (any_sought c.args.target) c.args.level 0 c.args.unasked.now)) cs)
    (ap (λ (xs : List (Bor Candidate)). map (λ k. k.now) xs) c.deref-2.ensures.value ∙ c.in_ok-asked.ensures)
