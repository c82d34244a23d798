use Rattle.std.proofs.Common.{◌≡◌, ◌<◌, ◌∙◌, ◌++◌, Bor, List, ap, arith, inl, inr, length, map, not, subst, sym, ℕ}
use Rattle.std.specs.Prelude.{All, filter, is_some}
use Rattle.std.specs.List.{filter_map}
use Rattle.std.proofs.lemmas.List.{length-map}
use Rattle.review_roots.specs.declared.candidate.Candidate.{Candidate}
use Rattle.review_roots.specs.declared.layer.Aimed.{Aimed}
use Rattle.review_roots.specs.declared.search.Aim.{Aim}
use Rattle.review_roots.specs.Body.Candidates.{states_of}
use Rattle.review_roots.specs.Body.Found.{IsCandidate, IsSearch, aims_at, first_of, kept_steps}
use Rattle.review_roots.proofs.LayerLemmas.{spread-candidates, spread-deep, spread-given, spread-length, spread-search}
use Rattle.review_roots.proofs.SearchLemmas.{search-end}
use Rattle.review_roots.proofs.search.spread.Goals as goal

pub loop-start-preserved : goal.loop-start-preserved
loop-start-preserved c =
    let h = c.args.steps.now in
    let q = c.args.sought in
    let l = c.args.level in
    let g = kept_steps h q in
    let n = c.loop-start.start in
    let found = c.loop-start.found.items in
    let new = c.draw.new.found.items in
    let cs : List Candidate = map (λ c. c.now) c.deref-in-loop-start-2.result.now in
    let kept : List Candidate = map (λ c. c.now) c.in_ok-left.left.items in
    let same = sym c.deref-in-loop-start-2.ensures.value in
    let aims : map (λ (a : Aimed). a.aim) c.in_ok-layer.layer.aims.items ≡ aims_at q l n found =
    c.in_ok-layer.ensures.aims ∙ ap (aims_at q l n) c.deref-in-loop-start.ensures.value in
    let finds : new ≡ found ++ filter_map (first_of h (aims_at q l n found)) cs =
    c.in_ok-left.ensures.found ∙ ap (λ (aims : List Aim). found ++ filter_map (first_of h aims) cs) aims in
    let keeps : kept ≡ filter (λ k. not (is_some (first_of h (aims_at q l n found) k))) cs =
    c.in_ok-left.ensures.kept ∙ ap (λ (aims : List Aim). filter (λ k. not (is_some (first_of h aims k))) cs) aims in
    record {
      candidates = spread-candidates h q l n found new cs kept finds keeps
          (subst (λ (xs : List (Bor Candidate)). All (IsCandidate h) (map (λ c. c.now) xs)) same c.loop-start.invariant.candidates);
      given = spread-given h q l n found new cs kept finds keeps c.loop-start.invariant.given;
      deep = spread-deep h q l n found new cs kept finds keeps c.loop-start.invariant.deep;
      search = λ k start.
          subst (λ (m : ℕ). IsSearch h.directory.now g k l m new (states_of kept))
          (let e : length found ≡ c.len-start.result = omega (arith, c.len-start.ensures) in e)
          (spread-search h q l n found new cs kept finds keeps k
          (subst (λ (xs : List (Bor Candidate)). IsSearch h.directory.now g k l n found (states_of (map (λ c. c.now) xs))) same
          (c.loop-start.invariant.search k start)));
    }

pub loop-start-smaller : goal.loop-start-smaller
loop-start-smaller c =
    let h = c.args.steps.now in
    let q = c.args.sought in
    let l = c.args.level in
    let n = c.loop-start.start in
    let found = c.loop-start.found.items in
    let new = c.draw.new.found.items in
    let cs : List Candidate = map (λ c. c.now) c.deref-in-loop-start-2.result.now in
    let kept : List Candidate = map (λ c. c.now) c.in_ok-left.left.items in
    let less : n < length found = omega (arith, c.loop-start-test.true, c.len.ensures) in
    let aims : map (λ (a : Aimed). a.aim) c.in_ok-layer.layer.aims.items ≡ aims_at q l n found =
    c.in_ok-layer.ensures.aims ∙ ap (aims_at q l n) c.deref-in-loop-start.ensures.value in
    let sum = spread-length h q l n found new cs kept
    (c.in_ok-left.ensures.found ∙ ap (λ (aims : List Aim). found ++ filter_map (first_of h aims) cs) aims)
    (c.in_ok-left.ensures.kept ∙ ap (λ (aims : List Aim). filter (λ k. not (is_some (first_of h aims k))) cs) aims) in
    let k : length kept ≡ length c.in_ok-left.left.items = length-map c.in_ok-left.left.items (λ c. c.now) in
    let m : length cs ≡ length c.deref-in-loop-start-2.result.now = length-map c.deref-in-loop-start-2.result.now (λ c. c.now) in
    let o : length c.deref-in-loop-start-2.result.now ≡ length c.loop-start.left.items = ap length c.deref-in-loop-start-2.ensures.value in
    omega (arith, less, sum, k, m, o, c.len-start.ensures)

pub returns-clause-search : goal.returns-clause-search
returns-clause-search c = λ k start.
    let h = c.args.steps.now in
    search-end h.directory.now (kept_steps h c.args.sought) k c.args.level c.loop-start.start c.loop-start.found.items
    (states_of (map (λ c. c.now) c.loop-start.left.items)) (c.loop-start.invariant.search k start)
    (inl (omega (arith, c.loop-start-test.false, c.len.ensures)))

pub returns-then-is_none-clause-search : goal.returns-then-is_none-clause-search
returns-then-is_none-clause-search c = λ k start.
    let h = c.args.steps.now in
    search-end h.directory.now (kept_steps h c.args.sought) k c.args.level c.loop-start.start c.loop-start.found.items
    (states_of (map (λ c. c.now) c.loop-start.left.items)) (c.loop-start.invariant.search k start)
    (inr (ap (λ (xs : List (Bor Candidate)). states_of (map (λ c. c.now) xs))
    (sym c.deref.ensures.value ∙ c.is_none.ensures c.if-is_none.true)))
