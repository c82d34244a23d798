use Rattle.std.proofs.Common.{subst, sym}
use Rattle.std.specs.Prelude.{All}
use Rattle.std.proofs.lemmas.List.Elements.{All-filter}
use Rattle.review_roots.specs.Body.Found.{IsCandidate, is_left}
use Rattle.review_roots.proofs.StartLemmas.{start-of, start-search, there-deep, there-given}
use Rattle.review_roots.proofs.search.spread_of.Goals as goal

pub spread-requires-clause-given : goal.spread-requires-clause-given
spread-requires-clause-given c = there-given c.args.steps.now _ _ c.in_ok-found.ensures

pub spread-requires-clause-deep : goal.spread-requires-clause-deep
spread-requires-clause-deep c = there-deep _ _ c.in_ok-found.ensures

pub returns-clause-search : goal.returns-clause-search
returns-clause-search c = λ k asked enough chainless.
    let h = c.args.steps.now in
    let q = c.args.sought in
    c.in_ok-rest.ensures.search k
    (start-search h q k asked c.args.level enough _ _
    (start-of h q k asked c.args.starts.now _ _ chainless c.in_ok-found.ensures c.in_ok-left.ensures))

pub spread-requires-clause-candidates : goal.spread-requires-clause-candidates
spread-requires-clause-candidates c =
    let h = c.args.steps.now in
    subst (All (IsCandidate h)) (sym c.in_ok-left.ensures)
    (All-filter (is_left h c.args.sought c.args.starts.now) (IsCandidate h) h.candidates.now h.covered.known)
