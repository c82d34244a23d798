use Rattle.std.proofs.Common.{◌∙◌, ◌++◌, Bor, Global, List, Vec, ap, map, not, sym}
use Rattle.std.specs.Prelude.{is_some}
use Rattle.review_roots.specs.declared.candidate.Candidate.{Candidate}
use Rattle.review_roots.specs.declared.layer.Aimed.{Aimed}
use Rattle.review_roots.specs.declared.search.Found.{Found}
use Rattle.review_roots.specs.Body.Found.{IsCandidate, first_of}
use Rattle.review_roots.proofs.DrawLemmas.{none-kept, none-picked, one-kept, one-picked}
use Rattle.review_roots.proofs.LoopLemmas.{all-mapped}
use Rattle.review_roots.proofs.layer.draw.Goals.{in-Some+in_ok-push-in-Some, in-None+in_ok-push-in-None}
use Rattle.review_roots.proofs.layer.draw.Goals as goal

pub first_found-requires-clause-candidate : goal.first_found-requires-clause-candidate
first_found-requires-clause-candidate c =
    all-mapped (IsCandidate c.args.steps.now) (λ k. k.now) c.args.left.now c.loop-candidate.candidate-index
    c.candidate-item.result c.loop-candidate-test.true c.candidate-item.is c.requires.candidates

pub loop-candidate-preserved : goal.loop-candidate-preserved
loop-candidate-preserved c =
    let pick = first_of c.args.steps.now (map (λ (a : Aimed). a.aim) c.args.layer.now.aims.items) in
    let left = c.args.left.now in
    let i = c.loop-candidate.candidate-index in
    let k = c.candidate-item.result in
    elim c.match-first_found.branch [
      | in-Some+in_ok-push-in-Some w ↦
          record {
            kept = ap (λ (ks : Vec (Bor Candidate) Global). map (λ (c : Bor Candidate). c.now) ks.items) w.kept-is
                ∙ c.loop-candidate.invariant.kept
                ∙ sym (none-kept (λ k. not (is_some (pick k))) (λ (k : Bor Candidate). k.now) left i k c.loop-candidate-test.true
                c.candidate-item.is (ap (λ o. not (is_some o)) (sym c.first_found.ensures ∙ w.in-Some.is)));
            found = one-picked pick (λ (k : Bor Candidate). k.now) left c.args.found.now.items c.loop-candidate.found.items
                c.match-first_found.found.items i k w.in-Some.state c.loop-candidate-test.true c.candidate-item.is
                (sym c.first_found.ensures ∙ w.in-Some.is) c.loop-candidate.invariant.found
                (ap (λ (fs : Vec Found Global). fs.items) w.found-is ∙ w.in_ok-push-in-Some.ensures.items);
          }
      | in-None+in_ok-push-in-None w ↦
          record {
            kept = one-kept (λ k. not (is_some (pick k))) (λ (k : Bor Candidate). k.now) left c.loop-candidate.kept.items
                c.match-first_found.kept.items i k c.loop-candidate-test.true c.candidate-item.is
                (ap (λ o. not (is_some o)) (sym c.first_found.ensures ∙ w.in-None.is)) c.loop-candidate.invariant.kept
                (ap (λ (ks : Vec (Bor Candidate) Global). ks.items) w.kept-is ∙ w.in_ok-push-in-None.ensures.items);
            found = ap (λ (fs : Vec Found Global). fs.items) w.found-is ∙ c.loop-candidate.invariant.found
                ∙ ap (λ (fs : List Found). c.args.found.now.items ++ fs)
                (sym (none-picked pick (λ (k : Bor Candidate). k.now) left i k c.loop-candidate-test.true c.candidate-item.is
                (sym c.first_found.ensures ∙ w.in-None.is)));
          }
    ]
