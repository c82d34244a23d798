use Rattle.std.proofs.Common.{◌∙◌, ◌+◌, None, ap, arith, get_or, length, subst, sym}
use Rattle.review_roots.specs.declared.search.Found.{Found}
use Rattle.review_roots.specs.Asked.{nothing}
use Rattle.review_roots.specs.Body.Found.{AreStartsBefore}
use Rattle.review_grants.proofs.ListSteps.{index-there}
use Rattle.review_roots.proofs.StartsLemmas.{starts-all, starts-length, starts-next}
use Rattle.review_roots.proofs.starts.set_starts.Goals as goal

pub loop-index-preserved : goal.loop-index-preserved
loop-index-preserved c =
    let found = c.args.found.now in
    let n = c.loop-index.index in
    let other : Found = record { state = record { user = 0; added = None }; steps = 0; next = None; given = nothing } in
    let f : Found = get_or found n other in
    record {
      known = ap length c.set_start.ensures ∙ starts-length c.loop-index.starts f.state n ∙ c.loop-index.invariant.known;
      starts = subst (AreStartsBefore found (n + 1)) (sym c.set_start.ensures)
          (starts-next found n f c.loop-index-test.true (index-there found n other c.loop-index-test.true) c.loop-index.starts
          c.loop-index.invariant.starts);
    }

pub returns-clause-starts : goal.returns-clause-starts
returns-clause-starts c =
    starts-all c.args.found.now c.loop-index.index c.loop-index.starts (omega (arith, c.loop-index-test.false))
    c.loop-index.invariant.starts
