use Rattle.review_roots.proofs.RootLemmas.{AreRootsBefore}
use Rattle.review_roots.proofs.roots.roots_on.Given as goal

abbrev pub invariant-loop-user : goal.invariant-loop-user
invariant-loop-user l = AreRootsBefore l.steps l.target l.steps.least l.user l.roots.items
