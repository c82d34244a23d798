use Rattle.review_files.specs.declared.walk.Outcome.{Outcome}
use Rattle.review_files.specs.Resolving as spec
use Rattle.review_files.proofs.resolving.lead.Given as goal

abbrev pub invariant-loop-count : goal.invariant-loop-count
invariant-loop-count g l =
    (outcome : Outcome) → spec.Leads (g.T.Tree.shows l.tree) l.folder l.count l.walk outcome
    → spec.Leads (g.T.Tree.shows l.tree) l.folder spec.most_steps l.fn.walk outcome

abbrev pub decreases-loop-count : goal.decreases-loop-count
decreases-loop-count g l = l.count
