use Rattle.std.proofs.Common.{subst, refl}
use Rattle.review_files.specs.declared.walk.Step.TheVariants as steps
use Rattle.review_files.specs.Resolving.{IsStep}
use Rattle.review_files.proofs.Leading.{leads_nowhere, leads_on}
use Rattle.review_files.proofs.resolving.lead.Goals as goal

pub loop-count-preserved : goal.loop-count-preserved
loop-count-preserved g c = λ outcome ends.
    c.loop-count.invariant outcome
    (leads_on (g.T.Tree.shows c.args.tree.now) c.args.folder.now c.loop-count.count c.loop-count.walk
    (steps.On c.in-On.next) outcome c.loop-count-test.true
    (subst (IsStep (g.T.Tree.shows c.args.tree.now) c.args.folder.now c.loop-count.walk) c.in-On.is c.in_ok-next.ensures) ends)

pub returns-in-End : goal.returns-in-End
returns-in-End g c =
    c.loop-count.invariant c.in-End.outcome
    (leads_on (g.T.Tree.shows c.args.tree.now) c.args.folder.now c.loop-count.count c.loop-count.walk
    (steps.End c.in-End.outcome) c.in-End.outcome c.loop-count-test.true
    (subst (IsStep (g.T.Tree.shows c.args.tree.now) c.args.folder.now c.loop-count.walk) c.in-End.is c.in_ok-next.ensures) refl)

pub returns : goal.returns
returns g c =
    c.loop-count.invariant _
    (leads_nowhere (g.T.Tree.shows c.args.tree.now) c.args.folder.now c.loop-count.count c.loop-count.walk c.loop-count-test.false)
