use Rattle.review_commands.specs.CautionLines.{with_found}
use Rattle.review_commands.proofs.ListSteps.{fold-more}
use Rattle.review_commands.proofs.lines.class_names.Goals as goal

pub loop-class-preserved : goal.loop-class-preserved
loop-class-preserved c = fold-more (with_found c.args.found.now) c.args.classes.now c.loop-class.class-index _ _ _ _
    c.loop-class-test.true c.loop-class.invariant c.in_ok-push_found.ensures
