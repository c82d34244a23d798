use Rattle.review_commands.specs.CautionLines.{caution_line}
use Rattle.review_commands.proofs.ListSteps.{flat_map-more}
use Rattle.review_commands.proofs.lines.lines_of.Goals as goal

pub loop-caution-preserved : goal.loop-caution-preserved
loop-caution-preserved c = flat_map-more (caution_line c.args.files.now) c.args.cautions.now c.loop-caution.caution-index
    c.caution-item.result _ _ c.loop-caution-test.true c.caution-item.is c.loop-caution.invariant c.in_ok-push_caution.ensures
