use Rattle.review_commands.specs.FileTexts.{text_at}
use Rattle.review_commands.proofs.ListSteps.{map-more}
use Rattle.review_commands.proofs.file_texts.supplied_texts.Goals as goal

pub loop-path-preserved : goal.loop-path-preserved
loop-path-preserved c = map-more (text_at c.args.supplies.now) c.args.paths.now c.loop-path.path-index c.path-item.result c.args.main.now
    _ _ c.loop-path-test.true c.path-item.is c.loop-path.invariant c.in_ok-push_supplied.ensures
