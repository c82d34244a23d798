use Rattle.sudo_base.proofs.Options.{on_ok}
use Rattle.review_commands.proofs.TextSteps.{three_texts}
use Rattle.review_commands.proofs.lines.push_classes.Goals as goal

pub returns : goal.returns
returns c = on_ok c.push-3.result
    (three_texts c.args.line.now.items _ _ _ _ _ _ c.in_ok-push.ensures c.in_ok-push-2.ensures) c.push-3.ensures
