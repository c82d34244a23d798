use Rattle.sudo_base.proofs.Options.{on_ok}
use Rattle.review_commands.proofs.RowSteps.{both-lists}
use Rattle.review_program.proofs.change_rows.push_end.Goals as goal

pub returns : goal.returns
returns c =
    on_ok c.push_last.result (λ is. both-lists c.args.text.now.items _ _ _ _ c.in_ok-push_verdicts.ensures is) c.push_last.ensures
