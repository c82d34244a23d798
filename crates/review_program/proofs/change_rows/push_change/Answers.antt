use Rattle.std.proofs.Common.{◌∙◌}
use Rattle.review_program.proofs.RecordSteps.{record-of}
use Rattle.review_program.proofs.change_rows.push_change.Goals as goal

pub returns-in_ok-push_record-in-Some-clause-text : goal.returns-in_ok-push_record-in-Some-clause-text
returns-in_ok-push_record-in-Some-clause-text c =
    record-of c.args.judges.old.now c.args.judges.new.now _ _ c.args.judges.directory.now c.args.sender.now c.args.answer.now
    _ _ _ _ _ _ _ _ c.verdict-verdict.ensures c.in_ok-found.ensures.is_same (c.text-depends.ensures ∙ c.in_ok-found.ensures.marks)
    c.are_noted-noted.ensures c.requires.before c.requires.after c.in-Some.ensures c.change_between.ensures
    c.in_ok-push_record-in-Some.ensures
