use Rattle.std.proofs.Common.{ap}
use Rattle.csv.specs.Writing.{default_writer, field_text}
use Rattle.review_program.specs.Changes.{change_name}
use Rattle.review_commands.specs.Rows.{asked_fields, asker_fields}
use Rattle.review_commands.proofs.RowSteps.{row_of}
use Rattle.review_program.proofs.change_rows.push_record.Goals as goal

pub returns : goal.returns
returns c =
    let request = c.args.answer.now.request in
    row_of c.args.text.now.items _ _ _ _ _ (field_text default_writer c.name.result.now) (change_name c.args.change) c.args.sender.now
    (asker_fields request) (asked_fields request) _ c.in_ok-push_field.ensures (ap (field_text default_writer) c.name.ensures)
    c.in_ok-push_head.ensures c.in_ok-push_asked.ensures c.in_ok-push_end.ensures c.in_ok-push.ensures.items
