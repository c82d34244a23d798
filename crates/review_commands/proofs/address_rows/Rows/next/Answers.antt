use Rattle.csv.specs.Records.{fields_of}
use Rattle.audit_files.proofs.RecordsAhead.{read_step}
use Rattle.review_commands.proofs.address_rows.Rows.next.Goals as goal

pub returns-in-Ok-clause-left : goal.returns-in-Ok-clause-left
returns-in-Ok-clause-left c =
    let (trim, ready, config, known) = c.requires in
    (read_step c.args.self.now.reader c.read_byte_record.new.self c.in-Ok.found (fields_of c.read_byte_record.new.row)
    config known (c.in-Ok.ensures.reads trim ready)).1
