use Rattle.audit_files.proofs.PlainRows.{without_mark}
use Rattle.audit_files.proofs.plain.first_row.Goals as goal

pub returns-clause-reads : goal.returns-clause-reads
returns-clause-reads c = rw (without_mark c.args.text.now _ _ c.in-Some.ensures.cases.0 c.if-first-ge128.false) c.plain_row.ensures.reads
