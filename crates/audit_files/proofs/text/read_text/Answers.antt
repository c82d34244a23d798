use Rattle.std.proofs.Common.{arith}
use Rattle.audit_files.proofs.ReadLemmas.{failed_is_read, long_is_read, whole_is_read}
use Rattle.audit_files.proofs.text.read_text.Goals as goal

pub returns-in-Ok-clause-text : goal.returns-in-Ok-clause-text
returns-in-Ok-clause-text g c =
    whole_is_read (g.R.Feed.ahead c.args.reader.now) c.in-Ok.text.items c.in-Ok.ensures.text
    (omega (arith, c.in-Ok.ensures.limit, c.in-Ok.text.ok))

pub returns-in-Err-TooLong-clause-fault : goal.returns-in-Err-TooLong-clause-fault
returns-in-Err-TooLong-clause-fault g c = λ no_memory. long_is_read (g.R.Feed.ahead c.args.reader.now)
    (rw c.in-Err-TooLong.field-0-is at c.in-Err-TooLong.ensures.fault tt)

pub returns-in-Err-Failed-clause-fault : goal.returns-in-Err-Failed-clause-fault
returns-in-Err-Failed-clause-fault g c = λ no_memory. failed_is_read (g.R.Feed.ahead c.args.reader.now)
    (rw c.in-Err-Failed.field-0-is at c.in-Err-Failed.ensures.fault tt)
