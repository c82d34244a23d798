use Rattle.std.proofs.Common.{◌∙◌, ◌++◌, ◌∷◌, [], length-append, arith}
use Rattle.audit_files.specs.Requests.{request_fault}
use Rattle.audit_files.specs.Body.Requests.{fields_in}
use Rattle.audit_files.specs.Rows.{records_of}
use Rattle.audit_files.proofs.Progress.{one_more}
use Rattle.audit_files.proofs.requests.gather_rows.Goals as goal

pub loop-row-preserved : goal.loop-row-preserved
loop-row-preserved c =
    let (done, at, holds, same, far) = c.loop-row.invariant in
    let fields = fields_in c.in-Some.fields in
    let added = c.in_ok-add_row.ensures.ok done holds at in (
      done ++ fields ∷ [],
      omega (arith, at, length-append done (fields ∷ [])),
      added.1,
      c.add_row.ensures.earlier ∙ same,
      one_more request_fault [] (records_of c.args.text.now) done fields _ _ far c.in-Some.ensures.reads added.0,
    )
