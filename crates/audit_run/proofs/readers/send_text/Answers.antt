use Rattle.std.proofs.Common.{◌++◌, ◌∷◌, [], Ok, Err, refl}
use Rattle.audit_files.specs.declared.fault.FileFault.TheVariants.{Memory}
use Rattle.audit_run.specs.Parts.{asking, jobs_of}
use Rattle.audit_run.specs.declared.message.Job.TheVariants.{End}
use Rattle.audit_run.proofs.Joins.{jobs_behind, put_after}
use Rattle.audit_run.proofs.readers.send_text.Goals as goal

pub returns-in-Err : goal.returns-in-Err
returns-in-Err g c =
    let (sent, was, read) = c.send_rows.ensures in
    let first = asking c.args.owner sent in
    let last = End c.args.owner ∷ [] in (
      Err Memory,
      (λ of_file. absurd of_file),
      record {
        jobs = first ++ last;
        pass = put_after c.args.pass c.send_rows.new.pass c.refuse-in-Err.result.pass first last was c.refuse-in-Err.ensures.0;
        put = (sent, refl);
        fault = c.refuse-in-Err.ensures.1;
      },
    )

pub returns-in-Ok-rest : goal.returns-in-Ok-rest
returns-in-Ok-rest g c =
    let (sent, was, read) = c.in-Ok.ensures in
    let left = c.in-Ok-rest.left in
    let first = asking c.args.owner sent in (
      Ok (record { list = sent ++ left.list; close = left.close }),
      c.in-Ok-rest.ensures.stated c.args.text.items sent (read c.args.text.items c.of-rows.ensures),
      record {
        jobs = first ++ jobs_of c.args.owner left;
        pass = put_after c.args.pass c.send_rows.new.pass c.send.result first (jobs_of c.args.owner left) was c.send.ensures;
        put = jobs_behind c.args.owner sent left;
        fault = refl;
      },
    )
