use Rattle.std.proofs.Common.{◌∷◌, [], Err, refl}
use Rattle.audit_files.proofs.ReadLemmas.{fault_is_read}
use Rattle.audit_files.specs.Requests.{requests_of_file}
use Rattle.audit_run.specs.declared.message.Job.TheVariants.{End}
use Rattle.audit_run.proofs.readers.read_and_send.Goals as goal

pub returns : goal.returns
returns g c = (
  Err c.in-Err.fault,
  (λ of_file. fault_is_read requests_of_file (g.F.Feed.ahead c.args.part.reader) c.in-Err.fault (c.in-Err.ensures.fault of_file)),
  record {
    jobs = End c.args.part.owner ∷ [];
    pass = c.refuse.ensures.0;
    put = ([], refl);
    fault = c.refuse.ensures.1;
  },
)
