use Rattle.std.proofs.Common.{◌∙◌, ◌++◌, ◌∷◌, [], ap}
use Rattle.audit_run.specs.Parts.{asking}
use Rattle.audit_run.specs.Body.Work.{putting_jobs}
use Rattle.audit_run.specs.declared.message.Job.TheVariants.{Ask}
use Rattle.audit_run.proofs.Joins.{asking-more, put_after}
use Rattle.audit_run.proofs.sender.send_rows.Goals as goal

pub loop-preserved : goal.loop-preserved
loop-preserved g c =
    let (sent, was, read) = c.loop.invariant in
    let request = c.in-Some-2.request in
    let put = put_after c.args.pass.now c.loop.pass c.put_job.new.pass (asking c.args.sender sent)
    (Ask c.args.sender request ∷ []) was c.put_job.ensures in (
      sent ++ request ∷ [],
      put ∙ ap (putting_jobs c.args.pass.now) (asking-more c.args.sender sent request),
      λ text of_text. (rw c.in-Some-2.is at c.in_ok-request.ensures.request) text sent (read text of_text),
    )
