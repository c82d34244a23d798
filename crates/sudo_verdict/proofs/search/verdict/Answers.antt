use Rattle.std.proofs.Common.{Some, None}
use Rattle.sudo_verdict.specs.Body.Queries.{question}
use Rattle.sudo_verdict.proofs.SearchLaw.{verdict_of-found, verdict_of-unknown}
use Rattle.sudo_verdict.proofs.search.verdict.Goals as goal

pub returns-in-Some : goal.returns-in-Some
returns-in-Some c = verdict_of-found c.args.checked.now c.args.directory.now c.args.request.now
    (question c.in-Ok.query) (Some c.in-Some.verdict) c.in-Ok.ensures c.in-Some.ensures

pub returns-in-None : goal.returns-in-None
returns-in-None c = verdict_of-found c.args.checked.now c.args.directory.now c.args.request.now
    (question c.in-Ok.query) None c.in-Ok.ensures c.in-None.ensures

pub returns-in-Err : goal.returns-in-Err
returns-in-Err c = verdict_of-unknown c.args.checked.now c.args.directory.now c.args.request.now _ c.in-Err.ensures
