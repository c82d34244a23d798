use Rattle.std.proofs.Common.{◌≡◌, map, rules}
use Rattle.audit_commands.specs.declared.fault.DirectoryFault.TheVariants as directories
use Rattle.audit_commands.proofs.AuditSteps.{reported_of, unreported_of}
use Rattle.audit_commands.proofs.audit.answer_requests.Goals as goal

pub returns-in-Ok-clause-report : goal.returns-in-Ok-clause-report
returns-in-Ok-clause-report g c =
    reported_of c.args.policy.now (g.U.Feed.ahead c.args.users.now) (g.H.Feed.ahead c.args.hosts.now)
    (map (λ s. s.name) c.args.work.sources.items) (map (λ s. g.R.Feed.ahead s.reader) c.args.work.sources.items) c.args.work.workers
    c.in-Ok.directory c.report_under.result c.in-Ok.ensures.directory c.report_under.ensures.report

pub returns-in-Ok-clause-fault : goal.returns-in-Ok-clause-fault
returns-in-Ok-clause-fault g c =
    unreported_of c.args.policy.now (g.U.Feed.ahead c.args.users.now) (g.H.Feed.ahead c.args.hosts.now)
    (map (λ s. s.name) c.args.work.sources.items) (map (λ s. g.R.Feed.ahead s.reader) c.args.work.sources.items) c.args.work.workers
    c.in-Ok.directory c.report_under.result c.in-Ok.ensures.directory c.report_under.ensures.fault

pub returns : goal.returns
returns g c =
    let other : c.in-Err.fault ≡ directories.Memory → ⊥ = search rules in
    record { report = tt; fault = (other, c.in-Err.ensures.fault) }
