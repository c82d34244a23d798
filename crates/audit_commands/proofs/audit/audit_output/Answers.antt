use Rattle.std.proofs.Common.{map}
use Rattle.audit_commands.specs.Auditing.{Given, given_by}
use Rattle.audit_commands.proofs.AuditSteps.{answer_of, no_answer_of, not_printed_of, printed_of}
use Rattle.audit_commands.proofs.audit.audit_output.Goals as goal

pub returns-clause-report : goal.returns-clause-report
returns-clause-report g c =
    let given : Given = given_by (g.F.Files.held c.args.files.now) c.args.path.now (g.U.Feed.ahead c.args.users.now)
    (g.H.Feed.ahead c.args.hosts.now)
    (map (λ s. s.name) c.args.work.sources.items) (map (λ s. g.R.Feed.ahead s.reader) c.args.work.sources.items) c.args.work.workers in
    printed_of given c.in-Ok.policy c.answer_requests-answered.result c.printed-ended.result
    (answer_of given c.in-Ok.policy c.answer_requests-answered.result c.in-Ok.ensures.checked
    c.answer_requests-answered.ensures.report)
    c.printed-ended.ensures.text

pub returns-clause-fault : goal.returns-clause-fault
returns-clause-fault g c =
    let given : Given = given_by (g.F.Files.held c.args.files.now) c.args.path.now (g.U.Feed.ahead c.args.users.now)
    (g.H.Feed.ahead c.args.hosts.now)
    (map (λ s. s.name) c.args.work.sources.items) (map (λ s. g.R.Feed.ahead s.reader) c.args.work.sources.items) c.args.work.workers in
    not_printed_of given c.answer_requests-answered.result c.printed-ended.result
    (no_answer_of given c.in-Ok.policy c.answer_requests-answered.result c.in-Ok.ensures.checked
    c.answer_requests-answered.ensures.fault)
    c.printed-ended.ensures.fault
