use Rattle.std.proofs.Common.{map}
use Rattle.audit_commands.specs.Auditing.{Given, given_by}
use Rattle.audit_commands.proofs.AuditSteps.{answer_of, no_answer_of}
use Rattle.review_commands.proofs.ReportSteps.{checked_of, not_reviewed_of, reviewed_of}
use Rattle.review_commands.proofs.report.report_output.Goals as goal

pub returns-clause-report : goal.returns-clause-report
returns-clause-report g c =
    let given : Given = given_by (g.F.Files.held c.args.files.now) c.args.path.now (g.U.Feed.ahead c.args.users.now)
    (g.H.Feed.ahead c.args.hosts.now)
    (map (λ s. s.name) c.args.work.sources.items) (map (λ s. g.R.Feed.ahead s.reader) c.args.work.sources.items) c.args.work.workers in
    let checked = c.in-Ok.checked in
    reviewed_of given c.args.form checked.text checked.supplies checked.policy c.answer_requests-answered.result _ c.printed-ended.result
    c.in-Ok.ensures.loaded c.in-Ok-notice_on.ensures
    (answer_of given checked.policy c.answer_requests-answered.result
    (checked_of _ _ _ _ _ c.in-Ok.ensures.loaded c.in-Ok.ensures.passes) c.answer_requests-answered.ensures.report)
    c.printed-ended.ensures.text c.printed-ended.ensures.notice

pub returns-clause-fault : goal.returns-clause-fault
returns-clause-fault g c =
    let given : Given = given_by (g.F.Files.held c.args.files.now) c.args.path.now (g.U.Feed.ahead c.args.users.now)
    (g.H.Feed.ahead c.args.hosts.now)
    (map (λ s. s.name) c.args.work.sources.items) (map (λ s. g.R.Feed.ahead s.reader) c.args.work.sources.items) c.args.work.workers in
    not_reviewed_of given c.answer_requests-answered.result c.printed-ended.result
    (no_answer_of given c.in-Ok.checked.policy c.answer_requests-answered.result
    (checked_of _ _ _ _ _ c.in-Ok.ensures.loaded c.in-Ok.ensures.passes) c.answer_requests-answered.ensures.fault)
    c.printed-ended.ensures.fault
