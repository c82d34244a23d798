use Rattle.std.proofs.Common.{map}
use Rattle.run_base.specs.Endings.{writer_states as sent}
use Rattle.run_base.proofs.EndingLemmas.{ends_most, run_ends}
use Rattle.audit_commands.specs.Auditing.{Given, given_by, IsAudited, IsNotAudited}
use Rattle.audit_commands.specs.FaultLines.{audit_notices}
use Rattle.audit_commands.proofs.AuditSteps.{audited_most}
use Rattle.audit_commands.proofs.Statuses.{report_most}
use Rattle.audit_commands.proofs.audit.audit_into.Goals as goal

pub returns-clause-ends : goal.returns-clause-ends
returns-clause-ends g c =
    let given : Given = given_by (g.F.Files.held c.args.files.now) c.args.path.now (g.U.Feed.ahead c.args.users.now)
    (g.H.Feed.ahead c.args.hosts.now)
    (map (λ s. s.name) c.args.sources.items) (map (λ s. g.R.Feed.ahead s.reader) c.args.sources.items) c.args.workers in
    let out = sent g.O.Sink.taken g.O.Sink.stalled_writes c.args.out.now c.end_run.new.out in
    let err = sent g.E.Sink.taken g.E.Sink.stalled_writes c.args.err.now c.end_run.new.err in
    run_ends audit_notices (IsAudited given) (IsNotAudited given) c.audit_output-ended.result c.end_run.result out err
    c.audit_output-ended.ensures.report c.audit_output-ended.ensures.fault c.end_run.ensures

pub returns-clause-most : goal.returns-clause-most
returns-clause-most g c =
    let given : Given = given_by (g.F.Files.held c.args.files.now) c.args.path.now (g.U.Feed.ahead c.args.users.now)
    (g.H.Feed.ahead c.args.hosts.now)
    (map (λ s. s.name) c.args.sources.items) (map (λ s. g.R.Feed.ahead s.reader) c.args.sources.items) c.args.workers in
    let out = sent g.O.Sink.taken g.O.Sink.stalled_writes c.args.out.now c.end_run.new.out in
    let err = sent g.E.Sink.taken g.E.Sink.stalled_writes c.args.err.now c.end_run.new.err in
    let ends =
    run_ends audit_notices (IsAudited given) (IsNotAudited given) c.audit_output-ended.result c.end_run.result out err
    c.audit_output-ended.ensures.report c.audit_output-ended.ensures.fault c.end_run.ensures in
    ends_most audit_notices (IsAudited given) (IsNotAudited given) c.end_run.result out err (audited_most given) report_most ends
