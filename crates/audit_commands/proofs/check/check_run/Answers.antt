use Rattle.run_base.specs.Endings.{writer_states as sent}
use Rattle.run_base.specs.Loading.{IsNoPolicy}
use Rattle.run_base.proofs.EndingLemmas.{ends_most, run_ends, zero_prints}
use Rattle.audit_commands.specs.Examining.{IsExamined}
use Rattle.audit_commands.specs.FaultLines.{check_notices}
use Rattle.audit_commands.proofs.Statuses.{policy_low, policy_most}
use Rattle.audit_commands.proofs.Steps.{examined_most, fine_of}
use Rattle.audit_commands.proofs.check.check_run.Goals as goal

pub returns-clause-ends : goal.returns-clause-ends
returns-clause-ends g c =
    let held = g.F.Files.held c.args.files.now in
    let out = sent g.O.Sink.taken g.O.Sink.stalled_writes c.args.out.now c.end_run.new.out in
    let err = sent g.E.Sink.taken g.E.Sink.stalled_writes c.args.err.now c.end_run.new.err in
    run_ends check_notices (IsExamined held c.args.path.now) (IsNoPolicy held c.args.path.now)
    c.check_output-ended.result c.end_run.result out err
    c.check_output-ended.ensures.printed c.check_output-ended.ensures.fault c.end_run.ensures

pub returns-clause-fine : goal.returns-clause-fine
returns-clause-fine g c = λ e.
    let held = g.F.Files.held c.args.files.now in
    let out = sent g.O.Sink.taken g.O.Sink.stalled_writes c.args.out.now c.end_run.new.out in
    let err = sent g.E.Sink.taken g.E.Sink.stalled_writes c.args.err.now c.end_run.new.err in
    let ends =
    run_ends check_notices (IsExamined held c.args.path.now) (IsNoPolicy held c.args.path.now)
    c.check_output-ended.result c.end_run.result out err
    c.check_output-ended.ensures.printed c.check_output-ended.ensures.fault c.end_run.ensures in
    fine_of held c.args.path.now c.end_run.result out err (zero_prints check_notices (IsExamined held c.args.path.now)
    (IsNoPolicy held c.args.path.now) c.end_run.result out err policy_low ends e) e

pub returns-clause-most : goal.returns-clause-most
returns-clause-most g c =
    let held = g.F.Files.held c.args.files.now in
    let out = sent g.O.Sink.taken g.O.Sink.stalled_writes c.args.out.now c.end_run.new.out in
    let err = sent g.E.Sink.taken g.E.Sink.stalled_writes c.args.err.now c.end_run.new.err in
    let ends =
    run_ends check_notices (IsExamined held c.args.path.now) (IsNoPolicy held c.args.path.now)
    c.check_output-ended.result c.end_run.result out err
    c.check_output-ended.ensures.printed c.check_output-ended.ensures.fault c.end_run.ensures in
    ends_most check_notices (IsExamined held c.args.path.now) (IsNoPolicy held c.args.path.now) c.end_run.result out
    err (examined_most held c.args.path.now) policy_most ends
