use Rattle.run_base.specs.Endings.{writer_states as sent}
use Rattle.run_base.proofs.EndingLemmas.{ends_most, run_ends}
use Rattle.audit_commands.specs.Expanding.{IsExpanded, IsNotExpanded}
use Rattle.audit_commands.specs.FaultLines.{expand_notices}
use Rattle.audit_commands.proofs.Statuses.{expansion_most}
use Rattle.audit_commands.proofs.Steps.{expanded_most}
use Rattle.audit_commands.proofs.expand.expand_run.Goals as goal

pub returns-clause-ends : goal.returns-clause-ends
returns-clause-ends g c =
    let held = g.F.Files.held c.args.files.now in
    let path = c.args.path.now in
    let name = c.args.name.now in
    let out = sent g.O.Sink.taken g.O.Sink.stalled_writes c.args.out.now c.end_run.new.out in
    let err = sent g.E.Sink.taken g.E.Sink.stalled_writes c.args.err.now c.end_run.new.err in
    run_ends expand_notices (IsExpanded held path c.args.kind name) (IsNotExpanded held path c.args.kind name)
    c.expand_output-ended.result c.end_run.result out err
    c.expand_output-ended.ensures.printed c.expand_output-ended.ensures.fault c.end_run.ensures

pub returns-clause-most : goal.returns-clause-most
returns-clause-most g c =
    let held = g.F.Files.held c.args.files.now in
    let path = c.args.path.now in
    let name = c.args.name.now in
    let out = sent g.O.Sink.taken g.O.Sink.stalled_writes c.args.out.now c.end_run.new.out in
    let err = sent g.E.Sink.taken g.E.Sink.stalled_writes c.args.err.now c.end_run.new.err in
    let ends =
    run_ends expand_notices (IsExpanded held path c.args.kind name) (IsNotExpanded held path c.args.kind name)
    c.expand_output-ended.result c.end_run.result out err
    c.expand_output-ended.ensures.printed c.expand_output-ended.ensures.fault c.end_run.ensures in
    ends_most expand_notices (IsExpanded held path c.args.kind name) (IsNotExpanded held path c.args.kind name)
    c.end_run.result out err (expanded_most held path c.args.kind name) expansion_most ends
