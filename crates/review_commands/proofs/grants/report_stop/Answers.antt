use Rattle.std.proofs.Common.{subst, sym}
use Rattle.run_base.specs.Endings.{PrintsOrNoMemory, writer_states as sent}
use Rattle.review_commands.specs.CautionLines.{program_name}
use Rattle.review_commands.specs.Endings.{stop_line}
use Rattle.review_commands.proofs.grants.report_stop.Goals as goal

pub returns-in-Write : goal.returns-in-Write
returns-in-Write g c =
    let err = sent g.E.Sink.taken g.E.Sink.stalled_writes c.args.err.now c.report_explained.new.err in
    subst (λ stop. PrintsOrNoMemory program_name 4 (stop_line program_name stop) c.report_explained.result err)
    (sym c.in-Write.is) c.report_explained.ensures

pub returns-in-Memory : goal.returns-in-Memory
returns-in-Memory g c =
    let err = sent g.E.Sink.taken g.E.Sink.stalled_writes c.args.err.now c.report_explained-in-Memory.new.err in
    subst (λ stop. PrintsOrNoMemory program_name 4 (stop_line program_name stop) c.report_explained-in-Memory.result err)
    (sym c.in-Memory.is) c.report_explained-in-Memory.ensures
