use Rattle.std.proofs.Common.{arith, refl}
use Rattle.run_base.specs.Endings.{notices, writer_states as sent}
use Rattle.review_commands.proofs.EndingSteps.{lost_noted, refused_noted, whole_noted}
use Rattle.review_commands.proofs.ending.end_noted.Goals as goal

pub returns-in-Ok-write_all_of : goal.returns-in-Ok-write_all_of
returns-in-Ok-write_all_of g c =
    let told = notices g.F.Fails.status g.F.Fails.explained c.args.program.now in
    let out = sent g.O.Sink.taken g.O.Sink.stalled_writes c.args.out.now c.write_all_of.new.writer in
    let err = sent g.E.Sink.taken g.E.Sink.stalled_writes c.args.err.now c.write_text.new.err in
    whole_noted told c.args.ended c.in-Ok.noted c.deref.result.now c.deref-in-Ok-write_all_of.result.now c.write_text.result out err
    c.in-Ok.is c.deref.ensures.value c.deref-in-Ok-write_all_of.ensures.value
    (omega (arith, c.in-Ok-write_all_of.ensures.stalls))
    c.in-Ok-write_all_of.ensures.whole c.write_text.ensures

pub returns-in-Ok : goal.returns-in-Ok
returns-in-Ok g c =
    let told = notices g.F.Fails.status g.F.Fails.explained c.args.program.now in
    let out = sent g.O.Sink.taken g.O.Sink.stalled_writes c.args.out.now c.write_all_of.new.writer in
    let err = sent g.E.Sink.taken g.E.Sink.stalled_writes c.args.err.now c.report_explained.new.err in
    let stalls = c.in-Err-write_all_of.ensures.stalls in
    lost_noted told c.args.ended c.in-Ok.noted c.deref.result.now c.in-Err-write_all_of.lost.written
    c.report_explained.result out err c.in-Ok.is c.deref.ensures.value
    c.in-Err-write_all_of.ensures.within c.in-Err-write_all_of.ensures.part
    (λ well. absurd (omega (arith, stalls, well))) c.report_explained.ensures

pub returns : goal.returns
returns g c =
    let told = notices g.F.Fails.status g.F.Fails.explained c.args.program.now in
    let out = sent g.O.Sink.taken g.O.Sink.stalled_writes c.args.out.now c.args.out.now in
    let err = sent g.E.Sink.taken g.E.Sink.stalled_writes c.args.err.now c.report_explained-in-Err.new.err in
    refused_noted told c.args.ended c.in-Err.fault c.report_explained-in-Err.result out err c.in-Err.is refl refl
    c.report_explained-in-Err.ensures
