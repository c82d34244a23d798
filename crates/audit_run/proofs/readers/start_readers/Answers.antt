use Rattle.std.proofs.Common.{All, Some, length, sym, ap, subst, arith}
use Rattle.std.proofs.lemmas.List.Elements.{All-pop, All-push}
use Rattle.audit_run.specs.Body.FreshPasses.{IsFresh}
use Rattle.audit_run.specs.Body.Work.{part_ahead}
use Rattle.audit_run.proofs.Joins.{one_started}
use Rattle.audit_run.proofs.readers.start_readers.Goals as goal

pub loop-part-preserved : goal.loop-part-preserved
loop-part-preserved g c =
    let handoff = c.args.shared.handoff.now in
    let inv = c.loop-part.invariant in
    let step = c.in-Some.ensures.steps in
    let popped = c.in-Some-pop.ensures in
    let pushed = c.in-Ok.ensures in
    let started = c.in-Some-start_reader.ensures in
    let shorter = ap length step.0 in
    let free = All-pop (IsFresh handoff) _ _ (Some c.in-Some-pop.pass) popped.items inv.free in
    record {
      free = free.0;
      enough = omega (arith, inv.enough, popped.len, shorter);
      fresh = subst (All (λ h. IsFresh handoff h.promise.before.value)) (sym pushed.items)
          (All-push (λ h. IsFresh handoff h.promise.before.value) _ _ inv.fresh (subst (IsFresh handoff) (sym started.before) free.1));
      room = omega (arith, inv.room, pushed.len, pushed.capacity, shorter);
      started = omega (arith, inv.started, pushed.len, shorter);
      readable_bytes = one_started (λ h. part_ahead h.promise.owner (g.F.Feed.ahead h.promise.reader.value))
          (λ p. part_ahead p.owner (g.F.Feed.ahead p.reader)) _ _ c.in-Some-start_reader.handle c.in-Some.part _ _ _
          pushed.items started.readable_bytes step.0 inv.readable_bytes;
    }
