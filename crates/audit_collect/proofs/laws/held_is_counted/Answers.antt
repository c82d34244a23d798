use Rattle.std.proofs.Common.{refl}
use Rattle.std.specs.FinMap.{get}
use Rattle.audit_collect.proofs.HeldLaw.{close_counted, reply_counted}
use Rattle.audit_collect.proofs.laws.held_is_counted.Goals as goal

pub returns : goal.returns
returns c = record {
  reply = λ names arrivals held s h n ran there. reply_counted names arrivals held ran s h there n (get h.answers n) refl;
  close = λ names arrivals held s h ran there. close_counted names arrivals held ran s h there h.close refl;
}
