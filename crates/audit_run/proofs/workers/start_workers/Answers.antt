use Rattle.std.proofs.Common.{◌≡◌, All, length, sym, ap, ◌∙◌, subst, arith}
use Rattle.std.proofs.lemmas.List.Elements.{All-head, All-tail, All-push}
use Rattle.audit_run.specs.Body.FreshPasses.{fresh}
use Rattle.audit_run.proofs.workers.start_workers.Goals as goal

pub loop-pass-preserved : goal.loop-pass-preserved
loop-pass-preserved g c =
    let new_pass = fresh c.args.shared.handoff.now c.args.shared.policy.now c.args.shared.directory.now in
    let inv = c.loop-pass.invariant in
    let step = c.in-Some.ensures.steps in
    let all = subst (All (λ p. p ≡ new_pass)) step.0 inv.0 in
    let pushed = c.in-Ok.ensures in
    let shorter = ap length step.0 in (
      All-tail (λ p. p ≡ new_pass) _ _ all,
      subst (All (λ h. h.promise.before.value ≡ new_pass)) (sym pushed.items)
          (All-push (λ h. h.promise.before.value ≡ new_pass) _ _ inv.1 (c.in-Some-start_worker.ensures
          ∙ All-head (λ p. p ≡ new_pass) _ _ all)),
      omega (arith, inv.2, pushed.len, shorter),
      omega (arith, inv.3, pushed.len, pushed.capacity, shorter),
    )
