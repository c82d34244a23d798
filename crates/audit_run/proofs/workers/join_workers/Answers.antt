use Rattle.std.proofs.Common.{◌≡◌, ◌+◌, ◌++◌, All, length, ap, ◌∙◌, subst, arith}
use Rattle.std.proofs.lemmas.List.Elements.{All-head, All-tail}
use Rattle.audit_run.specs.Names.{names_under}
use Rattle.audit_run.specs.Passes.{PassView, with_joined}
use Rattle.audit_run.specs.Body.FreshPasses.{fresh}
use Rattle.audit_run.specs.Body.Work.{after_work}
use Rattle.audit_run.proofs.Joins.{one_worker}
use Rattle.audit_run.proofs.workers.join_workers.Goals as goal

pub loop-handle-preserved : goal.loop-handle-preserved
loop-handle-preserved g c =
    let inv = c.loop-handle.invariant in
    let old = inv.1 in
    let names = names_under c.args.shared.policy.now c.args.shared.directory.now in
    let new_pass = fresh c.args.shared.handoff.now c.args.shared.policy.now c.args.shared.directory.now in
    let all = subst (All (λ h. h.promise.before.value ≡ new_pass)) c.in-Some.ensures.steps.0 inv.0 in
    let before = All-head (λ h. h.promise.before.value ≡ new_pass) _ _ all in
    let done = c.join-other.ensures in
    let result = done.1 ∙ ap (λ (p : PassView). after_work p.names p done.0) before in
    let len = c.in-Some.ensures.steps.1 in (
      All-tail (λ h. h.promise.before.value ≡ new_pass) _ _ all,
      (
        old.0 + 1,
        old.1 ++ done.0,
        omega (arith, old.2, ap (λ l. length l) c.in-Some.ensures.steps.0),
        c.join.ensures ∙ ((λ i. with_joined (old.3 i) (result i))
            ∙ one_worker names c.args.pass.now c.args.shared.handoff.now c.args.shared.policy.now
            c.args.shared.directory.now old.0 old.1 done.0),
      ),
    )
