use Rattle.std.proofs.Common.{ℕ, ◌+◌, ◌++◌, ◌∷◌, [], rules, refl, All, length, ap, ◌∙◌, subst, arith}
use Rattle.std.proofs.lemmas.List.Elements.{All-head, All-tail}
use Rattle.audit_run.specs.Passes.{PassView, with_joined}
use Rattle.audit_run.specs.Parts.{Stated}
use Rattle.audit_run.specs.Body.FreshPasses.{IsFresh}
use Rattle.audit_run.specs.Body.Work.{putting_jobs, part_ahead}
use Rattle.audit_run.proofs.Joins.{faults_more, joined_none, one_part, one_put, one_source, told_more}
use Rattle.audit_run.proofs.readers.join_readers.Goals as goal

pub loop-handle-preserved : goal.loop-handle-preserved
loop-handle-preserved g c =
    let handoff = c.args.handoff.now in
    let inv = c.loop-handle.invariant in
    let old = inv.2 in
    let step = c.in-Some.ensures.steps in
    let promise = c.in-Some.handle.promise in
    let before = promise.before.value in
    let all = subst (All (λ h. IsFresh handoff h.promise.before.value)) step.0 inv.0 in
    let fresh = All-head (λ h. IsFresh handoff h.promise.before.value) _ _ all in
    let sent = c.join-other.ensures in
    let part : ℕ × Stated = (promise.owner, sent.0) in
    let state = sent.2 in
    let result = state.pass ∙ ap (λ (p : PassView). putting_jobs p state.jobs) fresh in
    let shorter = ap length step.0 in
    let pushed = c.in-Ok.ensures in (
      All-tail (λ h. IsFresh handoff h.promise.before.value) _ _ all,
      omega (arith, inv.1, pushed.len, pushed.capacity, shorter),
      (
        old.0 ++ part_ahead promise.owner (g.F.Feed.ahead promise.reader.value) ∷ [],
        old.1 ++ part ∷ [],
        old.2 ++ state.jobs,
        old.3 + 1,
        one_part old.0 old.1 _ part old.4 (refl, sent.1),
        told_more (λ h. part_ahead h.promise.owner (g.F.Feed.ahead h.promise.reader.value)) old.0 _ c.in-Some.handle _ _ step.0 old.5,
        omega (arith, old.6, shorter),
        c.join.ensures ∙ ((λ i. with_joined (old.7 i) (result i)) ∙ one_source c.args.pass.now handoff before.names old.3 old.2 state.jobs),
        one_put old.1 part old.2 state.jobs old.8 state.put,
        faults_more old.1 part _ _ _ pushed.items old.9 state.fault,
      ),
    )

pub loop-handle-init : goal.loop-handle-init
loop-handle-init g c = (
  search rules,
  search rules,
  (
    [],
    [],
    [],
    0,
    search rules,
    search rules,
    search rules,
    joined_none _,
    record { by_source = []; each = tt; all = refl },
    search rules,
  ),
)
