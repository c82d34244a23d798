use Rattle.std.proofs.Common.{◌≡◌, ℕ, ◌-◌, ◌<◌, ◌≤◌, ◌⊎◌, inl, inr, get_or, sym, ap, subst, ◌∙◌, arith}
use Rattle.std.specs.Prelude.{slice_get, unwrap_or}
use Rattle.std.proofs.lemmas.Bool.{cases_lt}
use Rattle.std.proofs.lemmas.Option.{unwrap_or-slice_get}
use Rattle.sudo_verdict.specs.Body.Known.{IsPassed}
use Rattle.sudo_verdict.specs.declared.index.key.Key.TheVariants as key
use Rattle.sudo_verdict.proofs.decision.kept_before.Goals as goal

pub loop-end-preserved : goal.loop-end-preserved
loop-end-preserved g c = record {
  within = let within = c.loop-end.invariant.within in omega (arith, within);
  passed = λ i from before. go i from before (cases_lt i c.loop-end.end);
}
  where
    go : (i : ℕ) → c.loop-end.end - 1 ≤ i → i < c.args.end → (i < c.loop-end.end) ⊎ (c.loop-end.end ≤ i)
        → IsPassed (g.S.Subject.fits c.args.subject) (unwrap_or (slice_get c.args.keys.now i) key.Other)
    go i from before (inl here) =
        let place : c.loop-end.end - 1 ≡ i = omega (arith, from, here) in
        subst (IsPassed (g.S.Subject.fits c.args.subject)) (ap (λ k. get_or c.args.keys.now k key.Other) place
        ∙ sym (unwrap_or-slice_get c.args.keys.now i key.Other))
        (c.misses.ensures c.if-not-misses.false)
    go i from before (inr past) = c.loop-end.invariant.passed i past before
