use Rattle.std.proofs.Common.{◌≡◌, ◌≢◌, ◌++◌, ◌∷◌, [], List, ℕ, length, ap, ◌∙◌, arith, rules}
use Rattle.audit_run.specs.Roster.{index_in, roster}
use Rattle.audit_run.proofs.Rosters.{one_new, one_old, others, others-none}
use Rattle.audit_run.proofs.roster.roster_of.Goals as goal

pub loop-name-init : goal.loop-name-init
loop-name-init c =
    let none = c.new-found.ensures.items in (
      ap (λ (found : List (List ℕ)). found ++ others found (roster c.args.names.now)) none
          ∙ others-none (roster c.args.names.now),
      omega (arith, c.new-found.ensures.len),
    )

pub loop-name-preserved-in_ok-push : goal.loop-name-preserved-in_ok-push
loop-name-preserved-in_ok-push c =
    let found = c.loop-name.found.items in
    let name = c.in-Some.name.now in
    let step = c.in-Some.ensures.cases in
    let inv = c.loop-name.invariant in
    let copied = c.in_ok-from_slice.ensures in
    let new : index_in name found ≡ length found = search rules in (
      one_new found _ _ _ _ name (c.in_ok-push.ensures.items
          ∙ ap (λ n. found ++ n ∷ []) (copied ∙ c.as_slice-then-index_within-len.ensures)) step.0 new inv.0,
      omega (arith, inv.1, c.in_ok-push.ensures.len, step.1),
    )

pub loop-name-preserved : goal.loop-name-preserved
loop-name-preserved c =
    let found = c.loop-name.found.items in
    let name = c.in-Some.name.now in
    let step = c.in-Some.ensures.cases in
    let inv = c.loop-name.invariant in
    let old : index_in name found ≢ length found = search rules in (one_old found _ _ _ name step.0 old inv.0, omega (arith, inv.1, step.1))
