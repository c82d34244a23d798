-- Walks, step by step.
use Rattle.std.proofs.Common.{◌≡◌, ℕ, zero, suc, ◌-◌, ◌<◌, ◌≤◌, List, refl, subst, arith}
use Rattle.run_base.specs.declared.obstacle.Obstacle.TheVariants as obstacles
use Rattle.review_files.specs.declared.tree.Entry.{Entry}
use Rattle.review_files.specs.declared.walk.Outcome.{Outcome}
use Rattle.review_files.specs.declared.walk.Outcome.TheVariants as outcomes
use Rattle.review_files.specs.declared.walk.Step.{Step}
use Rattle.review_files.specs.declared.walk.Walk.{Walk}
use Rattle.review_files.specs.Resolving.{Ends, IsStep, Leads}

-- no step is left
pub leads_nowhere : (shows : List ℕ → Entry → Type 0) (folder : List ℕ) (count : ℕ) (walk : Walk) → count ≤ 0
    → Leads shows folder count walk (outcomes.Stopped obstacles.Other)
unfolding Leads
leads_nowhere shows folder zero walk none = refl
leads_nowhere shows folder (suc n) walk none = absurd (omega (arith, none))

-- a step, and what comes after it
pub leads_on : (shows : List ℕ → Entry → Type 0) (folder : List ℕ) (count : ℕ) (walk : Walk) (step : Step) (outcome : Outcome)
    → 0 < count → IsStep shows folder walk step → Ends (Leads shows folder (count - 1)) step outcome
    → Leads shows folder count walk outcome
unfolding Leads
leads_on shows folder zero walk step outcome some is ends = absurd (omega (arith, some))
leads_on shows folder (suc n) walk step outcome some is ends =
    let less : suc n - 1 ≡ n = omega arith in
    (step, is, subst (λ k. Ends (Leads shows folder k) step outcome) less ends)
