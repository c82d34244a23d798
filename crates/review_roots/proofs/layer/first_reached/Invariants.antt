use Rattle.std.proofs.Common.{◌≡◌, false, take}
use Rattle.std.specs.Prelude.{All}
use Rattle.review_roots.specs.Body.Found.{reaches}
use Rattle.review_roots.proofs.layer.first_reached.Given as goal

-- none of the aims so far is reached
abbrev pub invariant-loop-place : goal.invariant-loop-place
invariant-loop-place l = All (λ a. reaches l.steps a.aim l.candidate ≡ false) (take l.place l.aims)
