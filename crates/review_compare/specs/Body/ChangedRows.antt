-- The rows in which two lists differ, and the rows near them; only proofs of bodies need these definitions.
use Rattle.std.specs.Prelude.{◌≡◌, ◌-◌, ℕ, Bool, true, false, not, List, drop, length, take}
use Rattle.std.specs.List.{list_any}
use Rattle.sudo_match.specs.Matching.{command_fits}
use Rattle.review_compare.specs.Cells.{Decider, verdict_among}
use Rattle.review_compare.specs.Compared.{said}
use Rattle.review_compare.specs.Lines.{Choice}
use Rattle.review_compare.specs.Simply.{disjoint_simply}

-- the items that are neither among so many at the front nor among so many at the back
abbrev pub between : {X : Type 0} → ℕ → ℕ → List X → List X
between front back xs = take (length xs - back - front) (drop front xs)

-- one of the rows fits the command
abbrev pub is_fitted : List Decider → List ℕ → List ℕ → Bool
is_fitted ds command arguments = list_any (λ d. command_fits d.atom command arguments) ds

-- the row may fit a command that one of the changed rows fits
abbrev pub is_near : List Decider → Decider → Bool
is_near changed d = list_any (λ e. not (disjoint_simply d.atom e.atom)) changed

-- whichever noted conditions hold, a command that no changed row fits is answered alike; one that a changed row fits is answered by
-- the near rows
pub record AreChanged (ds es changed near_ds near_es : List Decider) : Type 0 where
  pub others : (met : Choice) (command arguments : List ℕ) → is_fitted changed command arguments ≡ false →
      said (verdict_among met ds command arguments) ≡ said (verdict_among met es command arguments)
  pub old : (met : Choice) (command arguments : List ℕ) → is_fitted changed command arguments ≡ true →
      verdict_among met near_ds command arguments ≡ verdict_among met ds command arguments
  pub new : (met : Choice) (command arguments : List ℕ) → is_fitted changed command arguments ≡ true →
      verdict_among met near_es command arguments ≡ verdict_among met es command arguments
