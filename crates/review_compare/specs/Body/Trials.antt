-- Rows that are tried, and witnesses that trials add; only proofs of bodies need these definitions.
use Rattle.std.specs.Prelude.{◌≡◌, List, All}
use Rattle.review_compare.specs.declared.trials.Trial.{Trial}
use Rattle.review_compare.specs.declared.witness.Witness.{Witness}
use Rattle.review_compare.specs.Body.Chosen.{chosen}
use Rattle.review_compare.specs.Body.RowReaches.{HaveReaches}
use Rattle.review_compare.specs.Body.Shown.{IsShownWitness, all_shown}

-- the rows are those of the blocks at the indices, in both policies, and the reaches those in the parts
pub record IsTrial (t : Trial) : Type 0 where
  pub old : all_shown t.old_rows.now ≡ chosen t.parts.now.old.items t.old.now
  pub new : all_shown t.new_rows.now ≡ chosen t.parts.now.new.items t.new.now
  pub reaches : HaveReaches t.parts.now t.reaches.now

-- where each of these is a witness, each of those is
abbrev pub StayWitnesses : Trial → List Witness → List Witness → Type 0
StayWitnesses t before after =
    All (IsShownWitness t.old_rows.now t.new_rows.now) before → All (IsShownWitness t.old_rows.now t.new_rows.now) after
