-- Which verdicts hold whatever is noted: whatever the digests, the times and the roots are, and
-- whatever the regular expressions fit. A test of grants stands for what
-- sudo does: it may only fail where a grant applies, and only where its rule has a note.
use Rattle.std.specs.Prelude.{◌≡◌, Bool, true, [], Some, None}
use Rattle.sudo_grammar.specs.declared.policy.Policy.{Policy}
use Rattle.sudo_verdict.specs.Last.{last_that}
use Rattle.sudo_verdict.specs.Questions.{Question}
use Rattle.sudo_verdict.specs.Grants.{Grant, grants, applies}
use Rattle.sudo_verdict.specs.Verdicts.{verdict_if_any, verdict_on}
use Rattle.review_grants.specs.Depends.{notes_at, verdict_depends}

-- the test holds of no grant that does not apply, and of each that does at a place without notes
pub record FailsByNotes (p : Policy) (q : Question) (f : Grant → Bool) : Type 0 where
  pub only : (g : Grant) → f g ≡ true → applies p q g ≡ true
  pub unnoted : (g : Grant) → notes_at p g.place ≡ [] → applies p q g ≡ true → f g ≡ true

-- if the last grant that applies is at a place without notes, then it is the last that the test holds of
abbrev pub LastHolds : Type 0
LastHolds = (p : Policy) (q : Question) (f : Grant → Bool) (g : Grant) → FailsByNotes p q f
    → last_that (applies p q) (grants p) ≡ Some g → notes_at p g.place ≡ [] → last_that f (grants p) ≡ Some g

-- if no grant applies, then the test holds of none
abbrev pub NoneHolds : Type 0
NoneHolds = (p : Policy) (q : Question) (f : Grant → Bool) → FailsByNotes p q f
    → last_that (applies p q) (grants p) ≡ None → last_that f (grants p) ≡ None

-- a verdict that depends on nothing is that of the last grant that the test holds of
abbrev pub VerdictHolds : Type 0
VerdictHolds = (p : Policy) (q : Question) (f : Grant → Bool) → FailsByNotes p q f
    → verdict_depends p (verdict_on p q) ≡ [] → verdict_if_any (last_that f (grants p)) ≡ verdict_on p q
