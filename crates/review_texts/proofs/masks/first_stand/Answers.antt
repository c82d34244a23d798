use Rattle.std.proofs.Common.{◌≡◌, ℕ, arith, inl, inr, subst}
use Rattle.std.proofs.lemmas.Bool.{cases_lt}
use Rattle.review_texts.specs.Masks.{StandsAt}
use Rattle.review_texts.proofs.FormPlaces.{stands_within}
use Rattle.review_texts.proofs.masks.first_stand.Goals as goal

pub returns : goal.returns
returns c = λ start end put stands.
    let within = stands_within c.args.readable.now c.args.line.now c.args.form start end put stands in
    c.loop-at.invariant start end put (omega arith) stands

pub loop-at-preserved : goal.loop-at-preserved
loop-at-preserved c =
    let none = rw c.in_default.is at c.in_ok-standing.ensures in
    λ start end put below stands. elim (cases_lt start c.loop-at.at) [
      | inl before ↦ c.loop-at.invariant start end put before stands
      | inr past ↦
          let same : start ≡ c.loop-at.at = omega arith in
          none end put (subst (λ (n : ℕ). StandsAt c.args.readable.now c.args.line.now c.args.form n end put) same stands)
    ]
