-- The last row that fits, from the end back; and the witnesses so far.
use Rattle.std.proofs.Common.{◌≡◌, ◌<◌, ◌+◌, ℕ, Bool, true, false, cond, ◌&&◌, List, [], ◌∷◌, ◌++◌, take, get_or, length, Some, None, refl}
use Rattle.std.proofs.Common.{◌∙◌, ap}
use Rattle.std.specs.Option.{option_or}
use Rattle.std.proofs.lemmas.List.{map-append}
use Rattle.sudo_match.specs.Matching.{command_fits}
use Rattle.sudo_verdict.specs.Last.{last_that}
use Rattle.sudo_verdict.proofs.Lasts.{last_that-append}
use Rattle.review_grants.proofs.ListSteps.{take-more}
use Rattle.review_compare.specs.declared.ruling.Ruled.{Ruled}
use Rattle.review_compare.specs.Cells.{Decider, answered_by, answered_if_any, lined_of, verdict_among}
use Rattle.review_compare.specs.Lines.{Choice, fits_where, is_met, is_unnoted}
use Rattle.review_compare.specs.Body.Shown.{shown, all_shown}

-- with a further row behind the others, which applies or does not
one-more : (ds : List Decider) (d : Decider) (met : Choice) (c x : List ℕ) (b : Bool) → fits_where met c x (lined_of d) ≡ b →
    verdict_among met (ds ++ d ∷ []) c x ≡ cond b (answered_by d.place d.answer) (verdict_among met ds c x)
one-more ds d met c x b is =
    ap answered_if_any (last_that-append (λ e. fits_where met c x (lined_of e)) ds (d ∷ []))
    ∙ ap (λ t. answered_if_any (option_or (option_or None (cond t (Some d) None)) (last_that (λ e. fits_where met c x (lined_of e)) ds))) is
    ∙ go b
  where
    go : (b : Bool) →
        answered_if_any (option_or (option_or None (cond b (Some d) None)) (last_that (λ e. fits_where met c x (lined_of e)) ds))
        ≡ cond b (answered_by d.place d.answer) (verdict_among met ds c x)
    go true = refl
    go false = refl

from-end : (rs : List Ruled) (n m : ℕ) (r : Ruled) (met : Choice) (c x : List ℕ) (b : Bool) → n < length rs → m ≡ n + 1 →
    r ≡ get_or rs n r → fits_where met c x (lined_of (shown r)) ≡ b →
    verdict_among met (all_shown (take m rs)) c x
    ≡ cond b (answered_by r.place r.answer) (verdict_among met (all_shown (take n rs)) c x)
from-end rs n m r met c x b within next is fits =
    ap (λ k. verdict_among met (all_shown (take k rs)) c x) next
    ∙ ap (λ (xs : List Ruled). verdict_among met (all_shown xs) c x) (take-more rs n r within is)
    ∙ ap (λ (ds : List Decider). verdict_among met ds c x) (map-append shown (take n rs) (r ∷ []))
    ∙ one-more (all_shown (take n rs)) (shown r) met c x b fits

-- a row that does not fit applies nowhere
pub passed-by : (rs : List Ruled) (n m : ℕ) (r : Ruled) (met : Choice) (c x : List ℕ) → n < length rs → m ≡ n + 1 →
    r ≡ get_or rs n r → command_fits r.shape.now.atom c x ≡ false →
    verdict_among met (all_shown (take m rs)) c x ≡ verdict_among met (all_shown (take n rs)) c x
passed-by rs n m r met c x within next is out =
    from-end rs n m r met c x false within next is (ap (λ b. b && is_met met (lined_of (shown r))) out)

-- a row that fits applies whichever conditions hold, if nothing is noted before it
pub answered-last : (rs : List Ruled) (n m : ℕ) (r : Ruled) (met : Choice) (c x : List ℕ) → n < length rs → m ≡ n + 1 →
    r ≡ get_or rs n r → command_fits r.shape.now.atom c x ≡ true → is_unnoted r.before.now ≡ true →
    verdict_among met (all_shown (take m rs)) c x ≡ answered_by r.place r.answer
answered-last rs n m r met c x within next is fits none =
    from-end rs n m r met c x true within next is
    (ap (λ b. b && is_met met (lined_of (shown r))) fits ∙ ap (λ b. cond b true (met r.before.now r.shape.now.atom)) none)
