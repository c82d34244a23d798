-- Where nothing is noted, verdicts are the same whichever conditions hold.
use Rattle.std.proofs.Common.{◌≡◌, ◌∙◌, ℕ, false, ◌||◌, List, [], ◌∷◌, ap, map, refl, sym, true}
use Rattle.std.specs.Prelude.{filter}
use Rattle.std.specs.List.{list_any}
use Rattle.sudo_grammar.specs.declared.policy.Policy.{Policy}
use Rattle.sudo_verdict.specs.Last.{last_that}
use Rattle.sudo_verdict.specs.Questions.{Question}
use Rattle.sudo_verdict.specs.Grants.{Grant, grants}
use Rattle.sudo_verdict.proofs.Lasts.{last_that-map}
use Rattle.review_grants.specs.Depends.{is_note_grant}
use Rattle.review_grants.proofs.ListSteps.{filter-mapped, map-twice}
use Rattle.review_compare.specs.Lines.{Choice, all_met, fits_where, nowhere}
use Rattle.review_compare.specs.Cells.{Decider, NothingDepends, Wide, answered_if_any, deciders, lined_of, wide_of, wide_stands}
use Rattle.review_compare.specs.Body.LineAtoms.{has_note}
use Rattle.review_compare.proofs.CellLemmas.{rows_decide}
use Rattle.review_compare.proofs.LineLemmas.{unnoted-lined}

-- a grant as a row before which nothing stands
abbrev alone : Grant → Decider
alone g = (wide_of g).decider

pub no-notes : (gs : List Grant) → has_note (map wide_of gs) ≡ list_any is_note_grant gs
no-notes [] = refl
no-notes (g ∷ gs) = ap (λ b. is_note_grant g || b) (no-notes gs)

-- the rows are the grants, before which nothing stands
rows-alone : (p : Policy) (q : Question) → list_any is_note_grant (grants p) ≡ false →
    deciders p q ≡ map alone (filter (λ g. wide_stands p q (wide_of g)) (grants p))
rows-alone p q none =
    ap (λ (ws : List Wide). map (λ w. w.decider) (filter (wide_stands p q) ws))
    (unnoted-lined nowhere (grants p) refl (no-notes (grants p) ∙ none))
    ∙ ap (map (λ (w : Wide). w.decider)) (filter-mapped (wide_stands p q) wide_of (grants p))
    ∙ map-twice (λ (w : Wide). w.decider) wide_of (filter (λ g. wide_stands p q (wide_of g)) (grants p))

same-last : (met : Choice) (c x : List ℕ) (gs : List Grant) →
    last_that (λ d. fits_where met c x (lined_of d)) (map alone gs) ≡ last_that (λ d. fits_where all_met c x (lined_of d)) (map alone gs)
same-last met c x gs =
    last_that-map true (λ g. fits_where all_met c x (lined_of (alone g))) (λ d. fits_where met c x (lined_of d)) alone (λ g. refl) gs
    ∙ sym (last_that-map true (λ g. fits_where all_met c x (lined_of (alone g))) (λ d. fits_where all_met c x (lined_of d)) alone
    (λ g. refl) gs)

pub nothing_depends : NothingDepends
nothing_depends p none q met c x =
    ap (λ (ds : List Decider). answered_if_any (last_that (λ d. fits_where met c x (lined_of d)) ds)) (rows-alone p q none)
    ∙ ap answered_if_any (same-last met c x (filter (λ g. wide_stands p q (wide_of g)) (grants p)))
    ∙ sym (ap (λ (ds : List Decider). answered_if_any (last_that (λ d. fits_where all_met c x (lined_of d)) ds)) (rows-alone p q none))
    ∙ sym (rows_decide p q c x)
