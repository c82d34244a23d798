-- The last that passes two tests is the last that passes the second, among those that pass the first.
use Rattle.std.proofs.Common.{◌≡◌, Bool, true, false, cond, ◌&&◌, List, [], ◌∷◌, Some, None, refl, ◌∙◌, ap}
use Rattle.std.specs.Prelude.{filter}
use Rattle.std.specs.Option.{option_or}
use Rattle.sudo_match.specs.Matching.{command_fits}
use Rattle.sudo_policy.proofs.SurveyLemmas.{option_or-none}
use Rattle.sudo_verdict.specs.Last.{last_that}
use Rattle.sudo_verdict.specs.RunasForms.{runas_allows}
use Rattle.sudo_verdict.specs.Grants.{grants, applies}
use Rattle.sudo_verdict.specs.Verdicts.{verdict_on, verdict_if_any}
use Rattle.review_grants.specs.Rows.{is_row, row_applies, RowsApply, LastRowDecides}

pub last_that-filter :
    {X : Type 0} (h c d : X → Bool) → ((x : X) → h x ≡ (c x && d x)) → (xs : List X) → last_that h xs ≡ last_that d (filter c xs)
last_that-filter h c d both [] = refl
last_that-filter h c d both (x ∷ xs) =
    ap (λ o. option_or o (cond (h x) (Some x) None)) (last_that-filter h c d both xs) ∙ go (h x) (c x) refl (both x)
  where
    go : (b e : Bool) → c x ≡ e → b ≡ (e && d x) → option_or (last_that d (filter c xs)) (cond b (Some x) None)
        ≡ last_that d (cond e (x ∷ filter c xs) (filter c xs))
    go b true is same = ap (λ v. option_or (last_that d (filter c xs)) (cond v (Some x) None)) same
    go b false is same = ap (λ v. option_or (last_that d (filter c xs)) (cond v (Some x) None)) same
        ∙ option_or-none (last_that d (filter c xs))

and_assoc : (a b c : Bool) → ((a && b) && c) ≡ (a && (b && c))
and_assoc true b c = refl
and_assoc false b c = refl

pub rows_apply : RowsApply
unfolding applies
rows_apply p q g =
    and_assoc (is_row p q.user q.host g) (runas_allows p q g.runas) (command_fits g.atom q.command q.arguments)

pub last_row : LastRowDecides
unfolding verdict_on
last_row p q = ap verdict_if_any (last_that-filter (applies p q) (is_row p q.user q.host) (row_applies p q) (rows_apply p q) (grants p))
