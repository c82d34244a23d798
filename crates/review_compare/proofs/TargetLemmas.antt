-- Lists of targets, in which some stand as ranges.
use Rattle.std.proofs.Common.{◌≡◌, ◌≤◌, ◌+◌, ◌∙◌, ℕ, zero, suc, ◌||◌, List, [], ◌∷◌, ◌++◌, ap, arith, refl, sym, Option, Some}
use Rattle.std.specs.Prelude.{◌-◌, IsPermutation, map}
use Rattle.std.specs.List.{list_any, range_with_len}
use Rattle.std.proofs.lemmas.List.{append_assoc, map-append}
use Rattle.std.proofs.lemmas.List.FromFn.{map-range_with_len_more}
use Rattle.std.proofs.lemmas.List.Folds.{list_any-append}
use Rattle.std.proofs.lemmas.List.Sorted.{list_any-IsPermutation}
use Rattle.review_compare.specs.declared.cell.AskedTargets.{AskedTargets}
use Rattle.review_compare.specs.Differences.{each_target, same_number, targets_of}
use Rattle.review_compare.specs.Body.Merged.{has_target}

-- ---- Ranges

counted : (first n m : ℕ) → range_with_len first (n + m) ≡ range_with_len first n ++ range_with_len (first + n) m
counted first zero m =
    let short : 0 + m ≡ m = omega arith in
    let same : first ≡ first + 0 = omega arith in
    ap (range_with_len first) short ∙ ap (λ f. range_with_len f m) same
counted first (suc n) m =
    let more : suc n + m ≡ suc (n + m) = omega arith in
    let there : (first + 1) + n ≡ first + suc n = omega arith in
    ap (range_with_len first) more
    ∙ ap (λ is. first ∷ is) (counted (first + 1) n m ∙ ap (λ f. range_with_len (first + 1) n ++ range_with_len f m) there)

-- a range of users, one by one
abbrev pub users_from : ℕ → ℕ → List (Option ℕ)
users_from first end = map (λ i. Some i) (range_with_len first (end - first))

pub ranges-joined : (first middle end : ℕ) → first ≤ middle → middle ≤ end →
    users_from first end ≡ users_from first middle ++ users_from middle end
ranges-joined first middle end less more =
    ap (λ n. map (λ i. Some i) (range_with_len first n)) long
    ∙ ap (map (λ i. Some i)) (counted first (middle - first) (end - middle)
    ∙ ap (λ f. range_with_len first (middle - first) ++ range_with_len f (end - middle)) there)
    ∙ map-append (λ i. Some i) (range_with_len first (middle - first)) (range_with_len middle (end - middle))
  where
    long : end - first ≡ (middle - first) + (end - middle)
    long = omega (arith, less, more)

    there : first + (middle - first) ≡ middle
    there = omega (arith, less)

pub range-more : (old mid new : List (Option ℕ)) (first index : ℕ) → first ≤ index → mid ≡ old ++ users_from first index →
    new ≡ mid ++ Some index ∷ [] → new ≡ old ++ users_from first (index + 1)
range-more old mid new first index less so_far pushed =
    pushed ∙ ap (λ ts. ts ++ Some index ∷ []) so_far ∙ append_assoc old (users_from first index) (Some index ∷ [])
    ∙ ap (λ ts. old ++ ts) (sym (map-range_with_len_more (λ i. Some i) first (index - first) index there)
    ∙ ap (λ n. map (λ i. Some i) (range_with_len first n)) long)
  where
    there : first + (index - first) ≡ index
    there = omega (arith, less)

    long : (index - first) + 1 ≡ (index + 1) - first
    long = omega (arith, less)

pub range-all : (old new : List (Option ℕ)) (first index end : ℕ) → first ≤ index → index - first ≤ end - first → end ≤ index →
    new ≡ old ++ users_from first index → new ≡ old ++ users_from first end
range-all old new first index end less within past so_far =
    so_far ∙ ap (λ n. old ++ map (λ i. Some i) (range_with_len first n)) long
  where
    long : index - first ≡ end - first
    long = omega (arith, less, within, past)

-- ---- Order

each-any : (t : Option ℕ) (xs : List AskedTargets) → has_target xs t ≡ list_any (λ x. list_any (same_number t) (each_target x)) xs
each-any t [] = refl
each-any t (x ∷ xs) =
    list_any-append (same_number t) (each_target x) (targets_of xs)
    ∙ ap (λ b. list_any (same_number t) (each_target x) || b) (each-any t xs)

-- the same targets in another order
pub has-permuted : (xs ys : List AskedTargets) → IsPermutation xs ys → (t : Option ℕ) → has_target ys t ≡ has_target xs t
has-permuted xs ys is t =
    each-any t ys ∙ sym (list_any-IsPermutation (λ x. list_any (same_number t) (each_target x)) xs ys is) ∙ sym (each-any t xs)
