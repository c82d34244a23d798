-- Up to where rows have one that applies wherever a row does.
use Rattle.std.proofs.Common.{◌≡◌, ◌<◌, ◌≤◌, ◌+◌, ◌-◌, ◌⊎◌, inl, inr, ℕ, zero, suc}
use Rattle.std.proofs.Common.{Bool, true, false, ◌||◌, List, [], ◌∷◌, map, refl, sym, ◌∙◌}
use Rattle.std.proofs.Common.{ap, arith, drop, get_or, length, take}
use Rattle.std.specs.Prelude.{nat_lt}
use Rattle.std.proofs.lemmas.Bool.{cases_lt}
use Rattle.std.proofs.lemmas.Bool.Decides.{nat_tests}
use Rattle.std.proofs.lemmas.List.{get_or-drop, get_or-map, get_or-take, length-map, length-take}
use Rattle.review_compare.specs.declared.reach.Reach.{Reach}
use Rattle.review_compare.specs.declared.ruling.Ruled.{Ruled}
use Rattle.review_compare.specs.Cells.{Decider, covers_where, lined_of}
use Rattle.review_compare.specs.Lines.{Lined}
use Rattle.review_compare.specs.Body.Reaches.{IsReachAt, reach, reach_after, reach_of}
use Rattle.review_compare.specs.Body.Shown.{all_shown, is_covered_by, is_covered_by_either, shown}
use Rattle.review_compare.proofs.RulingLemmas.{drop-at}

-- ---- What is past so many rows

less-next : (i n : ℕ) → nat_lt (suc i) (suc n) ≡ nat_lt i n
less-next i n = go (cases_lt i n)
  where
    go : (i < n) ⊎ (n ≤ i) → nat_lt (suc i) (suc n) ≡ nat_lt i n
    go (inl less) =
        let own : nat_lt (suc i) (suc n) ≡ true = grind (arith, nat_tests, less) in
        let its : nat_lt i n ≡ true = grind (arith, nat_tests, less) in own ∙ sym its
    go (inr more) =
        let own : nat_lt (suc i) (suc n) ≡ false = grind (arith, nat_tests, more) in
        let its : nat_lt i n ≡ false = grind (arith, nat_tests, more) in own ∙ sym its

none-less : (i : ℕ) → nat_lt i 0 ≡ false
none-less i = grind (arith, nat_tests)

first-past : (c : Bool) (n : ℕ) (x : Bool) → nat_lt 0 n ≡ x → nat_lt 0 (reach_after c n) ≡ (c || x)
first-past true zero x e = refl
first-past false zero x e = e
first-past true (suc n) x e = grind (arith, nat_tests)
first-past false (suc n) x e =
    let more : nat_lt 0 (suc (suc n)) ≡ true = grind (arith, nat_tests) in
    let some : nat_lt 0 (suc n) ≡ true = grind (arith, nat_tests) in more ∙ sym some ∙ e

further-past : (c : Bool) (n i : ℕ) (x : Bool) → nat_lt i n ≡ x → nat_lt (suc i) (reach_after c n) ≡ x
further-past true zero i x e = less-next i 0 ∙ e
further-past false zero i x e = none-less (suc i) ∙ sym (none-less i) ∙ e
further-past c (suc n) i x e = less-next i (suc n) ∙ e

pub reach-past : (ds : List Decider) (a : Lined) (i : ℕ) → nat_lt i (reach ds a) ≡ is_covered_by (drop i ds) a
reach-past [] a zero = refl
reach-past [] a (suc i) = none-less (suc i)
reach-past (d ∷ ds) a zero = first-past (covers_where (lined_of d) a) (reach ds a) (is_covered_by ds a) (reach-past ds a 0)
reach-past (d ∷ ds) a (suc i) = further-past (covers_where (lined_of d) a) (reach ds a) i (is_covered_by (drop i ds) a) (reach-past ds a i)

-- ---- A row that covers, and none behind it

drop-shown : (rs : List Ruled) (i : ℕ) → drop i (all_shown rs) ≡ all_shown (drop i rs)
drop-shown rs zero = refl
drop-shown [] (suc i) = refl
drop-shown (r ∷ rs) (suc i) = drop-shown rs i

-- whether a row from these on, of either list, applies wherever the row does
pub past-covered : (rs ss : List Ruled) (r : Ruled) (i j : ℕ) → (nat_lt i (reach_of rs ss r).old || nat_lt j (reach_of rs ss r).new)
    ≡ is_covered_by_either (all_shown (drop i rs)) (all_shown (drop j ss)) (lined_of (shown r))
past-covered rs ss r i j =
    ap (λ b. b || nat_lt j (reach (all_shown ss) (lined_of (shown r))))
    (reach-past (all_shown rs) (lined_of (shown r)) i ∙ ap (λ ds. is_covered_by ds (lined_of (shown r))) (drop-shown rs i))
    ∙ ap (λ b. is_covered_by (all_shown (drop i rs)) (lined_of (shown r)) || b)
    (reach-past (all_shown ss) (lined_of (shown r)) j ∙ ap (λ ds. is_covered_by ds (lined_of (shown r))) (drop-shown ss j))

reach-drop : (rs : List Ruled) (a : Lined) (i n : ℕ) → i ≤ length rs → reach (all_shown (drop i rs)) a ≡ suc n →
    reach (all_shown rs) a ≡ i + suc n
reach-drop rs a zero n within e = e ∙ (let same : suc n ≡ 0 + suc n = omega arith in same)
reach-drop [] a (suc i) n within e = absurd (omega (arith, within))
reach-drop (r ∷ rs) a (suc i) n within e =
    let rest : reach (all_shown rs) a ≡ i + suc n = reach-drop rs a i n (omega (arith, within)) e in
    let more : i + suc n ≡ suc (i + n) = omega arith in
    let all : suc (suc (i + n)) ≡ suc i + suc n = omega arith in
    ap (reach_after (covers_where (lined_of (shown r)) a)) (rest ∙ more) ∙ all

pub reach-none : (rs : List Ruled) (r : Ruled) (i : ℕ) (a : Lined) → i < length rs → r ≡ get_or rs i r →
    covers_where (lined_of (shown r)) a ≡ false → reach (all_shown (drop (i + 1) rs)) a ≡ 0 → reach (all_shown (drop i rs)) a ≡ 0
reach-none rs r i a within is apart none =
    ap (λ (ks : List Ruled). reach (all_shown ks) a) (drop-at rs i r within is)
    ∙ ap (λ b. reach_after b (reach (all_shown (drop (i + 1) rs)) a)) apart ∙ ap (reach_after false) none

pub reach-at : (rs : List Ruled) (r : Ruled) (i : ℕ) (a : Lined) → i < length rs → r ≡ get_or rs i r →
    covers_where (lined_of (shown r)) a ≡ true → reach (all_shown (drop (i + 1) rs)) a ≡ 0 → reach (all_shown rs) a ≡ i + 1
reach-at rs r i a within is covers none =
    reach-drop rs a i 0 (omega (arith, within))
    (ap (λ (ks : List Ruled). reach (all_shown ks) a) (drop-at rs i r within is)
    ∙ ap (λ b. reach_after b (reach (all_shown (drop (i + 1) rs)) a)) covers ∙ ap (reach_after true) none)

-- ---- The reach of a row at an index

pub reach-here : (rs ss rows : List Ruled) (front n index : ℕ) (reaches : List Reach) (r : Reach) (row : Ruled) →
    reaches ≡ map (reach_of rs ss) (take n (drop front rows)) → IsReachAt reaches front index r → row ≡ get_or rows index row →
    r ≡ reach_of rs ss row
reach-here rs ss rows front n index reaches r row are at is =
    let part = take n (drop front rows) in
    let k : ℕ = index - front in
    let here : front + k ≡ index = omega (arith, at.behind) in
    let long : length reaches ≡ length part = ap length are ∙ length-map part (reach_of rs ss) in
    let below : k < length part = omega (arith, at.within, long) in
    let less : k < n = omega (arith, below, length-take n (drop front rows)) in
    at.is ∙ ap (λ (xs : List Reach). get_or xs k r) are
    ∙ get_or-map (reach_of rs ss) part k row r below
    ∙ ap (reach_of rs ss)
    (get_or-take n (drop front rows) k row less ∙ get_or-drop front rows k row ∙ ap (λ j. get_or rows j row) here ∙ sym is)
