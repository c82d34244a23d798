-- Up to where the rows of blocks have one that applies wherever a row does, by what is known of each block.
use Rattle.std.proofs.Common.{◌≡◌, ◌≤◌, ◌<◌, ◌+◌, ◌-◌, ◌∙◌, ℕ, zero, suc, Bool, true, false, ◌||◌, List, [], ◌∷◌, ◌++◌}
use Rattle.std.specs.Prelude.{nat_lt}
use Rattle.std.proofs.lemmas.Bool.Decides.{nat_tests}
use Rattle.std.proofs.Common.{ap, arith, drop, get_or, length, refl, sym, take}
use Rattle.std.proofs.lemmas.List.{append_assoc, length-append}
use Rattle.std.proofs.lemmas.List.Folds.{list_any-append}
use Rattle.review_compare.specs.declared.block.Block.{Block}
use Rattle.review_compare.specs.Cells.{Decider, covers_where, lined_of}
use Rattle.review_compare.specs.Lines.{Lined}
use Rattle.review_compare.specs.Body.Chosen.{chosen, deciders_at}
use Rattle.review_compare.specs.Body.Reaches.{reach, reach_after}
use Rattle.review_compare.specs.Body.Shown.{is_covered_by}
use Rattle.review_compare.proofs.ReachLemmas.{reach-past}

-- ---- Rows before others

pub reach-front : (ds es : List Decider) (a : Lined) → reach es a ≡ 0 → reach (ds ++ es) a ≡ reach ds a
reach-front [] es a none = none
reach-front (d ∷ ds) es a none = ap (reach_after (covers_where (lined_of d) a)) (reach-front ds es a none)

pub reach-behind : (ds es : List Decider) (a : Lined) (n : ℕ) → reach es a ≡ suc n → reach (ds ++ es) a ≡ length ds + suc n
reach-behind [] es a n e = let same : suc n ≡ 0 + suc n = omega arith in e ∙ same
reach-behind (d ∷ ds) es a n e =
    let more : length ds + suc n ≡ suc (length ds + n) = omega arith in
    let all : suc (suc (length ds + n)) ≡ suc (length ds) + suc n = omega arith in
    ap (reach_after (covers_where (lined_of d) a)) (reach-behind ds es a n e ∙ more) ∙ all

after-within : (c : Bool) (n m : ℕ) → n ≤ m → reach_after c n ≤ suc m
after-within true zero m within = omega (arith)
after-within false zero m within = omega (arith)
after-within c (suc n) m within = omega (arith, within)

pub reach-within : (ds : List Decider) (a : Lined) → reach ds a ≤ length ds
reach-within [] a = omega arith
reach-within (d ∷ ds) a = after-within (covers_where (lined_of d) a) (reach ds a) (length ds) (reach-within ds a)

-- ---- The rows of blocks, split

pub chosen-split : (bs : List Block) (k : ℕ) (xs : List ℕ) → chosen bs xs ≡ chosen bs (take k xs) ++ chosen bs (drop k xs)
chosen-split bs zero xs = refl
chosen-split bs (suc k) [] = refl
chosen-split bs (suc k) (x ∷ xs) =
    ap (λ ds. deciders_at bs x ++ ds) (chosen-split bs k xs)
    ∙ sym (append_assoc (deciders_at bs x) (chosen bs (take k xs)) (chosen bs (drop k xs)))

pub chosen-from : (bs : List Block) (k : ℕ) (xs : List ℕ) → k < length xs →
    chosen bs (drop k xs) ≡ deciders_at bs (get_or xs k 0) ++ chosen bs (drop (k + 1) xs)
chosen-from bs k [] within = absurd (omega (arith, within))
chosen-from bs zero (y ∷ xs) within = refl
chosen-from bs (suc k) (y ∷ xs) within =
    let on : suc (k + 1) ≡ suc k + 1 = omega arith in
    chosen-from bs k xs (omega (arith, within))
    ∙ ap (λ n. deciders_at bs (get_or xs k 0) ++ chosen bs (drop n (y ∷ xs))) on

pub drop-all : (xs : List ℕ) → drop (length xs) xs ≡ []
drop-all [] = refl
drop-all (x ∷ xs) = drop-all xs

-- ---- So many rows left before those of a block

lengths : (bs : List Block) (xs : List ℕ) (k : ℕ) → k < length xs →
    length (chosen bs xs)
    ≡ length (chosen bs (take k xs)) + (length (deciders_at bs (get_or xs k 0)) + length (chosen bs (drop (k + 1) xs)))
lengths bs xs k within =
    ap length (chosen-split bs k xs) ∙ length-append (chosen bs (take k xs)) (chosen bs (drop k xs))
    ∙ ap (λ ds. length (chosen bs (take k xs)) + length ds) (chosen-from bs k xs within)
    ∙ ap (λ n. length (chosen bs (take k xs)) + n) (length-append (deciders_at bs (get_or xs k 0)) (chosen bs (drop (k + 1) xs)))

before : (bs : List Block) (xs : List ℕ) (k left rows : ℕ) → k < length xs →
    left + length (chosen bs (drop (k + 1) xs)) ≡ length (chosen bs xs) → rows ≡ length (deciders_at bs (get_or xs k 0)) →
    left ≡ length (chosen bs (take k xs)) + rows
before bs xs k left rows within all are = omega (arith, lengths bs xs k within, all, are)

pub rows-within : (bs : List Block) (xs : List ℕ) (k left rows : ℕ) → k < length xs →
    left + length (chosen bs (drop (k + 1) xs)) ≡ length (chosen bs xs) → rows ≡ length (deciders_at bs (get_or xs k 0)) → rows ≤ left
rows-within bs xs k left rows within all are = omega (arith, before bs xs k left rows within all are)

pub left-before : (bs : List Block) (xs : List ℕ) (k left rows : ℕ) → k < length xs →
    left + length (chosen bs (drop (k + 1) xs)) ≡ length (chosen bs xs) → rows ≡ length (deciders_at bs (get_or xs k 0)) →
    left - rows + length (chosen bs (drop k xs)) ≡ length (chosen bs xs)
left-before bs xs k left rows within all are =
    let own : length (chosen bs (drop k xs)) ≡ length (deciders_at bs (get_or xs k 0)) + length (chosen bs (drop (k + 1) xs)) =
    ap length (chosen-from bs k xs within) ∙ length-append (deciders_at bs (get_or xs k 0)) (chosen bs (drop (k + 1) xs)) in
    omega (arith, before bs xs k left rows within all are, own, all, are)

reach-from : (bs : List Block) (xs : List ℕ) (k : ℕ) (a : Lined) → k < length xs → reach (chosen bs (drop (k + 1) xs)) a ≡ 0 →
    reach (chosen bs (drop k xs)) a ≡ reach (deciders_at bs (get_or xs k 0)) a
reach-from bs xs k a within none =
    ap (λ ds. reach ds a) (chosen-from bs k xs within) ∙ reach-front (deciders_at bs (get_or xs k 0)) (chosen bs (drop (k + 1) xs)) a none

pub none-from : (bs : List Block) (xs : List ℕ) (k own : ℕ) (a : Lined) → k < length xs → reach (chosen bs (drop (k + 1) xs)) a ≡ 0 →
    own ≡ reach (deciders_at bs (get_or xs k 0)) a → own ≤ 0 → reach (chosen bs (drop k xs)) a ≡ 0
none-from bs xs k own a within none is few =
    let nothing : own ≡ 0 = omega (arith, few) in reach-from bs xs k a within none ∙ sym is ∙ nothing

pub reach-here : (bs : List Block) (xs : List ℕ) (k left rows own : ℕ) (a : Lined) → k < length xs →
    left + length (chosen bs (drop (k + 1) xs)) ≡ length (chosen bs xs) → rows ≡ length (deciders_at bs (get_or xs k 0)) →
    reach (chosen bs (drop (k + 1) xs)) a ≡ 0 → own ≡ reach (deciders_at bs (get_or xs k 0)) a → 0 < own →
    left - rows + own ≡ reach (chosen bs xs) a
reach-here bs xs k left rows zero a within all are none is some = absurd (omega (arith, some))
reach-here bs xs k left rows (suc n) a within all are none is some =
    let first : left - rows ≡ length (chosen bs (take k xs)) = omega (arith, before bs xs k left rows within all are) in
    ap (λ m. m + suc n) first
    ∙ sym (reach-behind (chosen bs (take k xs)) (chosen bs (drop k xs)) a n (reach-from bs xs k a within none ∙ sym is))
    ∙ sym (ap (λ ds. reach ds a) (chosen-split bs k xs))

pub own-within : (bs : List Block) (x rows own : ℕ) (a : Lined) → rows ≡ length (deciders_at bs x) → own ≡ reach (deciders_at bs x) a →
    own ≤ rows
own-within bs x rows own a are is = omega (arith, reach-within (deciders_at bs x) a, are, is)

-- ---- A row of a block that applies wherever the row does

or-true : (b : Bool) → (b || true) ≡ true
or-true true = refl
or-true false = refl

pub covered-at : (bs : List Block) (xs : List ℕ) (k n : ℕ) (a : Lined) → k < length xs →
    n ≡ reach (deciders_at bs (get_or xs k 0)) a → 0 < n → is_covered_by (chosen bs xs) a ≡ true
covered-at bs xs k n a within is some =
    let ds = deciders_at bs (get_or xs k 0) in
    let more = chosen bs (drop (k + 1) xs) in
    let past : nat_lt 0 n ≡ true = grind (arith, nat_tests, some) in
    let own : is_covered_by ds a ≡ true = sym (reach-past ds a 0) ∙ sym (ap (λ m. nat_lt 0 m) is) ∙ past in
    ap (λ es. is_covered_by es a) (chosen-split bs k xs ∙ ap (λ es. chosen bs (take k xs) ++ es) (chosen-from bs k xs within))
    ∙ list_any-append (λ d. covers_where (lined_of d) a) (chosen bs (take k xs)) (ds ++ more)
    ∙ ap (λ b. is_covered_by (chosen bs (take k xs)) a || b)
    (list_any-append (λ d. covers_where (lined_of d) a) ds more ∙ ap (λ b. b || is_covered_by more a) own)
    ∙ or-true (is_covered_by (chosen bs (take k xs)) a)
