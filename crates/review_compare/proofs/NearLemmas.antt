-- The comparison of the blocks near a change holds for all blocks.
use Rattle.std.proofs.Common.{◌≡◌, ◌<◌, ◌≤◌, ◌+◌, ◌-◌, ◌∙◌, ◌⊎◌, inl, inr, ℕ, zero, suc, Bool, true, false, cond, ◌&&◌, ◌||◌}
use Rattle.std.proofs.Common.{List, [], ◌∷◌, ◌++◌}
use Rattle.std.proofs.Common.{ap, arith, flat_map, map, refl, subst, sym, length, Option, Some, None}
use Rattle.std.specs.Prelude.{filter, slice_get}
use Rattle.std.specs.List.{list_any, range_with_len}
use Rattle.std.specs.Option.{option_or}
use Rattle.std.proofs.lemmas.List.Elements.{All-weaker, filter-append}
use Rattle.std.proofs.lemmas.List.Folds.{list_any-append}
use Rattle.sudo_grammar.specs.declared.policy.Policy.{Policy}
use Rattle.sudo_match.specs.declared.request.Tags.{Tags}
use Rattle.sudo_match.specs.declared.request.Verdict.{Verdict}
use Rattle.sudo_match.specs.Matching.{command_fits}
use Rattle.sudo_verdict.specs.Last.{last_that}
use Rattle.sudo_verdict.specs.Questions.{Question}
use Rattle.sudo_verdict.proofs.Lasts.{last_that-append}
use Rattle.review_grants.specs.Targets.{allowed}
use Rattle.review_compare.specs.declared.block.Block.{Block}
use Rattle.review_compare.specs.declared.common.Common.{Common}
use Rattle.review_compare.specs.declared.compared.Compared.{Compared}
use Rattle.review_compare.specs.declared.compared.Compared.TheVariants as compared
use Rattle.review_compare.specs.declared.pair.Pair.{Pair}
use Rattle.review_compare.specs.declared.witness.Witness.{Witness}
use Rattle.review_compare.specs.Agreement.{Ruling}
use Rattle.review_compare.specs.Blocks.{AreBlocks, block_stands}
use Rattle.review_compare.specs.Cells.{Decider, answer_between, answered_if_any, change_of, deciders, lined_of, ruling_by, same_said}
use Rattle.review_compare.specs.Cells.{verdict_among}
use Rattle.review_compare.specs.Compared.{said, same_answer, same_choice, same_choices}
use Rattle.review_compare.specs.Lines.{Choice, Lined, all_met, fits_where}
use Rattle.review_compare.specs.Unsettled.{IsUnsettled}
use Rattle.review_compare.specs.Witnesses.{IsCompared, IsWitness}
use Rattle.review_compare.specs.Body.ChangedRows.{AreChanged, is_fitted, is_near}
use Rattle.review_compare.specs.Body.Chosen.{chosen, deciders_at, deciders_if, deciders_of, standing_if}
use Rattle.review_compare.specs.Body.AskClasses.{changed_by, kept_new, kept_old}
use Rattle.review_compare.specs.Body.Near.{AreParts, HaveParts, IsFoundNear, changed_rows, has_near, if_near, middle, near_at}
use Rattle.review_compare.specs.Body.Near.{near_deciders, near_of}
use Rattle.review_compare.specs.Body.Unchanged.{AreCommon}
use Rattle.review_compare.proofs.ChangedLemmas.{fits-alone, near-decide, near-fits, or-parts, unfitted}
use Rattle.review_compare.proofs.ChosenLemmas.{all-stand, blocks-decide}
use Rattle.review_compare.proofs.UnsettledLemmas.{unsettled-all}
use Rattle.review_compare.proofs.UnchangedLemmas.{joined, mapped-flat, pairwise}

-- ---- Rows of which one is near

-- where none is near, none fits a command that a changed row fits
none-fits : (changed ds : List Decider) (met : Choice) (c x : List ℕ) → is_fitted changed c x ≡ true → has_near changed ds ≡ false →
    last_that (λ d. fits_where met c x (lined_of d)) ds ≡ None
none-fits changed [] met c x e none = refl
none-fits changed (d ∷ ds) met c x e none =
    let both = or-parts (is_near changed d) (has_near changed ds) none in
    ap (λ o. option_or o (cond (fits_where met c x (lined_of d)) (Some d) None)) (none-fits changed ds met c x e both.1)
    ∙ by (fits_where met c x (lined_of d)) refl both.0
  where
    by : (f : Bool) → fits_where met c x (lined_of d) ≡ f → is_near changed d ≡ false →
        cond (fits_where met c x (lined_of d)) (Some d) None ≡ None
    by false is apart = ap (λ f. cond f (Some d) None) is
    by true is apart =
        let bad : true ≡ false = sym (near-fits changed d c x e (fits-alone met c x (lined_of d) is)) ∙ apart in cc

last-near : (changed ds : List Decider) (met : Choice) (c x : List ℕ) → is_fitted changed c x ≡ true →
    last_that (λ d. fits_where met c x (lined_of d)) (if_near changed ds) ≡ last_that (λ d. fits_where met c x (lined_of d)) ds
last-near changed ds met c x e = by (has_near changed ds) refl
  where
    by : (b : Bool) → has_near changed ds ≡ b →
        last_that (λ d. fits_where met c x (lined_of d)) (cond b ds []) ≡ last_that (λ d. fits_where met c x (lined_of d)) ds
    by true is = refl
    by false is = sym (none-fits changed ds met c x e is)

-- the near rows decide a command that a changed row fits
near-last : (changed : List Decider) (f : ℕ → List Decider) (is : List ℕ) (met : Choice) (c x : List ℕ) → is_fitted changed c x ≡ true →
    last_that (λ d. fits_where met c x (lined_of d)) (flat_map (λ i. if_near changed (f i)) is)
    ≡ last_that (λ d. fits_where met c x (lined_of d)) (flat_map f is)
near-last changed f [] met c x e = refl
near-last changed f (i ∷ is) met c x e =
    let T : List Decider → Option Decider = last_that (λ d. fits_where met c x (lined_of d)) in
    last_that-append (λ d. fits_where met c x (lined_of d)) (if_near changed (f i)) (flat_map (λ i. if_near changed (f i)) is)
    ∙ ap (λ o. option_or o (T (if_near changed (f i)))) (near-last changed f is met c x e)
    ∙ ap (λ o. option_or (T (flat_map f is)) o) (last-near changed (f i) met c x e)
    ∙ sym (last_that-append (λ d. fits_where met c x (lined_of d)) (f i) (flat_map f is))

-- ---- Rulings of which one is near

abbrev near_ruling : List Decider → Ruling Lined (Option Tags) → Bool
near_ruling changed r =
    is_near changed
    (record { place = record { file = 0; line = 0 }; answer = r.answer; before = r.atom.before; atom = r.atom.atom })

any-ruled : (changed ds : List Decider) → has_near changed ds ≡ list_any (near_ruling changed) (map ruling_by ds)
any-ruled changed [] = refl
any-ruled changed (d ∷ ds) = ap (λ b. is_near changed d || b) (any-ruled changed ds)

near-alike : (changed ds es : List Decider) → map ruling_by ds ≡ map ruling_by es →
    map ruling_by (if_near changed ds) ≡ map ruling_by (if_near changed es)
near-alike changed ds es e =
    ap (λ b. map ruling_by (cond b ds []))
    (any-ruled changed ds ∙ ap (list_any (near_ruling changed)) e ∙ sym (any-ruled changed es))
    ∙ by (has_near changed es)
  where
    by : (b : Bool) → map ruling_by (cond b ds []) ≡ map ruling_by (cond b es [])
    by true = e
    by false = refl

-- the near ones of rows that are alike are alike
filter-ruled : (changed ds : List Decider) → map ruling_by (near_of changed ds) ≡ filter (near_ruling changed) (map ruling_by ds)
filter-ruled changed [] = refl
filter-ruled changed (d ∷ ds) =
    by (is_near changed d)
    ∙ ap (λ (rs : List (Ruling Lined (Option Tags))). cond (is_near changed d) (ruling_by d ∷ rs) rs) (filter-ruled changed ds)
  where
    by : (b : Bool) → map ruling_by (cond b (d ∷ near_of changed ds) (near_of changed ds))
        ≡ cond b (ruling_by d ∷ map ruling_by (near_of changed ds)) (map ruling_by (near_of changed ds))
    by true = refl
    by false = refl

filter-alike : (changed ds es : List Decider) → map ruling_by ds ≡ map ruling_by es →
    map ruling_by (near_of changed ds) ≡ map ruling_by (near_of changed es)
filter-alike changed ds es e =
    filter-ruled changed ds ∙ ap (filter (near_ruling changed)) e ∙ sym (filter-ruled changed es)

filter-unfitted : (changed ds : List Decider) (c x : List ℕ) → is_fitted ds c x ≡ false → is_fitted (near_of changed ds) c x ≡ false
filter-unfitted changed [] c x e = refl
filter-unfitted changed (d ∷ ds) c x e =
    let both = or-parts (command_fits d.atom c x) (is_fitted ds c x) e in
    by both.0 (filter-unfitted changed ds c x both.1) (is_near changed d)
  where
    by : command_fits d.atom c x ≡ false → is_fitted (near_of changed ds) c x ≡ false → (b : Bool) →
        is_fitted (cond b (d ∷ near_of changed ds) (near_of changed ds)) c x ≡ false
    by own rest true = ap (λ v. v || is_fitted (near_of changed ds) c x) own ∙ rest
    by own rest false = rest

-- the near ones of the rows of blocks, block by block
filter-flat : (changed : List Decider) (f : ℕ → List Decider) (is : List ℕ) →
    near_of changed (flat_map f is) ≡ flat_map (λ i. near_of changed (f i)) is
filter-flat changed f [] = refl
filter-flat changed f (i ∷ is) =
    filter-append (is_near changed) (f i) (flat_map f is)
    ∙ ap (λ (ds : List Decider). near_of changed (f i) ++ ds) (filter-flat changed f is)

-- rows that are left out are not near
near-if : (changed ds : List Decider) → near_of changed (if_near changed ds) ≡ near_of changed ds
near-if changed ds = by (has_near changed ds) refl
  where
    none : (es : List Decider) → has_near changed es ≡ false → [] ≡ near_of changed es
    none [] far = refl
    none (e ∷ es) far =
        let both = or-parts (is_near changed e) (has_near changed es) far in
        none es both.1 ∙ ap (λ b. cond b (e ∷ near_of changed es) (near_of changed es)) (sym both.0)

    by : (b : Bool) → has_near changed ds ≡ b → near_of changed (cond b ds []) ≡ near_of changed ds
    by true is = refl
    by false is = none ds is

pub near-twice : (changed ds : List Decider) → near_of changed (near_of changed ds) ≡ near_of changed ds
near-twice changed [] = refl
near-twice changed (d ∷ ds) = by (near-twice changed ds) (is_near changed d) refl
  where
    by : near_of changed (near_of changed ds) ≡ near_of changed ds → (b : Bool) → is_near changed d ≡ b →
        near_of changed (cond b (d ∷ near_of changed ds) (near_of changed ds)) ≡ cond b (d ∷ near_of changed ds) (near_of changed ds)
    by rest true is =
        ap (λ b. cond b (d ∷ near_of changed (near_of changed ds)) (near_of changed (near_of changed ds))) is
        ∙ ap (λ (es : List Decider). d ∷ es) rest
    by rest false is = rest

flat-same : (f g : ℕ → List Decider) → ((i : ℕ) → f i ≡ g i) → (is : List ℕ) → flat_map f is ≡ flat_map g is
flat-same f g same [] = refl
flat-same f g same (i ∷ is) =
    ap (λ (ds : List Decider). ds ++ flat_map f is) (same i) ∙ ap (λ (ds : List Decider). g i ++ ds) (flat-same f g same is)

-- what the blocks with their near rows alone answer
pub part-at : (changed : List Decider) (bs parts : List Block) → AreParts changed bs parts → (i : ℕ) →
    near_of changed (deciders_at bs i) ≡ deciders_at parts i
part-at changed [] [] are i = refl
part-at changed [] (q ∷ parts) are i = absurd are
part-at changed (b ∷ bs) [] are i = absurd are
part-at changed (b ∷ bs) (q ∷ parts) are zero = sym are.0
part-at changed (b ∷ bs) (q ∷ parts) are (suc i) = part-at changed bs parts are.1 i

pub parts-chosen : (changed : List Decider) (bs parts : List Block) → HaveParts changed bs parts → (is : List ℕ) →
    near_of changed (chosen bs is) ≡ chosen parts is
parts-chosen changed bs parts are is = filter-flat changed (deciders_at bs) is ∙ each is
  where
    each : (is : List ℕ) → flat_map (λ i. near_of changed (deciders_at bs i)) is ≡ chosen parts is
    each [] = refl
    each (i ∷ is) =
        ap (λ (ds : List Decider). ds ++ flat_map (λ i. near_of changed (deciders_at bs i)) is) (are i)
        ∙ ap (λ (ds : List Decider). deciders_at parts i ++ ds) (each is)

pub parts-more : (changed : List Decider) (bs parts : List Block) (b part : Block) → AreParts changed bs parts →
    deciders_of part ≡ near_of changed (deciders_of b) → AreParts changed (bs ++ b ∷ []) (parts ++ part ∷ [])
parts-more changed [] [] b part are is = (is, tt)
parts-more changed [] (q ∷ parts) b part are is = absurd are
parts-more changed (d ∷ bs) [] b part are is = absurd are
parts-more changed (d ∷ bs) (q ∷ parts) b part are is = (are.0, parts-more changed bs parts b part are.1 is)

-- ---- Rows that are alike but for the middle

none-fitted : (f : ℕ → List Decider) (a n : ℕ) (c x : List ℕ) →
    ((i : ℕ) → a ≤ i → i < a + n → is_fitted (f i) c x ≡ false) → is_fitted (flat_map f (range_with_len a n)) c x ≡ false
none-fitted f a zero c x h = refl
none-fitted f a (suc n) c x h =
    list_any-append (λ d. command_fits d.atom c x) (f a) (flat_map f (range_with_len (a + 1) n))
    ∙ ap (λ b. b || is_fitted (flat_map f (range_with_len (a + 1) n)) c x) (h a (omega arith) (omega arith))
    ∙ none-fitted f (a + 1) n c x (λ i low high. h i (omega (arith, low)) (omega (arith, high)))

thirds : (f : ℕ → List Decider) (n front back : ℕ) → front + back ≤ n →
    flat_map f (range_with_len 0 n)
    ≡ flat_map f (range_with_len 0 front)
    ++ (flat_map f (range_with_len front (n - back - front)) ++ flat_map f (range_with_len (n - back) back))
thirds f n front back within =
    let m : ℕ = n - back - front in
    ap (λ k. flat_map f (range_with_len 0 k)) (let e : n ≡ front + ((n - back - front) + back) = omega (arith, within) in e)
    ∙ joined f 0 front (m + back)
    ∙ ap (λ (xs : List Decider). flat_map f (range_with_len 0 front) ++ xs)
    (ap (λ k. flat_map f (range_with_len k (m + back))) (let e : 0 + front ≡ front = omega arith in e)
    ∙ joined f front m back
    ∙ ap (λ k. flat_map f (range_with_len front m) ++ flat_map f (range_with_len k back))
    (let e : front + (n - back - front) ≡ n - back = omega (arith, within) in e))

abbrev AlikeOutside : (ℕ → List Decider) → (ℕ → List Decider) → ℕ → ℕ → Common → Type 0
AlikeOutside f g m n c =
    ((i : ℕ) → i < c.front → map ruling_by (f i) ≡ map ruling_by (g i))
    × ((i : ℕ) → i < c.back → map ruling_by (f (m - i - 1)) ≡ map ruling_by (g (n - i - 1)))

alike-but : (f g : ℕ → List Decider) (m n : ℕ) (k : Common) → k.front + k.back ≤ m → k.front + k.back ≤ n → AlikeOutside f g m n k →
    (met : Choice) (c x : List ℕ) → ((i : ℕ) → k.front ≤ i → i + k.back < m → is_fitted (f i) c x ≡ false) →
    ((i : ℕ) → k.front ≤ i → i + k.back < n → is_fitted (g i) c x ≡ false) →
    said (verdict_among met (flat_map f (range_with_len 0 m)) c x) ≡ said (verdict_among met (flat_map g (range_with_len 0 n)) c x)
alike-but f g m n k within also alike met c x none either =
    ap (λ (ds : List Decider). said (verdict_among met ds c x)) (thirds f m k.front k.back within)
    ∙ unfitted (flat_map f (range_with_len 0 k.front)) (flat_map f (range_with_len k.front (m - k.back - k.front)))
    (flat_map f (range_with_len (m - k.back) k.back)) (flat_map g (range_with_len 0 k.front))
    (flat_map g (range_with_len k.front (n - k.back - k.front))) (flat_map g (range_with_len (n - k.back) k.back))
    (mapped-flat f (range_with_len 0 k.front)
    ∙ pairwise (λ i. map ruling_by (f i)) (λ i. map ruling_by (g i)) 0 0 k.front front
    ∙ sym (mapped-flat g (range_with_len 0 k.front)))
    (mapped-flat f (range_with_len (m - k.back) k.back)
    ∙ pairwise (λ i. map ruling_by (f i)) (λ i. map ruling_by (g i)) (m - k.back) (n - k.back) k.back back
    ∙ sym (mapped-flat g (range_with_len (n - k.back) k.back)))
    met c x
    (list_any-append (λ d. command_fits d.atom c x) (flat_map f (range_with_len k.front (m - k.back - k.front)))
    (flat_map g (range_with_len k.front (n - k.back - k.front)))
    ∙ ap (λ b. b || is_fitted (flat_map g (range_with_len k.front (n - k.back - k.front))) c x)
    (none-fitted f k.front (m - k.back - k.front) c x (λ i low high. none i low (omega (arith, high, within))))
    ∙ none-fitted g k.front (n - k.back - k.front) c x (λ i low high. either i low (omega (arith, high, also))))
    ∙ sym (ap (λ (ds : List Decider). said (verdict_among met ds c x)) (thirds g n k.front k.back also))
  where
    front : (i : ℕ) → i < k.front → map ruling_by (f (0 + i)) ≡ map ruling_by (g (0 + i))
    front i less =
        ap (λ j. map ruling_by (f j)) (let e : 0 + i ≡ i = omega arith in e) ∙ alike.0 i less
        ∙ ap (λ j. map ruling_by (g j)) (let e : i ≡ 0 + i = omega arith in e)

    back : (i : ℕ) → i < k.back → map ruling_by (f ((m - k.back) + i)) ≡ map ruling_by (g ((n - k.back) + i))
    back i less =
        let j : ℕ = k.back - i - 1 in
        ap (λ j. map ruling_by (f j))
        (let e : (m - k.back) + i ≡ m - (k.back - i - 1) - 1 = omega (arith, less, within) in e)
        ∙ alike.1 j (omega (arith, less))
        ∙ ap (λ j. map ruling_by (g j))
        (let e : n - (k.back - i - 1) - 1 ≡ (n - k.back) + i = omega (arith, less, also) in e)

-- ---- The near blocks that stand

-- what the block at an index answers, if it stands: all its rows, or none
stands-or-not : (p : Policy) (q : Question) (o : Option Block) (P : List Decider → Type 0) → P [] → P (deciders_if o) →
    P (standing_if p q o)
stands-or-not p q None P none all = none
stands-or-not p q (Some b) P none all = by (block_stands p q b)
  where
    by : (s : Bool) → P (cond s (deciders_of b) [])
    by true = all
    by false = none

-- indices that fail the test answer nothing
flat-filter : (f g : ℕ → List Decider) (t : ℕ → Bool) → ((i : ℕ) → cond (t i) (f i) [] ≡ g i) → (is : List ℕ) →
    flat_map f (filter t is) ≡ flat_map g is
flat-filter f g t same [] = refl
flat-filter f g t same (i ∷ is) =
    by (t i) refl ∙ ap (λ (ds : List Decider). ds ++ flat_map f (filter t is)) (same i)
    ∙ ap (λ (ds : List Decider). g i ++ ds) (flat-filter f g t same is)
  where
    by : (b : Bool) → t i ≡ b → flat_map f (cond (t i) (i ∷ filter t is) (filter t is)) ≡ cond (t i) (f i) [] ++ flat_map f (filter t is)
    by true e = rw e refl
    by false e = rw e refl

near-standing : (p : Policy) (bs : List Block) (changed : List Decider) (q : Question) →
    near_deciders p bs (near_at changed bs) q
    ≡ flat_map (λ i. if_near changed (standing_if p q (slice_get bs i))) (range_with_len 0 (length bs))
near-standing p bs changed q =
    flat-filter (λ i. standing_if p q (slice_get bs i)) (λ i. if_near changed (standing_if p q (slice_get bs i)))
    (λ i. has_near changed (deciders_at bs i)) one (range_with_len 0 (length bs))
  where
    one : (i : ℕ) → cond (has_near changed (deciders_at bs i)) (standing_if p q (slice_get bs i)) []
        ≡ if_near changed (standing_if p q (slice_get bs i))
    one i = stands-or-not p q (slice_get bs i) (λ ds. cond (has_near changed (deciders_at bs i)) ds [] ≡ if_near changed ds)
        (none (has_near changed (deciders_at bs i))) refl
      where
        none : (b : Bool) → cond {A = List Decider} b [] [] ≡ []
        none true = refl
        none false = refl

-- ---- Both policies

-- the rows of the middle do not fit a command that none of these fits
middle-unfitted : (p : Policy) (bs : List Block) (q : Question) (a n : ℕ) (c x : List ℕ) →
    is_fitted (chosen bs (range_with_len a n)) c x ≡ false → (i : ℕ) → a ≤ i → i < a + n →
    is_fitted (standing_if p q (slice_get bs i)) c x ≡ false
middle-unfitted p bs q a zero c x e i low high = absurd (omega (arith, low, high))
middle-unfitted p bs q a (suc n) c x e i low high =
    let both = or-parts (is_fitted (deciders_at bs a) c x) (is_fitted (chosen bs (range_with_len (a + 1) n)) c x)
    (sym (list_any-append (λ d. command_fits d.atom c x) (deciders_at bs a) (chosen bs (range_with_len (a + 1) n))) ∙ e) in
    by (λ more. middle-unfitted p bs q (a + 1) n c x both.1 i more (omega (arith, high))) (first-or i a low) both.0
  where
    first-or : (i a : ℕ) → a ≤ i → (i ≡ a) ⊎ (a + 1 ≤ i)
    first-or zero zero low = inl refl
    first-or (suc i) zero low = inr (omega arith)
    first-or zero (suc a) low = absurd (omega (arith, low))
    first-or (suc i) (suc a) low = go (first-or i a (omega (arith, low)))
      where
        go : (i ≡ a) ⊎ (a + 1 ≤ i) → (suc i ≡ suc a) ⊎ (suc a + 1 ≤ suc i)
        go (inl e) = inl (ap suc e)
        go (inr e) = inr (omega (arith, e))

    by : (a + 1 ≤ i → is_fitted (standing_if p q (slice_get bs i)) c x ≡ false) → (i ≡ a) ⊎ (a + 1 ≤ i) →
        is_fitted (deciders_at bs a) c x ≡ false → is_fitted (standing_if p q (slice_get bs i)) c x ≡ false
    by rest (inl same) here =
        ap (λ j. is_fitted (standing_if p q (slice_get bs j)) c x) same
        ∙ stands-or-not p q (slice_get bs a) (λ ds. is_fitted ds c x ≡ false) refl here
    by rest (inr more) here = rest more

if-near-unfitted : (changed ds : List Decider) (c x : List ℕ) → is_fitted ds c x ≡ false → is_fitted (if_near changed ds) c x ≡ false
if-near-unfitted changed ds c x e = by (has_near changed ds)
  where
    by : (b : Bool) → is_fitted (cond b ds []) c x ≡ false
    by true = e
    by false = refl

module _ (p r : Policy) (bs cs : List Block) (k : Common) (common : AreCommon p bs r cs k) (q : Question) where
  abbrev rows_changed : List Decider
  rows_changed = changed_rows k bs cs

  abbrev own : ℕ → List Decider
  own i = standing_if p q (slice_get bs i)

  abbrev its : ℕ → List Decider
  its i = standing_if r q (slice_get cs i)

  alike-outside : AlikeOutside own its (length bs) (length cs) k
  alike-outside = (λ i less. common.front i less q, λ i less. common.back i less q)

  near-outside : AlikeOutside (λ i. if_near rows_changed (own i)) (λ i. if_near rows_changed (its i)) (length bs) (length cs) k
  near-outside =
      let all = alike-outside in (
        λ i less. near-alike rows_changed (own i) (its i) (all.0 i less),
        λ i less. near-alike rows_changed (own (length bs - i - 1)) (its (length cs - i - 1)) (all.1 i less),
      )

  parts-unfitted : (c x : List ℕ) → is_fitted rows_changed c x ≡ false →
      (is_fitted (chosen bs (middle k bs)) c x ≡ false) × (is_fitted (chosen cs (middle k cs)) c x ≡ false)
  parts-unfitted c x e =
      or-parts (is_fitted (chosen bs (middle k bs)) c x) (is_fitted (chosen cs (middle k cs)) c x)
      (sym (list_any-append (λ d. command_fits d.atom c x) (chosen bs (middle k bs)) (chosen cs (middle k cs))) ∙ e)

  own-unfitted : (c x : List ℕ) → is_fitted rows_changed c x ≡ false → (i : ℕ) → k.front ≤ i → i + k.back < length bs →
      is_fitted (own i) c x ≡ false
  own-unfitted c x e i low high =
      middle-unfitted p bs q k.front (length bs - k.back - k.front) c x (parts-unfitted c x e).0 i low
      (omega (arith, low, high, common.within_old))

  its-unfitted : (c x : List ℕ) → is_fitted rows_changed c x ≡ false → (i : ℕ) → k.front ≤ i → i + k.back < length cs →
      is_fitted (its i) c x ≡ false
  its-unfitted c x e i low high =
      middle-unfitted r cs q k.front (length cs - k.back - k.front) c x (parts-unfitted c x e).1 i low
      (omega (arith, low, high, common.within_new))

  all-own : AreBlocks p bs → flat_map own (range_with_len 0 (length bs)) ≡ deciders p q
  all-own are = all-stand p bs q ∙ blocks-decide p q bs are

  all-its : AreBlocks r cs → flat_map its (range_with_len 0 (length cs)) ≡ deciders r q
  all-its also = all-stand r cs q ∙ blocks-decide r q cs also

  near-own : near_deciders p bs (near_at rows_changed bs) q ≡ flat_map (λ i. if_near rows_changed (own i)) (range_with_len 0 (length bs))
  near-own = near-standing p bs rows_changed q

  near-its : near_deciders r cs (near_at rows_changed cs) q ≡ flat_map (λ i. if_near rows_changed (its i)) (range_with_len 0 (length cs))
  near-its = near-standing r cs rows_changed q

  -- the near blocks that stand decide for all that stand
  near-of-all : AreBlocks p bs → AreBlocks r cs → AreChanged (deciders p q) (deciders r q) rows_changed
      (near_deciders p bs (near_at rows_changed bs) q) (near_deciders r cs (near_at rows_changed cs) q)
  near-of-all are also = record {
    others = λ met c x e.
        sym (ap (λ (ds : List Decider). said (verdict_among met ds c x)) (all-own are))
        ∙ alike-but own its (length bs) (length cs) k common.within_old common.within_new alike-outside met c x (own-unfitted c x e)
        (its-unfitted c x e)
        ∙ ap (λ (ds : List Decider). said (verdict_among met ds c x)) (all-its also);
    old = λ met c x e.
        ap (λ (ds : List Decider). verdict_among met ds c x) near-own
        ∙ ap answered_if_any (near-last rows_changed own (range_with_len 0 (length bs)) met c x e)
        ∙ ap (λ (ds : List Decider). verdict_among met ds c x) (all-own are);
    new = λ met c x e.
        ap (λ (ds : List Decider). verdict_among met ds c x) near-its
        ∙ ap answered_if_any (near-last rows_changed its (range_with_len 0 (length cs)) met c x e)
        ∙ ap (λ (ds : List Decider). verdict_among met ds c x) (all-its also);
  }

  abbrev kept_own : ℕ → List Decider
  kept_own i = near_of rows_changed (if_near rows_changed (own i))

  abbrev kept_its : ℕ → List Decider
  kept_its i = near_of rows_changed (if_near rows_changed (its i))

  all-kept-own : near_of rows_changed (near_deciders p bs (near_at rows_changed bs) q) ≡ flat_map kept_own (range_with_len 0 (length bs))
  all-kept-own =
      ap (near_of rows_changed) near-own ∙ filter-flat rows_changed (λ i. if_near rows_changed (own i)) (range_with_len 0 (length bs))

  all-kept-its : near_of rows_changed (near_deciders r cs (near_at rows_changed cs) q) ≡ flat_map kept_its (range_with_len 0 (length cs))
  all-kept-its =
      ap (near_of rows_changed) near-its ∙ filter-flat rows_changed (λ i. if_near rows_changed (its i)) (range_with_len 0 (length cs))

  -- the near rows of the near blocks are those of all that stand
  all-near-own : AreBlocks p bs →
      near_of rows_changed (deciders p q) ≡ near_of rows_changed (near_deciders p bs (near_at rows_changed bs) q)
  all-near-own are =
      ap (near_of rows_changed) (sym (all-own are))
      ∙ filter-flat rows_changed own (range_with_len 0 (length bs))
      ∙ flat-same (λ i. near_of rows_changed (own i)) kept_own (λ i. sym (near-if rows_changed (own i))) (range_with_len 0 (length bs))
      ∙ sym all-kept-own

  all-near-its : AreBlocks r cs →
      near_of rows_changed (deciders r q) ≡ near_of rows_changed (near_deciders r cs (near_at rows_changed cs) q)
  all-near-its also =
      ap (near_of rows_changed) (sym (all-its also))
      ∙ filter-flat rows_changed its (range_with_len 0 (length cs))
      ∙ flat-same (λ i. near_of rows_changed (its i)) kept_its (λ i. sym (near-if rows_changed (its i))) (range_with_len 0 (length cs))
      ∙ sym all-kept-its

  kept-outside : AlikeOutside kept_own kept_its (length bs) (length cs) k
  kept-outside =
      let all = near-outside in (
        λ i less. filter-alike rows_changed (if_near rows_changed (own i)) (if_near rows_changed (its i)) (all.0 i less),
        λ i less. filter-alike rows_changed (if_near rows_changed (own (length bs - i - 1)))
            (if_near rows_changed (its (length cs - i - 1))) (all.1 i less),
      )

  -- and so do their near rows for themselves
  kept-of-kept : AreChanged (near_of rows_changed (near_deciders p bs (near_at rows_changed bs) q))
      (near_of rows_changed (near_deciders r cs (near_at rows_changed cs) q)) rows_changed
      (near_of rows_changed (near_deciders p bs (near_at rows_changed bs) q))
      (near_of rows_changed (near_deciders r cs (near_at rows_changed cs) q))
  kept-of-kept = record {
    others = λ met c x e.
        ap (λ (ds : List Decider). said (verdict_among met ds c x)) all-kept-own
        ∙ alike-but kept_own kept_its (length bs) (length cs) k common.within_old common.within_new kept-outside met c x
        (λ i low high. filter-unfitted rows_changed (if_near rows_changed (own i)) c x
        (if-near-unfitted rows_changed (own i) c x (own-unfitted c x e i low high)))
        (λ i low high. filter-unfitted rows_changed (if_near rows_changed (its i)) c x
        (if-near-unfitted rows_changed (its i) c x (its-unfitted c x e i low high)))
        ∙ sym (ap (λ (ds : List Decider). said (verdict_among met ds c x)) all-kept-its);
    old = λ met c x e. refl;
    new = λ met c x e. refl;
  }

abbrev pub near_old : Pair → Question → List Decider
near_old p q = near_deciders p.old.checked.now p.old.blocks.items p.near.old.items q

abbrev pub near_new : Pair → Question → List Decider
near_new p q = near_deciders p.new.checked.now p.new.blocks.items p.near.new.items q

pub pair-all : (p : Pair) (q : Question) → AreChanged (deciders p.old.checked.now q) (deciders p.new.checked.now q) (changed_by p)
    (near_old p q) (near_new p q)
pair-all p q =
    let ds = deciders p.old.checked.now q in
    let es = deciders p.new.checked.now q in
    let old : List ℕ → List Decider = λ is. near_deciders p.old.checked.now p.old.blocks.items is q in
    let new : List ℕ → List Decider = λ is. near_deciders p.new.checked.now p.new.blocks.items is q in
    let bs = p.old.blocks.items in
    let cs = p.new.blocks.items in
    subst (λ (is : List ℕ). AreChanged ds es (changed_by p) (old is) (near_new p q)) (sym p.are_near.old)
    (subst (λ (is : List ℕ). AreChanged ds es (changed_by p) (old (near_at (changed_by p) bs)) (new is)) (sym p.are_near.new)
    (near-of-all p.old.checked.now p.new.checked.now bs cs p.common p.are_common q p.old.are_blocks p.new.are_blocks))

pub pair-kept : (p : Pair) (q : Question) → AreChanged (kept_old p q) (kept_new p q) (changed_by p) (kept_old p q) (kept_new p q)
pair-kept p q =
    let old : List ℕ → List Decider = λ is. near_of (changed_by p) (near_deciders p.old.checked.now p.old.blocks.items is q) in
    let new : List ℕ → List Decider = λ is. near_of (changed_by p) (near_deciders p.new.checked.now p.new.blocks.items is q) in
    let bs = p.old.blocks.items in
    let cs = p.new.blocks.items in
    subst (λ (is : List ℕ). AreChanged (old is) (kept_new p q) (changed_by p) (old is) (kept_new p q)) (sym p.are_near.old)
    (subst (λ (is : List ℕ). AreChanged (old (near_at (changed_by p) bs)) (new is) (changed_by p) (old (near_at (changed_by p) bs))
    (new is)) (sym p.are_near.new)
    (kept-of-kept p.old.checked.now p.new.checked.now bs cs p.common p.are_common q))

pub pair-kept-all : (p : Pair) (q : Question) → AreChanged (deciders p.old.checked.now q) (deciders p.new.checked.now q) (changed_by p)
    (kept_old p q) (kept_new p q)
pair-kept-all p q =
    let all = pair-all p q in
    record {
      others = all.others;
      old = λ met c x e. near-decide (changed_by p) (near_old p q) met c x e ∙ all.old met c x e;
      new = λ met c x e. near-decide (changed_by p) (near_new p q) met c x e ∙ all.new met c x e;
    }

-- the near rows of all that stand
pub pair-near : (p : Pair) (q : Question) → (near_of (changed_by p) (deciders p.old.checked.now q) ≡ kept_old p q)
    × (near_of (changed_by p) (deciders p.new.checked.now q) ≡ kept_new p q)
pair-near p q =
    let bs = p.old.blocks.items in
    let cs = p.new.blocks.items in (
      all-near-own p.old.checked.now p.new.checked.now bs cs p.common p.are_common q p.old.are_blocks
          ∙ ap (λ (is : List ℕ). near_of (changed_by p) (near_deciders p.old.checked.now bs is q)) (sym p.are_near.old),
      all-near-its p.old.checked.now p.new.checked.now bs cs p.common p.are_common q p.new.are_blocks
          ∙ ap (λ (is : List ℕ). near_of (changed_by p) (near_deciders p.new.checked.now cs is q)) (sym p.are_near.new),
    )

-- ---- The outcome for some rows, and for others with the same near rows

choice-self : (a : Option Bool) → same_choice a a ≡ true
choice-self None = refl
choice-self (Some true) = refl
choice-self (Some false) = refl

choices-self : (cs : List (Option Bool)) → same_choices cs cs ≡ true
choices-self [] = refl
choices-self (a ∷ rest) = ap (λ b. b && same_choices rest rest) (choice-self a) ∙ choices-self rest

answer-self : (a : Option Tags) → same_answer a a ≡ true
answer-self None = refl
answer-self (Some t) = choices-self t.choices

said-self : (a : Option (Option Tags)) → same_said a a ≡ true
said-self None = refl
said-self (Some a) = answer-self a

unchanged : (v w : Verdict) → said v ≡ said w → answer_between v w ≡ None
unchanged v w e =
    ap (λ b. cond b None (Some (change_of (allowed v) (allowed w))))
    (ap (λ s. same_said s (said w)) e ∙ said-self (said w))

witness-moved : (ds es fs gs changed near_ds near_es : List Decider) → AreChanged ds es changed near_ds near_es →
    AreChanged fs gs changed near_ds near_es → (w : Witness) → IsWitness ds es w → IsWitness fs gs w
witness-moved ds es fs gs changed near_ds near_es one other w is = by (is_fitted changed w.command w.arguments) refl
  where
    by : (b : Bool) → is_fitted changed w.command w.arguments ≡ b → IsWitness fs gs w
    by true e = record {
      old = λ met. is.old met ∙ sym (one.old met w.command w.arguments e) ∙ other.old met w.command w.arguments e;
      new = λ met. is.new met ∙ sym (one.new met w.command w.arguments e) ∙ other.new met w.command w.arguments e;
      answer = is.answer;
    }
    by false e =
        let same : said w.old ≡ said w.new =
        ap said (is.old all_met) ∙ one.others all_met w.command w.arguments e ∙ sym (ap said (is.new all_met)) in
        let none : answer_between w.old w.new ≡ None = unchanged w.old w.new same in
        let bad : Some w.answer ≡ None = sym is.answer ∙ none in
        cc

pub found-moved : (ds es fs gs changed near_ds near_es : List Decider) → AreChanged ds es changed near_ds near_es →
    AreChanged fs gs changed near_ds near_es → near_of changed ds ≡ near_of changed fs → near_of changed es ≡ near_of changed gs →
    (f : Compared) → IsFoundNear changed ds es f → IsFoundNear changed fs gs f
found-moved ds es fs gs changed near_ds near_es one other old new compared.Same same = λ met c x. by met c x (is_fitted changed c x) refl
  where
    by : (met : Choice) (c x : List ℕ) → (b : Bool) → is_fitted changed c x ≡ b →
        said (verdict_among met fs c x) ≡ said (verdict_among met gs c x)
    by met c x false e = other.others met c x e
    by met c x true e =
        sym (ap said (other.old met c x e)) ∙ ap said (one.old met c x e) ∙ same met c x ∙ sym (ap said (one.new met c x e))
        ∙ ap said (other.new met c x e)
found-moved ds es fs gs changed near_ds near_es one other old new (compared.Differs ws) is = (
  is.0,
  All-weaker (IsWitness ds es) (IsWitness fs gs)
      (λ w there. witness-moved ds es fs gs changed near_ds near_es one other w there) ws is.1,
)
found-moved ds es fs gs changed near_ds near_es one other old new (compared.May r s) is =
    subst (λ (ks : List Decider). IsUnsettled ks (near_of changed gs) r s) old
    (subst (λ (ks : List Decider). IsUnsettled (near_of changed ds) ks r s) new is)

-- what is found of near rows alone
pub found-kept : (changed ds es : List Decider) (f : Compared) → IsCompared (near_of changed ds) (near_of changed es) f →
    IsFoundNear changed (near_of changed ds) (near_of changed es) f
found-kept changed ds es compared.Same is = is
found-kept changed ds es (compared.Differs ws) is = is
found-kept changed ds es (compared.May r s) is =
    subst (λ (ks : List Decider). IsUnsettled ks (near_of changed (near_of changed es)) r s) (sym (near-twice changed ds))
    (subst (λ (ks : List Decider). IsUnsettled (near_of changed ds) ks r s) (sym (near-twice changed es)) is)

-- what is found of near rows is so of all
pub found-all : (changed ds es : List Decider) (f : Compared) → IsFoundNear changed ds es f → IsCompared ds es f
found-all changed ds es compared.Same is = is
found-all changed ds es (compared.Differs ws) is = is
found-all changed ds es (compared.May r s) is = unsettled-all changed ds es r s is
