-- Blocks by their indices: the rows of those that stand, and which of them pass a test.
use Rattle.std.proofs.Common.{◌≡◌, ◌∙◌, ◌+◌, ℕ, zero, suc, Bool, true, false, cond, ◌&&◌, ◌||◌, List, [], ◌∷◌, ◌++◌}
use Rattle.std.proofs.Common.{◌<◌, ap, append_assoc, get_or, take}
use Rattle.std.proofs.Common.{arith, flat_map, length, length-append, map, refl, sym, Option, Some, None}
use Rattle.std.specs.Prelude.{filter, slice_get}
use Rattle.std.specs.List.{list_all, list_any, slice_index_or}
use Rattle.std.proofs.lemmas.Bool.{and_parts}
use Rattle.std.proofs.lemmas.List.{length-take-le}
use Rattle.std.proofs.lemmas.List.Elements.{filter-append}
use Rattle.review_roots.specs.declared.block.Block.{Block}
use Rattle.review_roots.specs.Blocks.{Row, block_rows}
use Rattle.review_grants.proofs.ListSteps.{take-more}
use Rattle.review_roots.specs.Body.Candidates.{part_at, part_of}
use Rattle.review_roots.specs.Body.Raising.{indices, indices_from, passes, passes_at}

-- what holds of all holds of the one at an index
pub all-at : {X : Type 0} (t : X → Bool) (xs : List X) (i : ℕ) (x : X) → list_all t xs ≡ true → slice_get xs i ≡ Some x → t x ≡ true
all-at t [] i x all at = cc
all-at t (y ∷ ys) zero x all at =
    let same : y ≡ x = cc in ap t (sym same) ∙ (and_parts (t y) (list_all t ys) all).0
all-at t (y ∷ ys) (suc i) x all at = all-at t ys i x (and_parts (t y) (list_all t ys) all).1 at

-- a list of answers has that of the item at an index
pub answer-at : {X : Type 0} (f : X → Bool) (xs : List X) (i : ℕ) (x : X) → slice_get xs i ≡ Some x
    → slice_index_or (map f xs) i false ≡ f x
answer-at f [] i x at = cc
answer-at f (y ∷ ys) zero x at = let same : y ≡ x = cc in ap f same
answer-at f (y ∷ ys) (suc i) x at = answer-at f ys i x at

pub item-behind : {X : Type 0} (before : List X) (x : X) (rest : List X) → slice_get (before ++ x ∷ rest) (length before) ≡ Some x
item-behind [] x rest = refl
item-behind (y ∷ before) x rest = item-behind before x rest

-- the rows of the blocks at these indices are those of the blocks that pass both tests
parts-from :
    (l T : Block → Bool) (t : ℕ → Block → Bool) (all : List Block) → ((i : ℕ) (b : Block) → slice_get all i ≡ Some b → t i b ≡ T b) →
    (bs before : List Block) (k : ℕ) → all ≡ before ++ bs → k ≡ length before →
    flat_map (part_at t all) (indices_from l k bs) ≡ flat_map (λ b. cond (l b && T b) (block_rows b) []) bs
parts-from l T t all same [] before k is at = refl
parts-from l T t all same (b ∷ bs) before k is at = go (l b) (parts-from l T t all same bs (before ++ b ∷ []) (k + 1)
    (is ∙ sym (append_assoc before (b ∷ []) bs))
    (let n : length (before ++ b ∷ []) ≡ length before + 1 = length-append before (b ∷ []) in omega (arith, n, at)))
  where
    there : slice_get all k ≡ Some b
    there = ap (slice_get all) at ∙ ap (λ (xs : List Block). slice_get xs (length before)) is ∙ item-behind before b bs

    go :
        (c : Bool) →
        flat_map (part_at t all) (indices_from l (k + 1) bs) ≡ flat_map (λ b. cond (l b && T b) (block_rows b) []) bs →
        flat_map (part_at t all) (cond c (k ∷ indices_from l (k + 1) bs) (indices_from l (k + 1) bs))
        ≡ cond (c && T b) (block_rows b) [] ++ flat_map (λ b. cond (l b && T b) (block_rows b) []) bs
    go true rest =
        ap (λ (rs : List Row). part_at t all k ++ rs) rest
        ∙ ap (λ (rs : List Row). rs ++ flat_map (λ b. cond (l b && T b) (block_rows b) []) bs)
        (ap (part_of (t k)) there ∙ ap (λ c. cond c (block_rows b) []) (same k b there))
    go false rest = rest

pub parts-are :
    (l T : Block → Bool) (t : ℕ → Block → Bool) (bs : List Block) → ((i : ℕ) (b : Block) → slice_get bs i ≡ Some b → t i b ≡ T b) →
    flat_map (part_at t bs) (indices l bs) ≡ flat_map (λ b. cond (l b && T b) (block_rows b) []) bs
parts-are l T t bs same = parts-from l T t bs same bs [] 0 refl refl

-- an index passes where its block passes
any-from :
    (l T : Block → Bool) (t : ℕ → Bool) (all : List Block) → ((i : ℕ) (b : Block) → slice_get all i ≡ Some b → t i ≡ T b) →
    (bs before : List Block) (k : ℕ) → all ≡ before ++ bs → k ≡ length before →
    list_any t (indices_from l k bs) ≡ list_any (λ b. l b && T b) bs
any-from l T t all same [] before k is at = refl
any-from l T t all same (b ∷ bs) before k is at = go (l b) (any-from l T t all same bs (before ++ b ∷ []) (k + 1)
    (is ∙ sym (append_assoc before (b ∷ []) bs))
    (let n : length (before ++ b ∷ []) ≡ length before + 1 = length-append before (b ∷ []) in omega (arith, n, at)))
  where
    there : slice_get all k ≡ Some b
    there = ap (slice_get all) at ∙ ap (λ (xs : List Block). slice_get xs (length before)) is ∙ item-behind before b bs

    go :
        (c : Bool) → list_any t (indices_from l (k + 1) bs) ≡ list_any (λ b. l b && T b) bs →
        list_any t (cond c (k ∷ indices_from l (k + 1) bs) (indices_from l (k + 1) bs))
        ≡ ((c && T b) || list_any (λ b. l b && T b) bs)
    go true rest = ap (λ a. a || list_any t (indices_from l (k + 1) bs)) (same k b there) ∙ ap (λ a. T b || a) rest
    go false rest = rest

pub any-are :
    (l T : Block → Bool) (t : ℕ → Bool) (bs : List Block) → ((i : ℕ) (b : Block) → slice_get bs i ≡ Some b → t i ≡ T b) →
    list_any t (indices l bs) ≡ list_any (λ b. l b && T b) bs
any-are l T t bs same = any-from l T t bs same bs [] 0 refl refl

-- no index is listed where no block passes
none-from : (l : Block → Bool) (k : ℕ) (bs : List Block) → indices_from l k bs ≡ [] → list_any l bs ≡ false
none-from l k [] e = refl
none-from l k (b ∷ bs) e = go (l b) e (none-from l (k + 1) bs)
  where
    go :
        (c : Bool) → cond c (k ∷ indices_from l (k + 1) bs) (indices_from l (k + 1) bs) ≡ [] →
        (indices_from l (k + 1) bs ≡ [] → list_any l bs ≡ false) → (c || list_any l bs) ≡ false
    go true e rest = cc
    go false e rest = rest e

pub none-listed : (l : Block → Bool) (bs : List Block) → indices l bs ≡ [] → list_any l bs ≡ false
none-listed l bs e = none-from l 0 bs e

-- one block more
more-from : (l : Block → Bool) (k : ℕ) (bs : List Block) (b : Block)
    → indices_from l k (bs ++ b ∷ []) ≡ indices_from l k bs ++ cond (l b) ((k + length bs) ∷ []) []
more-from l k [] b = ap (λ i. cond (l b) (i ∷ []) []) (let e : k ≡ k + 0 = omega arith in e)
more-from l k (c ∷ bs) b =
    go (l c) (more-from l (k + 1) bs b
    ∙ ap (λ i. indices_from l (k + 1) bs ++ cond (l b) (i ∷ []) []) (let e : (k + 1) + length bs ≡ k + suc (length bs) = omega arith in e))
  where
    go :
        (d : Bool) →
        indices_from l (k + 1) (bs ++ b ∷ []) ≡ indices_from l (k + 1) bs ++ cond (l b) ((k + suc (length bs)) ∷ []) [] →
        cond d (k ∷ indices_from l (k + 1) (bs ++ b ∷ [])) (indices_from l (k + 1) (bs ++ b ∷ []))
        ≡ cond d (k ∷ indices_from l (k + 1) bs) (indices_from l (k + 1) bs) ++ cond (l b) ((k + suc (length bs)) ∷ []) []
    go true e = ap (λ (is : List ℕ). k ∷ is) e
    go false e = e

pub indices-more : (l : Block → Bool) (bs : List Block) (b : Block) (at : ℕ) → at ≡ length bs
    → indices l (bs ++ b ∷ []) ≡ indices l bs ++ cond (l b) (at ∷ []) []
indices-more l bs b at is =
    more-from l 0 bs b ∙ ap (λ i. indices l bs ++ cond (l b) (i ∷ []) []) (let e : 0 + length bs ≡ at = omega (arith, is) in e)

pub index-step :
    (l : Block → Bool) (bs : List Block) (i : ℕ) (b : Block) (passes : Bool) (old new : List ℕ) → i < length bs → b ≡ get_or bs i b →
    passes ≡ l b → old ≡ indices l (take i bs) → new ≡ old ++ cond passes (i ∷ []) [] → new ≡ indices l (take (i + 1) bs)
index-step l bs i b passes old new within is same so_far more =
    more ∙ ap (λ (xs : List ℕ). xs ++ cond passes (i ∷ []) []) so_far
    ∙ ap (λ c. indices l (take i bs) ++ cond c (i ∷ []) []) same
    ∙ sym (ap (indices l) (take-more bs i b within is)
    ∙ indices-more l (take i bs) b i (sym (length-take-le i bs (omega (arith, within)))))

-- ---- Indices that are filtered

-- one item more of a list that is filtered
pub filter-step :
    {X : Type 0} (f : X → Bool) (xs : List X) (i : ℕ) (x : X) (passes : Bool) (old new : List X) → i < length xs → x ≡ get_or xs i x →
    passes ≡ f x → old ≡ filter f (take i xs) → new ≡ old ++ cond passes (x ∷ []) [] → new ≡ filter f (take (i + 1) xs)
filter-step f xs i x passes old new within is same so_far more =
    more ∙ ap (λ (ys : List _). ys ++ cond passes (x ∷ []) []) so_far
    ∙ ap (λ c. filter f (take i xs) ++ cond c (x ∷ []) []) same
    ∙ sym (ap (filter f) (take-more xs i x within is) ∙ filter-append f (take i xs) (x ∷ []))

filtered-from :
    (r l : Block → Bool) (all bs before : List Block) (k : ℕ) → all ≡ before ++ bs → k ≡ length before →
    filter (passes_at l all) (indices_from r k bs) ≡ indices_from (λ b. r b && l b) k bs
filtered-from r l all [] before k is at = refl
filtered-from r l all (b ∷ bs) before k is at = go (r b) (filtered-from r l all bs (before ++ b ∷ []) (k + 1)
    (is ∙ sym (append_assoc before (b ∷ []) bs))
    (let n : length (before ++ b ∷ []) ≡ length before + 1 = length-append before (b ∷ []) in omega (arith, n, at)))
  where
    there : passes_at l all k ≡ l b
    there = ap (passes l) (ap (slice_get all) at ∙ ap (λ (xs : List Block). slice_get xs (length before)) is ∙ item-behind before b bs)

    go :
        (c : Bool) → filter (passes_at l all) (indices_from r (k + 1) bs) ≡ indices_from (λ b. r b && l b) (k + 1) bs →
        filter (passes_at l all) (cond c (k ∷ indices_from r (k + 1) bs) (indices_from r (k + 1) bs))
        ≡ cond (c && l b) (k ∷ indices_from (λ b. r b && l b) (k + 1) bs) (indices_from (λ b. r b && l b) (k + 1) bs)
    go true e =
        ap (λ c. cond c (k ∷ filter (passes_at l all) (indices_from r (k + 1) bs)) (filter (passes_at l all) (indices_from r (k + 1) bs)))
        there
        ∙ ap (λ (is : List ℕ). cond (l b) (k ∷ is) is) e
    go false e = e

-- the indices of the blocks that pass a test, of those that pass another one
pub indices-filtered : (r l : Block → Bool) (bs : List Block) → filter (passes_at l bs) (indices r bs) ≡ indices (λ b. r b && l b) bs
indices-filtered r l bs = filtered-from r l bs bs [] 0 refl refl

-- the rows of the block at an index stand or not by its answer
pub part-same :
    (t : ℕ → Block → Bool) (bs : List Block) (i : ℕ) (answer : Bool) → answer ≡ passes_at (t i) bs i →
    part_at (λ i b. answer) bs i ≡ part_at t bs i
part-same t bs i answer is = go (slice_get bs i) is
  where
    go : (o : Option Block) → answer ≡ passes (t i) o → part_of (λ b. answer) o ≡ part_of (t i) o
    go None e = refl
    go (Some b) e = ap (λ c. cond c (block_rows b) []) e
