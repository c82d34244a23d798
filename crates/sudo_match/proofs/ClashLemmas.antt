-- Lemmas on the first row that clashes with an earlier one.
use Rattle.std.proofs.Common.{◌≡◌, ℕ, zero, suc, ◌+◌, ◌<◌, ◌≤◌, Bool, true, false, List, length, take, refl, ap, sym}
use Rattle.std.proofs.Common.{◌∙◌, Some, None, Option, cond, arith, ◌⊎◌, inl, inr}
use Rattle.std.specs.Prelude.{slice_get, is_some, bytes_eq, find, option_and_then}
use Rattle.std.specs.List.{list_any, range_with_len}
use Rattle.std.proofs.lemmas.Option.{slice_get_within}
use Rattle.std.proofs.lemmas.Bool.{cases_lt, both_ways}
use Rattle.sudo_base.specs.Body.Indexes.{IndexesRows}
use Rattle.sudo_match.specs.KnownRows.{clashes_with, clashes_at, first_clash}

-- the first n elements clash with none before them
abbrev pub NoneBefore : {A : Type 0} → (A → A → Bool) → List A → ℕ → Type 0
NoneBefore clashes rows n = (j : ℕ) → j < n → clashes_at clashes rows j ≡ false

pub none-first : {A : Type 0} (clashes : A → A → Bool) (rows : List A) → NoneBefore clashes rows 0
none-first clashes rows j h = absurd (omega (arith, h))

pub none-more :
    {A : Type 0} (clashes : A → A → Bool) (rows : List A) (n : ℕ) → NoneBefore clashes rows n → clashes_at clashes rows n ≡ false →
    NoneBefore clashes rows (n + 1)
none-more clashes rows n e f j h = go (cases_lt j n)
  where
    go : (j < n) ⊎ (n ≤ j) → clashes_at clashes rows j ≡ false
    go (inl l) = e j l
    go (inr l) = let same : j ≡ n = omega (arith, h, l) in ap (clashes_at clashes rows) same ∙ f

-- an element that is there clashes with one before it
pub clash-here :
    {A : Type 0} (clashes : A → A → Bool) (rows : List A) (n : ℕ) (x : A) → slice_get rows n ≡ Some x →
    clashes_at clashes rows n ≡ list_any (λ y. clashes y x) (take n rows)
clash-here clashes rows n x e = ap (clashes_with clashes (take n rows)) e

-- rows with a name for a key clash where the name is known
pub key-clash :
    {A : Type 0} (key : A → List ℕ) (rows : List A) (n : ℕ) (x : A) (indices : List ℕ → Option ℕ) → IndexesRows key rows n indices →
    slice_get rows n ≡ Some x → clashes_at (λ a b. bytes_eq (key a) (key b)) rows n ≡ is_some (indices (key x))
key-clash key rows n x indices i at = clash-here (λ a b. bytes_eq (key a) (key b)) rows n x at ∙ sym (i.known (key x))

-- ---- The first index that passes a test

first-index : (p : ℕ → Bool) (a i : ℕ) → a ≤ i → ((j : ℕ) → j < i → p j ≡ false) → p a ≡ true → a ≡ i
first-index p a i h e g = go (cases_lt a i)
  where
    go : (a < i) ⊎ (i ≤ a) → a ≡ i
    go (inl l) = absurd (both_ways (p a) (e a l) g)
    go (inr l) = omega (arith, h, l)

later-index : (p : ℕ → Bool) (a i : ℕ) → a ≤ i → p a ≡ false → p i ≡ true → a + 1 ≤ i
later-index p a i h f g = go (cases_lt a i)
  where
    go : (a < i) ⊎ (i ≤ a) → a + 1 ≤ i
    go (inl l) = omega (arith, l)
    go (inr l) = let same : i ≡ a = omega (arith, h, l) in absurd (both_ways (p i) (ap p same ∙ f) g)

find-range :
    (p : ℕ → Bool) (n a i : ℕ) → a ≤ i → i < a + n → ((j : ℕ) → j < i → p j ≡ false) → p i ≡ true → find p (range_with_len a n) ≡ Some i
find-range p zero a i h l e f = absurd (omega (arith, h, l))
find-range p (suc n) a i h l e f = go (p a) refl (λ next. find-range p n (a + 1) i next (omega (arith, l)) e f)
  where
    go : (b : Bool) → p a ≡ b → (a + 1 ≤ i → find p (range_with_len (a + 1) n) ≡ Some i) → find p (range_with_len a (suc n)) ≡ Some i
    go true g more = ap (λ b. cond b (Some a) (find p (range_with_len (a + 1) n))) g ∙ ap Some (first-index p a i h e g)
    go false g more = ap (λ b. cond b (Some a) (find p (range_with_len (a + 1) n))) g ∙ more (later-index p a i h g f)

find-range-none : (p : ℕ → Bool) (n a : ℕ) → ((j : ℕ) → j < a + n → p j ≡ false) → find p (range_with_len a n) ≡ None
find-range-none p zero a e = refl
find-range-none p (suc n) a e =
    ap (λ b. cond b (Some a) (find p (range_with_len (a + 1) n))) (e a (omega arith))
    ∙ find-range-none p n (a + 1) (λ j h. e j (omega (arith, h)))

pub clash-is :
    {A : Type 0} (clashes : A → A → Bool) (rows : List A) (n : ℕ) (x : A) → NoneBefore clashes rows n → slice_get rows n ≡ Some x →
    clashes_at clashes rows n ≡ true → first_clash clashes rows ≡ Some x
unfolding first_clash
clash-is clashes rows n x e at f =
    ap (option_and_then (slice_get rows)) (find-range (clashes_at clashes rows) (length rows) 0 n (omega arith)
    (let h = slice_get_within rows n x at in omega (arith, h)) e f) ∙ at

pub clash-none :
    {A : Type 0} (clashes : A → A → Bool) (rows : List A) (n : ℕ) → NoneBefore clashes rows n → length rows ≤ n
    → first_clash clashes rows ≡ None
unfolding first_clash
clash-none clashes rows n e h =
    ap (option_and_then (slice_get rows)) (find-range-none (clashes_at clashes rows) (length rows) 0 (λ j l. e j (omega (arith, l, h))))
