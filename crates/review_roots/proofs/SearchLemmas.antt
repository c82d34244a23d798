-- A search back from the goal finds every state with a chain of a level, and a shortest one of each.
use Rattle.std.proofs.Common.{◌≡◌, ◌<◌, ◌≤◌, ◌+◌, ◌∙◌, ℕ, zero, suc, Bool, true, false, cond, List, [], ◌∷◌, ◌++◌, ap, arith, refl}
use Rattle.std.proofs.Common.{length}
use Rattle.std.proofs.Common.{map, sym, subst, Some, inl, inr, ◌⊎◌}
use Rattle.std.specs.Prelude.{All, filter, slice_get}
use Rattle.std.specs.List.{Contains, slice_index_or}
use Rattle.std.proofs.lemmas.Bool.{le-leb, leb-true, cases_lt}
use Rattle.std.proofs.lemmas.List.Elements.{All-contains, All-weaker}
use Rattle.std.proofs.lemmas.List.Elements.{Contains-append_right}
use Rattle.std.proofs.lemmas.Option.{slice_get_within}
use Rattle.sudo_base.proofs.Lists.{slice_get-append-left}
use Rattle.sudo_match.specs.KnownRows.{KnownRows}
use Rattle.review_roots.specs.declared.level.Level.{Level}
use Rattle.review_roots.specs.declared.level.Level.TheVariants as level
use Rattle.review_roots.specs.declared.search.Found.{Found}
use Rattle.review_roots.specs.declared.state.State.{State}
use Rattle.review_roots.specs.Chains.{Steps, Path, here, more, HasNoPath}
use Rattle.review_roots.specs.Ranks.{rank, is_at_least}
use Rattle.review_roots.specs.Body.Found.{AreFound, AreLinked, IsComplete, IsDrawn, IsLinked, IsSearch, IsStuck}
use Rattle.review_roots.specs.Body.Found.{PointBack, found_states}

-- ---- Levels

pub at-least-trans : (k l m : Level) → is_at_least k l ≡ true → is_at_least l m ≡ true → is_at_least k m ≡ true
at-least-trans k l m a b =
    let x = leb-true (rank k) (rank l) a in
    let y = leb-true (rank l) (rank m) b in
    le-leb (rank k) (rank m) (omega (arith, x, y))

pub at-least-itself : (l : Level) → is_at_least l l ≡ true
at-least-itself l = le-leb (rank l) (rank l) (omega arith)

pub at-least-below : (k l : Level) → rank k ≤ rank l → is_at_least k l ≡ true
at-least-below k l h = le-leb (rank k) (rank l) h

pub all-best : (l : Level) → is_at_least l level.All ≡ true
all-best level.None = refl
all-best level.Listed = refl
all-best level.AllBut = refl
all-best level.All = refl

-- ---- Paths

pub path-weaker : {S : Type 0} (g : Steps S) (k l : Level) → is_at_least k l ≡ true → (n : ℕ) (s : S) → Path g l n s → Path g k n s
path-weaker {S} g k l less n s p = go p
  where
    go : {n : ℕ} {s : S} → Path g l n s → Path g k n s
    go (here c at) = here c at
    go (more {n} {s} {t} c step p) = more c (at-least-trans k l (g.level s t) less step) (go p)

pub path-state : {S : Type 0} (g : Steps S) (l : Level) {n : ℕ} {s : S} → Path g l n s → Contains g.states s
path-state g l (here c at) = c
path-state g l (more c step p) = c

-- ---- Items of lists

pub contains-cons : {X : Type 0} (x : X) (xs : List X) (t : X) → Contains xs t → Contains (x ∷ xs) t
contains-cons x xs t h = Contains-append_right (x ∷ []) xs t h

pub contains-head : {X : Type 0} (x : X) (xs : List X) (t : X) → x ≡ t → Contains (x ∷ xs) t
contains-head x xs t e = (0, omega arith, e)

pub in-filter : {X : Type 0} (p : X → Bool) (xs : List X) (t : X) → Contains xs t → p t ≡ true → Contains (filter p xs) t
in-filter {X} p xs t h passes = at xs h.0 h.1 h.2
  where
    at : (xs : List X) (k : ℕ) → k < length xs → slice_index_or xs k t ≡ t → Contains (filter p xs) t
    at [] k l e = absurd (omega (arith, l))
    at (x ∷ xs) zero l e =
        subst (λ b. Contains (cond b (x ∷ filter p xs) (filter p xs)) t) (sym (ap p e ∙ passes)) (contains-head x (filter p xs) t e)
    at (x ∷ xs) (suc k) l e = kept (p x) (at xs k (omega (arith, l)) e)
      where
        kept : (b : Bool) → Contains (filter p xs) t → Contains (cond b (x ∷ filter p xs) (filter p xs)) t
        kept true h = contains-cons x (filter p xs) t h
        kept false h = h

-- each item stands at an index
pub contains-at : {X : Type 0} (xs : List X) (t : X) → Contains xs t → (k : ℕ) × (slice_get xs k ≡ Some t)
contains-at {X} xs t h = at xs h.0 h.1 h.2
  where
    at : (xs : List X) (k : ℕ) → k < length xs → slice_index_or xs k t ≡ t → (k : ℕ) × (slice_get xs k ≡ Some t)
    at [] k l e = absurd (omega (arith, l))
    at (x ∷ xs) zero l e = (zero, ap Some e)
    at (x ∷ xs) (suc k) l e = let r = at xs k (omega (arith, l)) e in (suc r.0, r.1)

pub at-contains : {X : Type 0} (xs : List X) (t : X) (k : ℕ) → slice_get xs k ≡ Some t → Contains xs t
at-contains [] t k e = cc
at-contains (x ∷ xs) t zero e = contains-head x xs t cc
at-contains (x ∷ xs) t (suc k) e = contains-cons x xs t (at-contains xs t k e)

pub from-map : {X Y : Type 0} (f : X → Y) (xs : List X) (t : Y) → Contains (map f xs) t → (x : X) × Contains xs x × (f x ≡ t)
from-map {X} {Y} f xs t h = at xs h.0 h.1 h.2
  where
    at : (xs : List X) (k : ℕ) → k < length (map f xs) → slice_index_or (map f xs) k t ≡ t → (x : X) × Contains xs x × (f x ≡ t)
    at [] k l e = absurd (omega (arith, l))
    at (x ∷ xs) zero l e = (x, contains-head x xs x refl, e)
    at (x ∷ xs) (suc k) l e = let r = at xs k (omega (arith, l)) e in (r.0, contains-cons x xs r.0 r.1, r.2)

pub to-map : {X Y : Type 0} (f : X → Y) (xs : List X) (x : X) → Contains xs x → Contains (map f xs) (f x)
to-map f xs x h = let r = contains-at xs x h in at xs r.0 r.1
  where
    at : (xs : List _) (k : ℕ) → slice_get xs k ≡ Some x → Contains (map f xs) (f x)
    at [] k e = cc
    at (y ∷ xs) zero e = contains-head (f y) (map f xs) (f x) (let same : y ≡ x = cc in ap f same)
    at (y ∷ xs) (suc k) e = contains-cons (f y) (map f xs) (f x) (at xs k e)

-- an item of two lists end to end is one of the first, or of the second
pub get-append-cases :
    {X : Type 0} (xs ys : List X) (i : ℕ) (x : X) → slice_get (xs ++ ys) i ≡ Some x → (slice_get xs i ≡ Some x)
    ⊎ ((length xs ≤ i) × Contains ys x)
get-append-cases [] ys i x e = inr (omega arith, at-contains ys x i e)
get-append-cases (y ∷ xs) ys zero x e = inl e
get-append-cases (y ∷ xs) ys (suc i) x e = elim (get-append-cases xs ys i x e) [
  | inl old ↦ inl old
  | inr new ↦ inr (omega (arith, new.0), new.1)
]

pub get-append : {X : Type 0} (xs ys : List X) (i : ℕ) (x : X) → slice_get xs i ≡ Some x → slice_get (xs ++ ys) i ≡ Some x
get-append xs ys i x e = slice_get-append-left xs ys i (slice_get_within xs i x e) ∙ e

-- ---- The end of a search at a level

-- who is not found has no chain of the level, if no step of it leads to what is found
module _
    (g : Steps State) (least l : Level) (enough : is_at_least least l ≡ true) (found : List Found) (left : List State)
    (covered : (s : State) → Contains g.states s → Contains (found_states found) s ⊎ (Contains left s ⊎ IsStuck g least s))
    (away : All (λ s. g.goal s ≡ false) left) (k : ℕ) (all : length found ≤ k) (drawn : IsDrawn g l k found left)
  where
    nowhere : {n : ℕ} {s : State} → Path g l n s → Contains left s → ⊥
    nowhere (here {s} c at) inside = let apart : g.goal s ≡ false = All-contains (λ s. g.goal s ≡ false) left s away inside in cc
    nowhere (more {n} {s} {t} c step p) inside = go (covered t (path-state g l p)) (nowhere p)
      where
        go : Contains (found_states found) t ⊎ (Contains left t ⊎ IsStuck g least t) → (Contains left t → ⊥) → ⊥
        go (inl in_found) rest =
            let f = from-map (λ (f : Found). f.state) found t in_found in
            let i = contains-at found f.0 f.1 in
            let far : is_at_least l (g.level s f.0.state) ≡ false =
            All-contains (λ s. (j : ℕ) (f : Found) → j < k → slice_get found j ≡ Some f → is_at_least l (g.level s f.state) ≡ false)
            left s drawn inside i.0 f.0 (let w = slice_get_within found i.0 f.0 i.1 in omega (arith, w, all)) i.1 in
            let near : is_at_least l (g.level s f.0.state) ≡ true = ap (λ u. is_at_least l (g.level s u)) f.2 ∙ step in
            cc
        go (inr (inl in_left)) rest = rest in_left
        go (inr (inr stuck)) rest = stuck l enough n p

    pub none-further : IsComplete g g.states l found
    none-further s c = go (covered s c)
      where
        go : Contains (found_states found) s ⊎ (Contains left s ⊎ IsStuck g least s) → Contains (found_states found) s ⊎ HasNoPath g l s
        go (inl in_found) = inl in_found
        go (inr (inl in_left)) = inr (λ n p. nowhere p in_left)
        go (inr (inr stuck)) = inr (stuck l enough)

-- what is found at the end is all that there is
pub all-found :
    (d : KnownRows) (g : Steps State) (least l : Level) (n : ℕ) (found : List Found) (left : List State) →
    IsSearch d g least l n found left → length found ≤ n → AreFound g g.states l found
all-found d g least l n found left search all = record {
  right = search.right;
  linked = search.linked;
  complete = none-further g least l search.level found left search.covered search.away n all search.drawn;
}

-- all found states have been drawn to, or none is left
pub search-end :
    (d : KnownRows) (g : Steps State) (least l : Level) (n : ℕ) (found : List Found) (left : List State) →
    IsSearch d g least l n found left → (length found ≤ n) ⊎ (left ≡ []) → IsSearch d g least l (length found) found left
search-end d g least l n found left search end = record {
  level = search.level;
  right = search.right;
  linked = search.linked;
  covered = search.covered;
  inside = search.inside;
  away = search.away;
  drawn = drawn end;
  depth = search.depth + 1;
  before = λ i f within at. shallow i f at (cases_lt i n);
  after = λ i f from at. let within = slice_get_within found i f at in absurd (omega (arith, within, from));
  first = search.first;
  rising = search.rising;
  sorted = search.sorted;
  waiting = search.waiting;
}
  where
    drawn : (length found ≤ n) ⊎ (left ≡ []) → IsDrawn g l (length found) found left
    drawn (inl all) =
        All-weaker (λ s. (k : ℕ) (f : Found) → k < n → slice_get found k ≡ Some f → is_at_least l (g.level s f.state) ≡ false)
        (λ s. (k : ℕ) (f : Found) → k < length found → slice_get found k ≡ Some f → is_at_least l (g.level s f.state) ≡ false)
        (λ s far k f less at. far k f (omega (arith, less, all)) at) left search.drawn
    drawn (inr none) = subst (IsDrawn g l (length found) found) (sym none) (λ k d less. absurd (omega (arith, less)))

    shallow : (i : ℕ) (f : Found) → slice_get found i ≡ Some f → (i < n) ⊎ (n ≤ i) → f.steps < search.depth + 1
    shallow i f at (inl less) = let few = search.before i f less at in omega (arith, few)
    shallow i f at (inr from) = let is = search.after i f from at in omega (arith, is)

pub both-all : {X : Type 0} (P Q : X → Type 0) (xs : List X) → All P xs → All Q xs → All (λ x. P x × Q x) xs
both-all P Q xs p q k d h = (p k d h, q k d h)

-- each first step leads back
pub point-back : (g : Steps State) (l : Level) (found : List Found) → AreLinked g l found → PointBack found
point-back g l found linked i next f at is = (subst (IsLinked g l found i f) is (linked i f at)).1.before
