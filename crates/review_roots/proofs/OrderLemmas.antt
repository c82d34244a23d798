-- The order of states: lists that keep it, and states that stand at one place in it.
use Rattle.std.proofs.Common.{◌≡◌, ◌<◌, ◌∙◌, ◌⊎◌, ℕ, zero, suc, Bool, true, false, cond, List, [], ◌∷◌, ◌++◌, ap, arith}
use Rattle.std.proofs.Common.{inl, inr, map, refl, subst, sym, Option, Some, None, Bor, get_or}
use Rattle.std.specs.Prelude.{All, bytes_eq, filter, nat_lt, slice_get, ◌==◌}
use Rattle.std.specs.Cmp.{IsTotalOrder}
use denote.Param.Members.{Mut}
use Rattle.std.specs.Cmp.Lexicographic.{slice_cmp}
use Rattle.std.specs.List.{Contains, cons_option, filter_map}
use Rattle.std.specs.List.Sorted.{IsPermutation, IsSortedBy}
use Rattle.std.specs.Option.{option_cmp}
use Rattle.std.specs.declared.cmp.Ordering.{Ordering}
use Rattle.std.specs.declared.cmp.Ordering.TheVariants.{Less, Equal, Greater}
use Rattle.std.specs.Ordering.{is_gt, is_lt, nat_cmp, ordering_reverse, ordering_then}
use Rattle.std.specs.Cmp.Lexicographic.{options_total}
use Rattle.std.proofs.lemmas.Bool.{eqb-true}
use Rattle.std.specs.Cmp.{IsStrictWeakOrder}
use Rattle.std.specs.Fn.{Called, ComparesAs}
use Rattle.std.proofs.lemmas.Fn.{always_returns_same}
use Rattle.std.proofs.lemmas.Cmp.{nat_cmp_total, nat_list_cmp_total, on_total, then_total, tied_itself, upto}
use Rattle.std.proofs.lemmas.List.Elements.{All-contains, Contains-append_left, Contains-append_right}
use Rattle.std.proofs.lemmas.List.Sorted.{Contains-permutation, IsPermutation-sym, ranks_by, sorted_far}
use Rattle.std.proofs.lemmas.Option.{slice_get_within}
use Rattle.std.proofs.lemmas.Slice.Eq.{bytes_eq-Decides}
use Rattle.sudo_match.specs.declared.people.Group.{Group}
use Rattle.sudo_match.specs.declared.people.Person.{Person}
use Rattle.sudo_match.specs.KnownRows.{KnownRows, directory_fault}
use Rattle.review_roots.specs.declared.state.State.{State}
use Rattle.review_roots.specs.AddableGroups.{group_cmp}
use Rattle.review_roots.specs.Order.{person_name, state_cmp, user_name}
use Rattle.review_roots.specs.Order.{IsInOrder}
use Rattle.review_roots.specs.Body.Candidates.{has_state}
use Rattle.review_roots.proofs.CandidateLemmas.{has-in, in-has}
use Rattle.review_roots.proofs.MemberLemmas.{all-of, from-append}
use Rattle.review_grants.proofs.ItemLemmas.{from-filter}
use Rattle.review_roots.proofs.SearchLemmas.{at-contains, contains-at, contains-cons, contains-head, from-map, to-map}
use Rattle.review_roots.proofs.UserLemmas.{one-row}

-- ---- States

pub state-total : (d : KnownRows) → IsTotalOrder (state_cmp d)
state-total d =
    then_total (on_total (λ (s : State). user_name d s.user) nat_list_cmp_total)
    (on_total (λ (s : State). s.added) (options_total nat_cmp_total))

pub group-total : IsTotalOrder group_cmp
group-total =
    then_total (on_total (λ (g : Group). g.name) nat_list_cmp_total) (on_total (λ (g : Group). g.gid) nat_cmp_total)

pub behind-itself : (d : KnownRows) (s : State) → is_gt (state_cmp d s s) ≡ false
behind-itself d s = ap is_gt (tied_itself (state-total d) s)

pub behind-trans : (d : KnownRows) (s t u : State) → is_gt (state_cmp d s t) ≡ false → is_gt (state_cmp d t u) ≡ false
    → is_gt (state_cmp d s u) ≡ false
behind-trans d s t u a b = upto (state-total d) s t u a b

-- numbers, texts and added groups at one place are the same
nat-same : (x y : ℕ) → nat_cmp x y ≡ Equal → x ≡ y
nat-same x y e = go (nat_lt x y) (x == y) refl e
  where
    go : (a b : Bool) → (x == y) ≡ b → cond a Less (cond b Equal Greater) ≡ Equal → x ≡ y
    go true b is e = cc
    go false true is e = eqb-true x y is
    go false false is e = cc

both-tie : (a b : Ordering) → ordering_then a b ≡ Equal → (a ≡ Equal) × (b ≡ Equal)
both-tie Less b e = cc
both-tie Equal b e = (refl, e)
both-tie Greater b e = cc

texts-same : (xs ys : List ℕ) → slice_cmp nat_cmp xs ys ≡ Equal → xs ≡ ys
texts-same [] [] e = refl
texts-same [] (y ∷ ys) e = cc
texts-same (x ∷ xs) [] e = cc
texts-same (x ∷ xs) (y ∷ ys) e =
    let both = both-tie (nat_cmp x y) (slice_cmp nat_cmp xs ys) e in
    ap (λ z. z ∷ xs) (nat-same x y both.0) ∙ ap (λ zs. y ∷ zs) (texts-same xs ys both.1)

added-same : (a b : Option ℕ) → option_cmp nat_cmp a b ≡ Equal → a ≡ b
added-same None None e = refl
added-same None (Some y) e = cc
added-same (Some x) None e = cc
added-same (Some x) (Some y) e = ap Some (nat-same x y e)

same-bytes : (xs : List ℕ) → bytes_eq xs xs ≡ true
same-bytes xs = (bytes_eq-Decides xs xs).1 refl

-- known states at one place are the same
pub states-same :
    (d : KnownRows) (known : directory_fault d.people d.machines ≡ None) (s t : State) (u v : Person) → slice_get d.people s.user ≡ Some u →
    slice_get d.people t.user ≡ Some v → state_cmp d s t ≡ Equal → s ≡ t
states-same d known s t u v at_s at_t e = one-state s t (one-row d.people d.machines known s.user t.user u v at_s at_t same).1 added
  where
    both : (slice_cmp nat_cmp (user_name d s.user) (user_name d t.user) ≡ Equal) × (option_cmp nat_cmp s.added t.added ≡ Equal)
    both = both-tie (slice_cmp nat_cmp (user_name d s.user) (user_name d t.user)) (option_cmp nat_cmp s.added t.added) e

    names : u.name ≡ v.name
    names = ap person_name (sym at_s) ∙ texts-same (user_name d s.user) (user_name d t.user) both.0 ∙ ap person_name at_t

    same : bytes_eq v.name u.name ≡ true
    same = ap (bytes_eq v.name) names ∙ same-bytes v.name

    added : s.added ≡ t.added
    added = added-same s.added t.added both.1

    one-state : (s t : State) → s.user ≡ t.user → s.added ≡ t.added → s ≡ t
    one-state s t a b =
        ap (λ user. let r : State = record { user = user; added = s.added } in r) a
        ∙ ap (λ added. let r : State = record { user = t.user; added = added } in r) b

-- states of one user are in the order of their added groups
pub one-user : (d : KnownRows) (s t : State) → s.user ≡ t.user → is_gt (option_cmp nat_cmp s.added t.added) ≡ false
    → is_gt (state_cmp d s t) ≡ false
one-user d s t same added =
    ap (λ o. is_gt (ordering_then o (option_cmp nat_cmp s.added t.added)))
    (ap (λ user. slice_cmp nat_cmp (user_name d s.user) (user_name d user)) (sym same)
    ∙ tied_itself nat_list_cmp_total (user_name d s.user))
    ∙ added

-- ---- Lists of states in their order

abbrev NoneBehind : KnownRows → State → List State → Type 0
NoneBehind d s ss = All (λ t. is_gt (state_cmp d s t) ≡ false) ss

-- the same along the list
abbrev InOrder : KnownRows → List State → Type 0
InOrder d [] = Unit {0}
InOrder d (s ∷ ss) = NoneBehind d s ss × InOrder d ss

-- no state goes behind a later one
order-at :
    (d : KnownRows) (ss : List State) → InOrder d ss → (i k : ℕ) (s t : State) → i < k → slice_get ss i ≡ Some s → slice_get ss k ≡ Some t →
    is_gt (state_cmp d s t) ≡ false
order-at d [] o i k s t less at_s at_t = cc
order-at d (x ∷ ss) o zero zero s t less at_s at_t = absurd (omega (arith, less))
order-at d (x ∷ ss) o (suc i) zero s t less at_s at_t = absurd (omega (arith, less))
order-at d (x ∷ ss) o zero (suc k) s t less at_s at_t =
    let same : x ≡ s = cc in
    subst (λ y. is_gt (state_cmp d y t) ≡ false) same
    (All-contains (λ t. is_gt (state_cmp d x t) ≡ false) ss t o.0 (at-contains ss t k at_t))
order-at d (x ∷ ss) o (suc i) (suc k) s t less at_s at_t = order-at d ss o.1 i k s t (omega (arith, less)) at_s at_t

in-order : (d : KnownRows) (ss : List State) → IsInOrder d ss → InOrder d ss
in-order d [] each = tt
in-order d (x ∷ ss) each = (
  all-of (λ t. is_gt (state_cmp d x t) ≡ false) ss
      (λ t inside. let k = contains-at ss t inside in each zero (suc k.0) x t (omega arith) refl k.1),
  in-order d ss (λ i k s t less at_s at_t. each (suc i) (suc k) s t (omega (arith, less)) at_s at_t),
)

-- items that are picked keep the order
pub from-picked : {X Y : Type 0} (pick : X → Option Y) (xs : List X) (y : Y) → Contains (filter_map pick xs) y
    → (x : X) × (Contains xs x × (pick x ≡ Some y))
from-picked pick [] y h = absurd (omega (arith, h.1))
from-picked {X} {Y} pick (x ∷ xs) y h = go (pick x) refl h (from-picked pick xs y)
  where
    widen : (x' : X) × (Contains xs x' × (pick x' ≡ Some y)) → (x' : X) × (Contains (x ∷ xs) x' × (pick x' ≡ Some y))
    widen r = (r.0, (contains-cons x xs r.0 r.1.0, r.1.1))

    Behind : Type 0
    Behind = Contains (filter_map pick xs) y → (x' : X) × (Contains xs x' × (pick x' ≡ Some y))

    first : (z : Y) → pick x ≡ Some z → (k : ℕ) → slice_get (z ∷ filter_map pick xs) k ≡ Some y → Behind
        → (x' : X) × (Contains (x ∷ xs) x' × (pick x' ≡ Some y))
    first z is zero e behind = let same : z ≡ y = cc in (x, (contains-head x xs x refl, is ∙ ap Some same))
    first z is (suc k) e behind = widen (behind (at-contains (filter_map pick xs) y k e))

    go : (o : Option Y) → pick x ≡ o → Contains (cons_option o (filter_map pick xs)) y → Behind
        → (x' : X) × (Contains (x ∷ xs) x' × (pick x' ≡ Some y))
    go None is h behind = widen (behind h)
    go (Some z) is h behind = let k = contains-at (z ∷ filter_map pick xs) y h in first z is k.0 k.1 behind

pub to-picked : {X Y : Type 0} (pick : X → Option Y) (xs : List X) (x : X) (y : Y) → Contains xs x → pick x ≡ Some y
    → Contains (filter_map pick xs) y
to-picked {X} {Y} pick xs x y inside is = let k = contains-at xs x inside in at xs k.0 k.1
  where
    wider : (o : Option Y) (ys : List Y) → Contains ys y → Contains (cons_option o ys) y
    wider None ys h = h
    wider (Some z) ys h = contains-cons z ys y h

    at : (xs : List X) (k : ℕ) → slice_get xs k ≡ Some x → Contains (filter_map pick xs) y
    at [] k e = cc
    at (z ∷ zs) zero e =
        let same : z ≡ x = cc in
        subst (λ o. Contains (cons_option o (filter_map pick zs)) y) (sym (ap pick same ∙ is)) (contains-head y (filter_map pick zs) y refl)
    at (z ∷ zs) (suc k) e = wider (pick z) (filter_map pick zs) (at zs k e)

module _ {X : Type 0} (d : KnownRows) (st : X → State) where
  head-kept : (x : X) (xs : List X) → NoneBehind d (st x) (map st xs) → (y : X) → Contains xs y → is_gt (state_cmp d (st x) (st y)) ≡ false
  head-kept x xs all y inside = All-contains (λ t. is_gt (state_cmp d (st x) t) ≡ false) (map st xs) (st y) all (to-map st xs y inside)

  kept-along : (p : X → Bool) (xs : List X) → InOrder d (map st xs) → InOrder d (map st (filter p xs))
  kept-along p [] o = tt
  kept-along p (x ∷ xs) o = go (p x) (kept-along p xs o.1)
    where
      go : (b : Bool) → InOrder d (map st (filter p xs)) → InOrder d (map st (cond b (x ∷ filter p xs) (filter p xs)))
      go true rest = (
        all-of (λ t. is_gt (state_cmp d (st x) t) ≡ false) (map st (filter p xs))
            (λ t inside.
            let y = from-map st (filter p xs) t inside in
            ap (λ u. is_gt (state_cmp d (st x) u)) (sym y.2)
            ∙ head-kept x xs o.0 y.0 (from-filter p xs y.0 y.1).0),
        rest,
      )
      go false rest = rest

  pub kept-order : (p : X → Bool) (xs : List X) → IsInOrder d (map st xs) → IsInOrder d (map st (filter p xs))
  kept-order p xs o = order-at d (map st (filter p xs)) (kept-along p xs (in-order d (map st xs) o))

  picked-along :
      {Y : Type 0} (st' : Y → State) (pick : X → Option Y) → ((x : X) (y : Y) → pick x ≡ Some y → st' y ≡ st x) → (xs : List X)
      → InOrder d (map st xs) → InOrder d (map st' (filter_map pick xs))
  picked-along {Y} st' pick same [] o = tt
  picked-along {Y} st' pick same (x ∷ xs) o = go (pick x) refl (picked-along st' pick same xs o.1)
    where
      go : (p : Option Y) → pick x ≡ p → InOrder d (map st' (filter_map pick xs))
          → InOrder d (map st' (cons_option p (filter_map pick xs)))
      go None is rest = rest
      go (Some y) is rest = (
        all-of (λ t. is_gt (state_cmp d (st' y) t) ≡ false) (map st' (filter_map pick xs))
            (λ t inside.
            let z = from-map st' (filter_map pick xs) t inside in
            let w = from-picked pick xs z.0 z.1 in
            ap (λ u. is_gt (state_cmp d (st' y) u)) (sym z.2)
            ∙ ap (λ u. is_gt (state_cmp d u (st' z.0))) (same x y is)
            ∙ ap (λ u. is_gt (state_cmp d (st x) u)) (same w.0 z.0 w.1.1)
            ∙ head-kept x xs o.0 w.0 w.1.0),
        rest,
      )

  pub picked-order :
      {Y : Type 0} (st' : Y → State) (pick : X → Option Y) → ((x : X) (y : Y) → pick x ≡ Some y → st' y ≡ st x) → (xs : List X)
      → IsInOrder d (map st xs) → IsInOrder d (map st' (filter_map pick xs))
  picked-order st' pick same xs o =
      order-at d (map st' (filter_map pick xs)) (picked-along st' pick same xs (in-order d (map st xs) o))

-- a list without one of its states
without-along : (d : KnownRows) (ss : List State) (s : State) (ts : List State) → InOrder d (ss ++ s ∷ ts) → InOrder d (ss ++ ts)
without-along d [] s ts o = o.1
without-along d (x ∷ ss) s ts o = (
  all-of (λ t. is_gt (state_cmp d x t) ≡ false) (ss ++ ts)
      (λ t inside. All-contains (λ t. is_gt (state_cmp d x t) ≡ false) (ss ++ s ∷ ts) t o.0 (wider t (from-append ss ts t inside))),
  without-along d ss s ts o.1,
)
  where
    wider : (t : State) → Contains ss t ⊎ Contains ts t → Contains (ss ++ s ∷ ts) t
    wider t (inl one) = Contains-append_left ss (s ∷ ts) t one
    wider t (inr other) = Contains-append_right ss (s ∷ ts) t (contains-cons s ts t other)

pub without : (d : KnownRows) (ss : List State) (s : State) (ts : List State) → IsInOrder d (ss ++ s ∷ ts) → IsInOrder d (ss ++ ts)
without d ss s ts o = order-at d (ss ++ ts) (without-along d ss s ts (in-order d (ss ++ s ∷ ts) o))

-- ---- A sort

less-turned : (o : Ordering) → is_gt (ordering_reverse o) ≡ is_lt o
less-turned Less = refl
less-turned Equal = refl
less-turned Greater = refl

both-ways : (a b : Bool) → (a ≡ true → b ≡ true) → (b ≡ true → a ≡ true) → b ≡ a
both-ways true true there back = refl
both-ways true false there back = there refl
both-ways false true there back = sym (back refl)
both-ways false false there back = refl

-- states in another order are the same ones
pub moved-has : (xs ys : List State) → IsPermutation xs ys → (s : State) → has_state ys s ≡ has_state xs s
moved-has xs ys moved s =
    both-ways (has_state xs s) (has_state ys s)
    (λ e. in-has ys s (Contains-permutation xs ys s moved (has-in xs s e)))
    (λ e. in-has xs s (Contains-permutation ys xs s (IsPermutation-sym xs ys moved) (has-in ys s e)))

module _ {X : Type 0} (cmp : X → X → Ordering) (total : IsTotalOrder cmp) where
  -- what a sort by an order leaves is in order
  pub sorted-order :
      (xs : List X) → IsSortedBy (λ x y. is_lt (cmp x y)) xs →
      (i k : ℕ) (x y : X) → i < k → slice_get xs i ≡ Some x → slice_get xs k ≡ Some y → is_gt (cmp x y) ≡ false
  sorted-order xs up i k x y less at_x at_y =
      let far = sorted_far (λ x y. is_lt (cmp x y)) (ranks_by total (λ x. x)) xs up i k x (omega (arith, less))
      (slice_get_within xs k y at_y) in
      ap is_gt (total.antisymm x y) ∙ less-turned (cmp y x)
      ∙ sym (ap (λ z. is_lt (cmp z (get_or xs i x))) (at xs k y x at_y) ∙ ap (λ z. is_lt (cmp y z)) (at xs i x x at_x))
      ∙ far
    where
      at : (xs : List X) (i : ℕ) (x e : X) → slice_get xs i ≡ Some x → get_or xs i e ≡ x
      at [] i x e is = cc
      at (y ∷ ys) zero x e is = cc
      at (y ∷ ys) (suc i) x e is = at ys i x e is

  -- the same of a sort whose calls compare two items
  pub sorted-by-calls :
      {F : Type 0} {g : Mut F (Bor X × (Bor X × Unit {0})) Ordering} {f : F} (xs : List X) →
      ((lt : X → X → Bool) → IsStrictWeakOrder lt → ComparesAs g lt f → IsSortedBy lt xs) →
      ((a : Bor X × (Bor X × Unit {0})) (r : Ordering) (f' : F) → Called g f a r f'
      → (r ≡ cmp a.0.now a.1.0.now) × (f' ≡ f)) →
      (i k : ℕ) (x y : X) → i < k → slice_get xs i ≡ Some x → slice_get xs k ≡ Some y → is_gt (cmp x y) ≡ false
  sorted-by-calls {g = g} {f = f} xs up calls =
      sorted-order xs
      (up (λ x y. is_lt (cmp x y)) (ranks_by total (λ x. x))
      (always_returns_same g (λ a r. is_lt r ≡ is_lt (cmp a.0.now a.1.0.now)) f
      (λ a r f' call. (ap is_lt (calls a r f' call).0, (calls a r f' call).1))))
