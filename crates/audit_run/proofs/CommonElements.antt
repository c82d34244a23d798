-- The common elements of two lists can be removed from both.
use Rattle.std.proofs.Common.{◌≡◌, ℕ, zero, suc, ◌<◌, ◌⊎◌, inl, inr, List, [], ◌∷◌, ◌++◌, length, get_or, set}
use Rattle.std.proofs.Common.{IsPermutation, refl, sym, ap, ◌∙◌, subst, ⊎_elim, arith}
use mathlib.Core.Option.{some, some-injective, some-ne-none}
use lib.ListN.{get_elem?}
use Rattle.std.proofs.lemmas.List.Edits.{swap_is}
use Rattle.std.proofs.lemmas.List.Sorted.{IsPermutation-refl, IsPermutation-sym, IsPermutation-trans}
use Rattle.std.proofs.lemmas.List.Sorted.{IsPermutation-cons, IsPermutation-middle, IsPermutation-append_left}
use Rattle.std.proofs.lemmas.List.Sorted.{IsPermutation-keeps}

module _ {X : Type 0} where
  same_list : (xs ys : List X) → xs ≡ ys → IsPermutation xs ys
  same_list xs ys e = subst (λ l. IsPermutation xs l) e (IsPermutation-refl xs)

  -- the first two change places, above lists that are the same
  turn : (a b : X) (xs ys : List X) → IsPermutation xs ys → IsPermutation (a ∷ b ∷ xs) (b ∷ a ∷ ys)
  turn a b xs ys h = IsPermutation-trans _ _ _ (IsPermutation-middle (a ∷ []) b xs) (IsPermutation-cons b _ _ (IsPermutation-cons a _ _ h))

  -- m is l without one x
  abbrev Without : X → List X → List X → Type 0
  Without x [] m = ⊥
  Without x (y ∷ l) m = ((x ≡ y) × (l ≡ m)) ⊎ ((k : List X) × (m ≡ y ∷ k) × Without x l k)

  put_back : (x : X) (l m : List X) → Without x l m → IsPermutation l (x ∷ m)
  put_back x [] m w = absurd w
  put_back x (y ∷ l) m w = ⊎_elim (λ (h : (x ≡ y) × (l ≡ m)). same_list (y ∷ l) (x ∷ m) (λ i. sym h.0 i ∷ h.1 i))
      (λ (h : (k : List X) × (m ≡ y ∷ k) × Without x l k).
      IsPermutation-trans _ _ _ (IsPermutation-cons y _ _ (put_back x l h.0 h.2))
      (IsPermutation-trans _ _ _ (turn y x h.0 h.0 (IsPermutation-refl h.0)) (same_list _ _ (ap (λ r. x ∷ r) (sym h.1)))))
      w

  at_front : (x : X) (vs m : List X) → Without x (x ∷ vs) m → IsPermutation m vs
  at_front x vs m w = ⊎_elim (λ (h : (x ≡ x) × (vs ≡ m)). same_list m vs (sym h.1))
      (λ (h : (k : List X) × (m ≡ x ∷ k) × Without x vs k). IsPermutation-trans _ _ _ (same_list _ _ h.1)
      (IsPermutation-sym _ _ (put_back x vs h.0 h.2)))
      w

  -- y comes in for what stood at k
  comes_in : (l : List X) (k : ℕ) (b y : X) → get_elem? l k ≡ some b → IsPermutation (y ∷ l) (b ∷ set l k y)
  comes_in [] k b y at = absurd (some-ne-none b (sym at))
  comes_in (z ∷ l) zero b y at = IsPermutation-trans _ _ _ (turn y z l l (IsPermutation-refl l))
      (same_list _ _ (ap (λ (u : X). u ∷ y ∷ l) (some-injective z b at)))
  comes_in (z ∷ l) (suc k) b y at = IsPermutation-trans _ _ _ (turn y z l l (IsPermutation-refl l))
      (IsPermutation-trans _ _ _ (IsPermutation-cons z _ _ (comes_in l k b y at)) (turn z b _ _ (IsPermutation-refl (set l k y))))

  exchanged : (l : List X) (i j : ℕ) (a b : X) → get_elem? l i ≡ some a → get_elem? l j ≡ some b → IsPermutation l (set (set l i b) j a)
  exchanged [] i j a b at there = absurd (some-ne-none a (sym at))
  exchanged (z ∷ l) zero zero a b at there = same_list _ _ (ap (λ (u : X). u ∷ l) (some-injective z a at))
  exchanged (z ∷ l) zero (suc k) a b at there = subst (λ (u : X). IsPermutation (u ∷ l) (b ∷ set l k a))
      (sym (some-injective z a at)) (comes_in l k b a there)
  exchanged (z ∷ l) (suc k) zero a b at there = subst (λ (u : X). IsPermutation (u ∷ l) (a ∷ set l k b))
      (sym (some-injective z b there)) (comes_in l k a b at)
  exchanged (z ∷ l) (suc i) (suc j) a b at there = IsPermutation-cons z _ _ (exchanged l i j a b at there)

  -- x is written at k, and taken from there
  written : (x : X) (l : List X) (k : ℕ) (b : X) → get_elem? l k ≡ some b → (m : List X) × Without x (set l k x) m × IsPermutation l (b ∷ m)
  written x [] k b at = absurd (some-ne-none b (sym at))
  written x (z ∷ l) zero b at = (l, inl (refl, refl), same_list _ _ (ap (λ (u : X). u ∷ l) (some-injective z b at)))
  written x (z ∷ l) (suc k) b at = let h = written x l k b at in
      (z ∷ h.0, inr (h.0, refl, h.1), IsPermutation-trans _ _ _ (IsPermutation-cons z _ _ h.2) (turn z b h.0 h.0 (IsPermutation-refl h.0)))

  Replaced : X → List X → ℕ → X → X → List X → Type 0
  Replaced x l k b y m = ((x ≡ b) × IsPermutation (set l k y) (y ∷ m)) ⊎ ((n : List X) × Without x (set l k y) n
      × IsPermutation (y ∷ m) (b ∷ n))

  replaced : (x : X) (l : List X) (k : ℕ) (b y : X) (m : List X) → get_elem? l k ≡ some b → Without x l m
      → ((x ≡ b) × IsPermutation (set l k y) (y ∷ m)) ⊎ ((n : List X) × Without x (set l k y) n × IsPermutation (y ∷ m) (b ∷ n))
  replaced x [] k b y m at w = absurd w
  replaced x (z ∷ l) zero b y m at w =
      ⊎_elim (λ (h : (x ≡ z) × (l ≡ m)). inl (h.0 ∙ some-injective z b at, same_list _ _ (ap (λ r. y ∷ r) h.1)))
      (λ (h : (r : List X) × (m ≡ z ∷ r) × Without x l r).
      inr (
        y ∷ h.0,
        inr (h.0, refl, h.2),
        IsPermutation-trans _ _ _ (same_list _ _ (ap (λ r. y ∷ r) h.1))
            (IsPermutation-trans _ _ _ (turn y z h.0 h.0 (IsPermutation-refl h.0))
            (same_list _ _ (ap (λ (u : X). u ∷ y ∷ h.0) (some-injective z b at)))),
      ))
      w
  replaced x (z ∷ l) (suc k) b y m at w =
      ⊎_elim (λ (h : (x ≡ z) × (l ≡ m)). inr (
        set l k y,
        inl (h.0, refl),
        IsPermutation-trans _ _ _
            (same_list _ _ (ap (λ r. y ∷ r) (sym h.1))) (comes_in l k b y at),
      ))
      (λ (h : (r : List X) × (m ≡ z ∷ r) × Without x l r).
      ⊎_elim (λ (p : (x ≡ b) × IsPermutation (set l k y) (y ∷ h.0)).
      inl (
        p.0,
        IsPermutation-trans _ _ _ (IsPermutation-cons z _ _ p.1)
            (IsPermutation-trans _ _ _ (turn z y h.0 h.0 (IsPermutation-refl h.0)) (same_list _ _ (ap (λ r. y ∷ r) (sym h.1)))),
      ))
      (λ (p : (n : List X) × Without x (set l k y) n × IsPermutation (y ∷ h.0) (b ∷ n)).
      inr (
        z ∷ p.0,
        inr (p.0, refl, p.1),
        IsPermutation-trans _ _ _ (same_list _ _ (ap (λ r. y ∷ r) h.1))
            (IsPermutation-trans _ _ _ (turn y z h.0 h.0 (IsPermutation-refl h.0))
            (IsPermutation-trans _ _ _ (IsPermutation-cons z _ _ p.2) (turn z b p.0 p.0 (IsPermutation-refl p.0)))),
      ))
      (replaced x l k b y h.0 at h.2))
      w

  -- the first element and the one at k change places
  front : (x z : X) (l : List X) (k : ℕ) (b : X) (m : List X) → get_elem? l k ≡ some b → Without x (z ∷ l) m
      → (n : List X) × Without x (b ∷ set l k z) n × IsPermutation m n
  front x z l k b m at w = ⊎_elim
      (λ (h : (x ≡ z) × (l ≡ m)). let o = written x l k b at in (
        b ∷ o.0,
        inr (o.0, refl, subst (λ (u : X). Without x (set l k u) o.0) h.0 o.1),
        IsPermutation-trans _ _ _
            (same_list _ _ (sym h.1)) o.2,
      ))
      (λ (h : (r : List X) × (m ≡ z ∷ r) × Without x l r).
      ⊎_elim (λ (p : (x ≡ b) × IsPermutation (set l k z) (z ∷ h.0)).
      (set l k z, inl (p.0, refl), IsPermutation-trans _ _ _ (same_list _ _ h.1) (IsPermutation-sym _ _ p.1)))
      (λ (p : (n : List X) × Without x (set l k z) n × IsPermutation (z ∷ h.0) (b ∷ n)).
      (b ∷ p.0, inr (p.0, refl, p.1), IsPermutation-trans _ _ _ (same_list _ _ h.1) p.2))
      (replaced x l k b z h.0 at h.2))
      w

  stays : (x : X) (l : List X) (i j : ℕ) (a b : X) (m : List X) → get_elem? l i ≡ some a → get_elem? l j ≡ some b
      → Without x l m → (n : List X) × Without x (set (set l i b) j a) n × IsPermutation m n
  stays x [] i j a b m at there w = absurd w
  stays x (z ∷ l) zero zero a b m at there w = (m, subst (λ (u : X). Without x (u ∷ l) m) (some-injective z a at) w, IsPermutation-refl m)
  stays x (z ∷ l) zero (suc k) a b m at there w =
      subst (λ (u : X). (n : List X) × Without x (b ∷ set l k u) n × IsPermutation m n) (some-injective z a at) (front x z l k b m there w)
  stays x (z ∷ l) (suc k) zero a b m at there w =
      subst (λ (u : X). (n : List X) × Without x (a ∷ set l k u) n × IsPermutation m n) (some-injective z b there) (front x z l k a m at w)
  stays x (z ∷ l) (suc i) (suc j) a b m at there w = ⊎_elim
      (λ (h : (x ≡ z) × (l ≡ m)). (
        set (set l i b) j a,
        inl (h.0, refl),
        IsPermutation-trans _ _ _
            (same_list _ _ (sym h.1)) (exchanged l i j a b at there),
      ))
      (λ (h : (r : List X) × (m ≡ z ∷ r) × Without x l r). let o = stays x l i j a b h.0 at there h.2 in
      (z ∷ o.0, inr (o.0, refl, o.1), IsPermutation-trans _ _ _ (same_list _ _ h.1) (IsPermutation-cons z _ _ o.2)))
      w

  found : (l : List X) (i : ℕ) (d : X) → i < length l → get_elem? l i ≡ some (get_or l i d)
  found [] i d h = absurd (omega arith)
  found (z ∷ l) zero d h = refl
  found (z ∷ l) (suc i) d h = found l i d (omega arith)

  one_less : (x : X) (us vs : List X) → IsPermutation (x ∷ us) (x ∷ vs) → IsPermutation us vs
  one_less x us vs h =
      let P : List X → Type 0 = λ l. (m : List X) × Without x l m × IsPermutation us m in
      let end : P (x ∷ vs) = IsPermutation-keeps (x ∷ us) P (us, inl (refl, refl), IsPermutation-refl us)
      (λ l i j a b w. let o = stays x l i j (get_or l i x) (get_or l j x) w.0 (found l i x a) (found l j x b) w.1 in
      subst P (swap_is l i j x a b) (o.0, o.1, IsPermutation-trans _ _ _ w.2 o.2))
      (x ∷ vs) h in
      IsPermutation-trans _ _ _ end.2 (at_front x vs end.0 end.1)

  less : (xs us vs : List X) → IsPermutation (xs ++ us) (xs ++ vs) → IsPermutation us vs
  less [] us vs h = h
  less (x ∷ xs) us vs h = less xs us vs (one_less x (xs ++ us) (xs ++ vs) h)

  pub cancel : (xs ys us vs : List X) → IsPermutation xs ys → IsPermutation (xs ++ us) (ys ++ vs) → IsPermutation us vs
  cancel xs ys us vs same h = less xs us vs (IsPermutation-trans _ _ _ h (IsPermutation-append_left vs _ _ (IsPermutation-sym _ _ same)))
