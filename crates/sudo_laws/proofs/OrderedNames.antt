-- Each list of names has an order by their bytes.
use Rattle.std.proofs.Common.{◌≡◌, ℕ, zero, suc, ◌+◌, ◌<◌, Bool, true, false, if◌then◌else◌, List, [], ◌∷◌, length, refl}
use Rattle.std.proofs.Common.{sym, ◌∙◌, ap, subst, arith}
use Rattle.std.specs.Prelude.{⊤, slice_index_or}
use Rattle.std.specs.Cmp.Lexicographic.{slice_cmp}
use Rattle.std.specs.List.Sorted.{IsPermutation, IsSorted}
use Rattle.std.specs.Ordering.{is_lt, nat_cmp, ordering_reverse}
use Rattle.std.specs.declared.cmp.Ordering.{Ordering}
use Rattle.std.specs.declared.cmp.Ordering.TheVariants.{Equal, Greater, Less}
use Rattle.std.proofs.lemmas.Bool.{true≢false}
use Rattle.std.proofs.lemmas.Cmp.{nat_list_cmp_total}
use Rattle.std.proofs.lemmas.List.Sorted.{IsPermutation-cons, IsPermutation-middle, IsPermutation-refl, IsPermutation-trans}

-- the first is less than the second, by bytes
abbrev less : List ℕ → List ℕ → Bool
less a b = is_lt (slice_cmp nat_cmp a b)

turned : (o : Ordering) → is_lt o ≡ true → is_lt (ordering_reverse o) ≡ false
turned Less h = refl
turned Equal h = absurd (true≢false (sym h))
turned Greater h = absurd (true≢false (sym h))

not_less : (a b : List ℕ) → less a b ≡ true → less b a ≡ false
not_less a b h = ap is_lt (nat_list_cmp_total.antisymm b a) ∙ turned (slice_cmp nat_cmp a b) h

-- no name is less than the one before it
abbrev Ordered : List (List ℕ) → Type 0
Ordered [] = ⊤
Ordered (x ∷ []) = ⊤
Ordered (x ∷ y ∷ ys) = (less y x ≡ false) × Ordered (y ∷ ys)

-- a name before the first one that is not less
put : List ℕ → List (List ℕ) → List (List ℕ)
put x [] = x ∷ []
put x (y ∷ ys) = if less y x then y ∷ put x ys else x ∷ y ∷ ys

module _ (x y : List ℕ) (h : less y x ≡ true) where
  -- with a name before it that is less than the new one
  behind : (zs : List (List ℕ)) → Ordered (y ∷ zs) → Ordered (put x zs) → Ordered (y ∷ put x zs)
  unfolding put
  behind [] first rest = (not_less y x h, tt)
  behind (z ∷ zs) first rest = by (less z x) rest
    where
      by : (b : Bool) → Ordered (if b then z ∷ put x zs else x ∷ z ∷ zs) → Ordered (y ∷ (if b then z ∷ put x zs else x ∷ z ∷ zs))
      by true more = (first.0, more)
      by false more = (not_less y x h, more)

put_ordered : (x : List ℕ) (ys : List (List ℕ)) → Ordered ys → Ordered (put x ys)
unfolding put
put_ordered x [] ordered = tt
put_ordered x (y ∷ ys) ordered = by (less y x) refl (put_ordered x ys (tail y ys ordered))
  where
    tail : (y : List ℕ) (ys : List (List ℕ)) → Ordered (y ∷ ys) → Ordered ys
    tail y [] ordered = tt
    tail y (z ∷ zs) ordered = ordered.1

    by : (b : Bool) → less y x ≡ b → Ordered (put x ys) → Ordered (if b then y ∷ put x ys else x ∷ y ∷ ys)
    by true is rest = behind x y is ys ordered rest
    by false is rest = (is, ordered)

put_moves : (x : List ℕ) (ys : List (List ℕ)) → IsPermutation (x ∷ ys) (put x ys)
unfolding put
put_moves x [] = IsPermutation-refl (x ∷ [])
put_moves x (y ∷ ys) = by (less y x) (put_moves x ys)
  where
    by : (b : Bool) → IsPermutation (x ∷ ys) (put x ys) → IsPermutation (x ∷ y ∷ ys) (if b then y ∷ put x ys else x ∷ y ∷ ys)
    by true rest =
        IsPermutation-trans (x ∷ y ∷ ys) (y ∷ x ∷ ys) (y ∷ put x ys) (IsPermutation-middle (x ∷ []) y ys)
        (IsPermutation-cons y (x ∷ ys) (put x ys) rest)
    by false rest = IsPermutation-refl (x ∷ y ∷ ys)

sorted_at : (xs : List (List ℕ)) → Ordered xs → (k : ℕ) (d : List ℕ) → k + 1 < length xs
    → less (slice_index_or xs (k + 1) d) (slice_index_or xs k d) ≡ false
sorted_at [] ordered k d within = absurd (omega (arith, within))
sorted_at (x ∷ []) ordered k d within = absurd (omega (arith, within))
sorted_at (x ∷ y ∷ ys) ordered zero d within = ordered.0
sorted_at (x ∷ y ∷ ys) ordered (suc k) d within =
    let next : suc (k + 1) ≡ suc k + 1 = omega arith in
    subst (λ n. less (slice_index_or (x ∷ y ∷ ys) n d) (slice_index_or (y ∷ ys) k d) ≡ false) next
    (sorted_at (y ∷ ys) ordered.1 k d (omega (arith, within)))

-- a list in order, with the same names
record InOrder (names : List (List ℕ)) : Type 0 where
  names_in_order : List (List ℕ)
  ordered : Ordered names_in_order
  moved : IsPermutation names names_in_order

in_order : (names : List (List ℕ)) → InOrder names
in_order [] = record { names_in_order = []; ordered = tt; moved = IsPermutation-refl [] }
in_order (x ∷ xs) =
    let rest = in_order xs in
    record {
      names_in_order = put x rest.names_in_order;
      ordered = put_ordered x rest.names_in_order rest.ordered;
      moved = IsPermutation-trans (x ∷ xs) (x ∷ rest.names_in_order) (put x rest.names_in_order)
          (IsPermutation-cons x xs rest.names_in_order rest.moved) (put_moves x rest.names_in_order);
    }

pub names_have_order : (names : List (List ℕ)) → (sorted : List (List ℕ)) × IsPermutation names sorted × IsSorted (slice_cmp nat_cmp) sorted
names_have_order names =
    let found = in_order names in
    (found.names_in_order, found.moved, λ k d from within. sorted_at found.names_in_order found.ordered k d within)
