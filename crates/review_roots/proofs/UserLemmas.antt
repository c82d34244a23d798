-- A directory has each user once: two of its rows of one name are one row.
use Rattle.std.proofs.Common.{◌≡◌, ◌<◌, ◌≤◌, ◌∙◌, ℕ, zero, suc, true, false, List, [], ◌∷◌, ap, arith, length, sym, take}
use Rattle.std.proofs.Common.{Option, Some, None, inl, inr, ◌⊎◌, refl}
use Rattle.std.specs.Prelude.{bytes_eq, find, option_and_then, option_map, slice_get}
use Rattle.std.specs.List.{list_any, range_with_len}
use Rattle.std.proofs.lemmas.Bool.{cases_lt}
use Rattle.std.proofs.lemmas.Option.{slice_get_within}
use Rattle.sudo_base.proofs.IndexLemmas.{bytes_eq-swap}
use Rattle.sudo_match.specs.declared.fault.DirFault.{DirFault}
use Rattle.sudo_match.specs.declared.fault.DirFault.TheVariants.{UserTwice}
use Rattle.sudo_match.specs.declared.people.Machine.{Machine}
use Rattle.sudo_match.specs.declared.people.Person.{Person}
use Rattle.sudo_match.specs.KnownRows.{clashes_at, clashes_with, directory_fault, first_clash, or_else, same_user, user_fault}
use Rattle.review_roots.proofs.MemberLemmas.{find-none, find-there, in-range, none-there}
use Rattle.review_roots.proofs.RootLemmas.{range-has}
use Rattle.review_roots.proofs.SearchLemmas.{at-contains}

there : {X : Type 0} (xs : List X) (k : ℕ) → k < length xs → slice_get xs k ≡ None → ⊥
there [] k l e = absurd (omega (arith, l))
there (x ∷ xs) zero l e = cc
there (x ∷ xs) (suc k) l e = there xs k (omega (arith, l)) e

pub before : {X : Type 0} (xs : List X) (i j : ℕ) (x : X) → i < j → slice_get xs i ≡ Some x → slice_get (take j xs) i ≡ Some x
before [] i j x l e = cc
before (y ∷ xs) i zero x l e = absurd (omega (arith, l))
before (y ∷ xs) zero (suc j) x l e = e
before (y ∷ xs) (suc i) (suc j) x l e = before xs i j x (omega (arith, l)) e

none-of : (a b : Option DirFault) → or_else a b ≡ None → a ≡ None
none-of None b e = refl
none-of (Some f) b e = cc

mapped : {A B : Type 0} (f : A → B) (o : Option A) → option_map f o ≡ None → o ≡ None
mapped f None e = refl
mapped f (Some x) e = cc

no-clash : (people : List Person) → first_clash same_user people ≡ None → (j : ℕ) → j < length people
    → clashes_at same_user people j ≡ false
unfolding first_clash
no-clash people none j less = go (find (clashes_at same_user people) (range_with_len 0 (length people))) refl none
  where
    go : (o : Option ℕ) → find (clashes_at same_user people) (range_with_len 0 (length people)) ≡ o
        → option_and_then (slice_get people) o ≡ None → clashes_at same_user people j ≡ false
    go None is e = find-none (clashes_at same_user people) (range_with_len 0 (length people)) j is (range-has (length people) j less)
    go (Some k) is e =
        let found = find-there (clashes_at same_user people) (range_with_len 0 (length people)) k is in
        absurd (there people k (in-range (length people) k found.0) e)

module _ (people : List Person) (machines : List Machine) (none : directory_fault people machines ≡ None) where
  once : first_clash same_user people ≡ None
  unfolding directory_fault
  once = mapped (λ (u : Person). UserTwice u.name) (first_clash same_user people) (none-of (user_fault people) _ none)

  earlier : (i j : ℕ) (x y : Person) → i < j → slice_get people i ≡ Some x → slice_get people j ≡ Some y → same_user x y ≡ false
  earlier i j x y less at_i at_j =
      let within = slice_get_within people j y at_j in
      let clash : list_any (λ z. same_user z y) (take j people) ≡ false =
      sym (ap (clashes_with same_user (take j people)) at_j) ∙ no-clash people once j within in
      none-there (λ z. same_user z y) (take j people) x clash (at-contains (take j people) x i (before people i j x less at_i))

  pub one-row : (i j : ℕ) (x y : Person) → slice_get people i ≡ Some x → slice_get people j ≡ Some y → bytes_eq y.name x.name ≡ true
      → (x ≡ y) × (i ≡ j)
  one-row i j x y at_i at_j same = go (cases_lt i j)
    where
      unlike : (a b : Person) → bytes_eq a.name b.name ≡ true → same_user a b ≡ false → (x ≡ y) × (i ≡ j)
      unlike a b e f = absurd (let bad : true ≡ false = sym e ∙ f in cc)

      third : j ≤ i → (j < i) ⊎ (i ≤ j) → (x ≡ y) × (i ≡ j)
      third most (inl less) = unlike y x same (earlier j i y x less at_j at_i)
      third most (inr other) =
          let e : i ≡ j = omega (arith, most, other) in
          let both : Some x ≡ Some y = sym at_i ∙ ap (slice_get people) e ∙ at_j in (cc, e)

      go : (i < j) ⊎ (j ≤ i) → (x ≡ y) × (i ≡ j)
      go (inl less) = unlike x y (bytes_eq-swap x.name y.name ∙ same) (earlier i j x y less at_i at_j)
      go (inr most) = third most (cases_lt j i)
