-- Known groups of one ID are one group.
use Rattle.std.proofs.Common.{◌≡◌, ℕ, zero, suc, ◌+◌, ◌<◌, ◌≤◌, ◌⊎◌, inl, inr, Bool, true, false, cond, ◌&&◌, ◌||◌, ◌==◌}
use Rattle.std.proofs.Common.{List, [], ◌∷◌, length, take, Option, Some, None, refl, sym, ◌∙◌, ap, subst, arith, slice_get}
use Rattle.std.specs.Prelude.{find, option_map, option_and_then, bytes_eq, not}
use Rattle.std.specs.List.{list_any, range_with_len}
use Rattle.std.proofs.lemmas.Bool.{cases_lt, false≢true, eq-eqb, eqb-true}
use Rattle.std.proofs.lemmas.Option.{slice_get_within}
use Rattle.std.proofs.lemmas.Slice.Eq.{bytes_eq-Decides}
use Rattle.sudo_base.proofs.IndexLemmas.{bytes_eq-is, bytes_eq-swap}
use Rattle.sudo_match.specs.declared.people.Person.{Person}
use Rattle.sudo_match.specs.declared.people.Group.{Group}
use Rattle.sudo_match.specs.declared.people.Machine.{Machine}
use Rattle.sudo_match.specs.declared.fault.DirFault.TheVariants.{GroupClash}
use Rattle.sudo_match.specs.KnownRows.{clashes_at, first_clash, groups_clash, groups_of, group_fault, directory_fault}
use Rattle.sudo_match.specs.KnownRows.{or_else, user_fault, host_fault, ungrouped_fault, root_fault}
use Rattle.sudo_match.proofs.ClashLemmas.{clash-here}
use Rattle.review_subjects.proofs.Known.{IsOf, or_parts}

-- ---- The search over the indices finds nothing

in_range : (p : ℕ → Bool) (n a i : ℕ) → find p (range_with_len a n) ≡ Some i → i < a + n
in_range p zero a i h = cc
in_range p (suc n) a i h = go (p a) (λ e. in_range p n (a + 1) i e) h
  where
    go : (b : Bool) → (find p (range_with_len (a + 1) n) ≡ Some i → i < (a + 1) + n)
        → cond b (Some a) (find p (range_with_len (a + 1) n)) ≡ Some i → i < a + suc n
    go true rest e = let same : a ≡ i = cc in omega (arith, same)
    go false rest e = let k = rest e in omega (arith, k)

none_found : (p : ℕ → Bool) (n a : ℕ) → find p (range_with_len a n) ≡ None → (j : ℕ) → a ≤ j → j < a + n → p j ≡ false
none_found p zero a h j from to = absurd (omega (arith, from, to))
none_found p (suc n) a h j from to = go (p a) refl h (λ e l. none_found p n (a + 1) e j l (omega (arith, to)))
  where
    go : (b : Bool) → p a ≡ b → cond b (Some a) (find p (range_with_len (a + 1) n)) ≡ None
        → (find p (range_with_len (a + 1) n) ≡ None → a + 1 ≤ j → p j ≡ false) → p j ≡ false
    go true e k rest = cc
    go false e k rest = at (cases_lt a j)
      where
        at : (a < j) ⊎ (j ≤ a) → p j ≡ false
        at (inl l) = rest k (omega (arith, l))
        at (inr l) = let same : a ≡ j = omega (arith, l, from) in ap p (sym same) ∙ e

get_some : {A : Type 0} (xs : List A) (i : ℕ) → i < length xs → slice_get xs i ≡ None → false ≡ true
get_some [] i l h = absurd (omega (arith, l))
get_some (x ∷ xs) zero l h = cc
get_some (x ∷ xs) (suc i) l h = get_some xs i (omega (arith, l)) h

-- rows without a clash: no row clashes with one before it
no_clash : {A : Type 0} (clashes : A → A → Bool) (rows : List A) → first_clash clashes rows ≡ None
    → (j : ℕ) → j < length rows → clashes_at clashes rows j ≡ false
unfolding first_clash
no_clash clashes rows h j l = go (find (clashes_at clashes rows) (range_with_len 0 (length rows))) refl h
  where
    go : (o : Option ℕ) → find (clashes_at clashes rows) (range_with_len 0 (length rows)) ≡ o
        → option_and_then (slice_get rows) o ≡ None → clashes_at clashes rows j ≡ false
    go None e k = none_found (clashes_at clashes rows) (length rows) 0 e j (omega arith) (omega (arith, l))
    go (Some i) e k =
        let within : i < 0 + length rows = in_range (clashes_at clashes rows) (length rows) 0 i e in
        absurd (false≢true (get_some rows i (omega (arith, within)) k))

-- ---- Pairs

any_taken : {A : Type 0} (f : A → Bool) (xs : List A) (j i : ℕ) (x : A) → list_any f (take j xs) ≡ false → i < j
    → slice_get xs i ≡ Some x → f x ≡ false
any_taken f [] j i x h l e = cc
any_taken f (y ∷ ys) zero i x h l e = absurd (omega (arith, l))
any_taken f (y ∷ ys) (suc j) zero x h l e =
    let k = or_parts (f y) (list_any f (take j ys)) h in let same : y ≡ x = cc in subst (λ z. f z ≡ false) same k.0
any_taken f (y ∷ ys) (suc j) (suc i) x h l e =
    let k = or_parts (f y) (list_any f (take j ys)) h in any_taken f ys j i x k.1 (omega (arith, l)) e

none_any : {A : Type 0} (f : A → Bool) (xs : List A) → ((i : ℕ) (x : A) → slice_get xs i ≡ Some x → f x ≡ false) → list_any f xs ≡ false
none_any f [] h = refl
none_any f (x ∷ xs) h = let here : f x ≡ false = h 0 x refl in rw here (none_any f xs (λ i y e. h (suc i) y e))

module _ {A : Type 0} (clashes : A → A → Bool) (rows : List A) (swap : (x y : A) → clashes x y ≡ clashes y x)
    (self : (x : A) → clashes x x ≡ false) (none : first_clash clashes rows ≡ None) where
  before : (i j : ℕ) (x y : A) → i < j → slice_get rows i ≡ Some x → slice_get rows j ≡ Some y → clashes x y ≡ false
  before i j x y l at_i at_j =
      let within = slice_get_within rows j y at_j in
      let free : list_any (λ z. clashes z y) (take j rows) ≡ false =
      sym (clash-here clashes rows j y at_j) ∙ no_clash clashes rows none j within in
      any_taken (λ z. clashes z y) rows j i x free l at_i

  any_pair : (i j : ℕ) (x y : A) → slice_get rows i ≡ Some x → slice_get rows j ≡ Some y → clashes x y ≡ false
  any_pair i j x y at_i at_j = go (cases_lt i j)
    where
      same : j ≤ i → (i ≤ j) → clashes x y ≡ false
      same l m =
          let e : i ≡ j = omega (arith, l, m) in
          let f : slice_get rows j ≡ Some x = ap (slice_get rows) (sym e) ∙ at_i in
          let g : x ≡ y = cc in
          subst (λ z. clashes x z ≡ false) g (self x)

      go2 : j ≤ i → (j < i) ⊎ (i ≤ j) → clashes x y ≡ false
      go2 l (inl m) = swap x y ∙ before j i y x m at_j at_i
      go2 l (inr m) = same l m

      go : (i < j) ⊎ (j ≤ i) → clashes x y ≡ false
      go (inl l) = before i j x y l at_i at_j
      go (inr l) = go2 l (cases_lt j i)

  -- two of the rows do not clash
  pub apart : (x y : A) → IsOf x rows → IsOf y rows → clashes x y ≡ false
  apart x y of_x of_y =
      let row : (j : ℕ) (z : A) → slice_get rows j ≡ Some z → list_any (λ w. clashes w z) rows ≡ false =
      λ j z at_j. none_any (λ w. clashes w z) rows (λ i w at_i. any_pair i j w z at_i at_j) in
      let all : list_any (λ z. list_any (λ w. clashes w z) rows) rows ≡ false =
      none_any (λ z. list_any (λ w. clashes w z) rows) rows row in
      of_x (λ w. clashes w y) (of_y (λ z. list_any (λ w. clashes w z) rows) all)

-- ---- Groups

bytes_self : (xs : List ℕ) → bytes_eq xs xs ≡ true
bytes_self xs = (bytes_eq-Decides xs xs).1 refl

eqb_swap : (a b : ℕ) → (a == b) ≡ (b == a)
eqb_swap a b = go (a == b) (b == a) refl refl
  where
    go : (c d : Bool) → (a == b) ≡ c → (b == a) ≡ d → c ≡ d
    go true true e f = refl
    go false false e f = refl
    go true false e f = sym (eq-eqb b a (sym (eqb-true a b e))) ∙ f
    go false true e f = sym e ∙ eq-eqb a b (sym (eqb-true b a f))

clash_swap : (g h : Group) → groups_clash g h ≡ groups_clash h g
clash_swap g h =
    ap (λ b. (b && not (g.gid == h.gid)) || ((g.gid == h.gid) && not b)) (bytes_eq-swap g.name h.name)
    ∙ ap (λ b. (bytes_eq h.name g.name && not b) || (b && not (bytes_eq h.name g.name))) (eqb_swap g.gid h.gid)

clash_self : (g : Group) → groups_clash g g ≡ false
clash_self g =
    ap (λ b. (b && not (g.gid == g.gid)) || ((g.gid == g.gid) && not b)) (bytes_self g.name)
    ∙ ap (λ b. (true && not b) || (b && not true)) (eq-eqb g.gid g.gid refl)

or_else_none : {A : Type 0} (a b : Option A) → or_else a b ≡ None → (a ≡ None) × (b ≡ None)
or_else_none None b h = (refl, h)
or_else_none (Some x) b h = cc

mapped_none : {A B : Type 0} (f : A → B) (o : Option A) → option_map f o ≡ None → o ≡ None
mapped_none f None h = refl
mapped_none f (Some x) h = cc

faultless_groups : (people : List Person) (machines : List Machine) → directory_fault people machines ≡ None
    → first_clash groups_clash (groups_of people) ≡ None
unfolding directory_fault
faultless_groups people machines h =
    let later = or_else (ungrouped_fault people) (root_fault people) in
    let one = or_else_none (user_fault people) (or_else (host_fault machines) (or_else (group_fault people) later)) h in
    let two = or_else_none (host_fault machines) (or_else (group_fault people) later) one.1 in
    let three = or_else_none (group_fault people) later two.1 in
    mapped_none (λ (g : Group). GroupClash g.name) (first_clash groups_clash (groups_of people)) three.0

names_agree : (n i : Bool) → ((n && not i) || (i && not n)) ≡ false → i ≡ true → n ≡ true
names_agree true i h e = refl
names_agree false true h e = sym h
names_agree false false h e = e

pub one_group : (people : List Person) (machines : List Machine) → directory_fault people machines ≡ None
    → (g h : Group) → IsOf g (groups_of people) → IsOf h (groups_of people) → (h.gid == g.gid) ≡ true → h ≡ g
one_group people machines none g h of_g of_h same =
    let free : groups_clash h g ≡ false =
    apart groups_clash (groups_of people) clash_swap clash_self (faultless_groups people machines none) h g of_h of_g in
    let named : h.name ≡ g.name = bytes_eq-is h.name g.name (names_agree (bytes_eq h.name g.name) (h.gid == g.gid) free same) in
    let first = λ (n : List ℕ). let made : Group = record { name = n; gid = h.gid } in made in
    let second = λ (n : ℕ). let made : Group = record { name = g.name; gid = n } in made in
    ap first named ∙ ap second (eqb-true h.gid g.gid same)
