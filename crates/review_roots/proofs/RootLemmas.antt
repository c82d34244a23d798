-- Users that can become the target, and users that cannot.
use Rattle.std.proofs.Common.{◌≡◌, ◌<◌, ◌≤◌, ◌∙◌, ◌+◌, ℕ, Bool, true, false, not, ◌&&◌, ◌||◌, ◌==◌, List, [], ◌∷◌, ◌++◌, ap, refl, get_or}
use Rattle.std.proofs.Common.{length, map, sym, subst}
use Rattle.std.proofs.Common.{Option, Some, None, arith, inl, inr, ◌⊎◌, flat_map}
use Rattle.std.specs.Prelude.{All, is_some}
use Rattle.std.specs.List.{AllByRecursion, Contains, range_with_len}
use Rattle.std.proofs.lemmas.Bool.{and_parts, cases_lt, eqb-true, eq-eqb, ne_eqb}
use Rattle.std.proofs.lemmas.List.{map-append}
use Rattle.std.proofs.lemmas.List.Elements.{All-contains, All-map, All-push, All-weaker, Contains-append_left, Contains-get_or}
use Rattle.std.proofs.lemmas.List.Elements.{Contains-push, recursion_from_All}
use Rattle.std.proofs.lemmas.List.FromFn.{length-range_with_len, get_or-range_with_len}
use Rattle.review_roots.specs.declared.host.HostSteps.{HostSteps}
use Rattle.review_roots.specs.declared.level.Level.{Level}
use Rattle.review_roots.specs.declared.roots.Root.{Root}
use Rattle.review_roots.specs.declared.search.Found.{Found}
use Rattle.review_roots.specs.declared.state.State.{State}
use Rattle.review_roots.specs.Chains.{HasNoPath, Steps}
use Rattle.review_roots.specs.Body.Found.{AreFound, found_states}
use Rattle.review_roots.specs.States.{all_states, is_start, state_with, states_with}
use Rattle.review_roots.specs.Roots.{AreRoots, IsRoot, IsNoRoot, IsIncreasing, has_zero, is_itself}
use Rattle.review_roots.proofs.SearchLemmas.{from-map, to-map}

-- ---- The state with which a user begins

no-group : (o : Option ℕ) → not (is_some o) ≡ true → o ≡ None
no-group None e = refl
no-group (Some i) e = cc

pub start-is : (user : ℕ) (s : State) → is_start user s ≡ true → s ≡ state_with None user
start-is user s e =
    let both = and_parts (s.user == user) (not (is_some s.added)) e in
    ap (λ u. record { user = u; added = s.added }) (eqb-true s.user user both.0)
    ∙ ap (λ a. record { user = user; added = a }) (no-group s.added both.1)

pub starts : (user : ℕ) → is_start user (state_with None user) ≡ true
starts user = ap (λ b. b && true) (eq-eqb user user refl)

pub range-has : (n i : ℕ) → i < n → Contains (range_with_len 0 n) i
range-has n i l =
    let here : get_or (range_with_len 0 n) i i ≡ i = get_or-range_with_len 0 n i i l ∙ (let e : 0 + i ≡ i = omega arith in e) in
    subst (Contains (range_with_len 0 n)) here (Contains-get_or (range_with_len 0 n) i i (omega (arith, l, length-range_with_len 0 n)))

pub states-have : (users groups user : ℕ) → user < users → Contains (all_states users groups) (state_with None user)
states-have users groups user less =
    Contains-append_left (states_with users None) (flat_map (λ i. states_with users (Some i)) (range_with_len 0 groups))
    (state_with None user)
    (to-map (state_with None) (range_with_len 0 users) user (range-has users user less))

-- a user that is not found without an added group has no chain
pub not-found :
    (g : Steps State) (states : List State) (least : Level) (found : List Found) (user : ℕ) → AreFound g states least found →
    Contains states (state_with None user) →
    All (λ f. is_start user f.state ≡ false) found → HasNoPath g least (state_with None user)
not-found g states least found user are inside none = go (are.complete (state_with None user) inside)
  where
    go : Contains (found_states found) (state_with None user) ⊎ HasNoPath g least (state_with None user)
        → HasNoPath g least (state_with None user)
    go (inr away) = away
    go (inl in_found) =
        let f = from-map (λ (f : Found). f.state) found (state_with None user) in_found in
        let near : is_start user f.0.state ≡ true = ap (is_start user) f.2 ∙ starts user in
        let far : is_start user f.0.state ≡ false = All-contains (λ f. is_start user f.state ≡ false) found f.0 none f.1 in
        absurd (let bad : true ≡ false = sym near ∙ far in cc)

-- ---- The list of users

above-all : (xs : List ℕ) (n : ℕ) → IsIncreasing xs → AllByRecursion (λ x. x < n) xs → IsIncreasing (xs ++ n ∷ [])
above-all [] n inc less = (tt, tt)
above-all (x ∷ xs) n inc less = (behind xs inc.0, above-all xs n inc.1 less.1)
  where
    behind : (ys : List ℕ) → AllByRecursion (λ y. x < y) ys → AllByRecursion (λ y. x < y) (ys ++ n ∷ [])
    behind [] all = (less.0, tt)
    behind (y ∷ ys) all = (all.0, behind ys all.1)

abbrev pub users_of : List Root → List ℕ
users_of roots = map (λ r. r.user) roots

-- the users before n that can become the target are listed
pub record AreRootsBefore (h : HostSteps) (target : ℕ) (least : Level) (n : ℕ) (roots : List Root) : Type 0 where
  pub right : All (IsRoot h target least) roots
  pub known : All (λ r. r.user < length h.directory.now.people) roots
  pub below : All (λ r. r.user < n) roots
  pub ordered : IsIncreasing (users_of roots)
  pub complete : (user : ℕ) → user < n → Contains (users_of roots) user ⊎ IsNoRoot h target least user

pub roots-none : (h : HostSteps) (target : ℕ) (least : Level) → AreRootsBefore h target least 0 []
roots-none h target least = record {
  right = λ k d l. absurd (omega (arith, l));
  known = λ k d l. absurd (omega (arith, l));
  below = λ k d l. absurd (omega (arith, l));
  ordered = tt;
  complete = λ user l. absurd (omega (arith, l));
}

module _ (h : HostSteps) (target : ℕ) (least : Level) (n : ℕ) (roots : List Root) (before : AreRootsBefore h target least n roots) where
  pub roots-more : (r : Root) → n < length h.directory.now.people → r.user ≡ n → IsRoot h target least r
      → AreRootsBefore h target least (n + 1) (roots ++ r ∷ [])
  roots-more r less is root = record {
    right = All-push (IsRoot h target least) roots r before.right root;
    known = All-push (λ r. r.user < length h.directory.now.people) roots r before.known (omega (arith, less, is));
    below = All-push (λ r. r.user < n + 1) roots r
        (All-weaker (λ r. r.user < n) (λ r. r.user < n + 1) (λ r l. omega (arith, l)) roots before.below) (omega (arith, is));
    ordered =
        subst IsIncreasing (sym (map-append (λ (r : Root). r.user) roots (r ∷ [])))
        (above-all (users_of roots) r.user before.ordered
        (recursion_from_All (λ x. x < r.user) (users_of roots)
        (All-map (λ x. x < r.user) (λ (r : Root). r.user) roots
        (All-weaker (λ r. r.user < n) (λ s. s.user < r.user) (λ s l. omega (arith, l, is)) roots before.below))));
    complete = λ user l. subst (λ xs. Contains xs user ⊎ IsNoRoot h target least user)
        (sym (map-append (λ (r : Root). r.user) roots (r ∷ []))) (go user l (cases_lt user n));
  }
    where
      go : (user : ℕ) → user < n + 1 → (user < n) ⊎ (n ≤ user) → Contains (users_of roots ++ r.user ∷ []) user
          ⊎ IsNoRoot h target least user
      go user l (inl old) = widen (before.complete user old)
        where
          widen : Contains (users_of roots) user ⊎ IsNoRoot h target least user → Contains (users_of roots ++ r.user ∷ []) user
              ⊎ IsNoRoot h target least user
          widen (inl c) = inl (Contains-append_left (users_of roots) (r.user ∷ []) user c)
          widen (inr away) = inr away
      go user l (inr new) =
          let same : r.user ≡ user = omega (arith, l, new, is) in
          inl (subst (Contains (users_of roots ++ r.user ∷ [])) same (Contains-push (users_of roots) r.user))

  pub roots-same : IsNoRoot h target least n → AreRootsBefore h target least (n + 1) roots
  roots-same none = record {
    right = before.right;
    known = before.known;
    below = All-weaker (λ r. r.user < n) (λ r. r.user < n + 1) (λ r l. omega (arith, l)) roots before.below;
    ordered = before.ordered;
    complete = λ user l. go user l (cases_lt user n);
  }
    where
      go : (user : ℕ) → user < n + 1 → (user < n) ⊎ (n ≤ user) → Contains (users_of roots) user ⊎ IsNoRoot h target least user
      go user l (inl old) = before.complete user old
      go user l (inr new) = let same : n ≡ user = omega (arith, l, new) in inr (subst (IsNoRoot h target least) same none)

  pub roots-all : length h.directory.now.people ≤ n → AreRoots h target least roots
  roots-all all = record {
    right = before.right;
    known = before.known;
    ordered = before.ordered;
    complete = λ user l. before.complete user (omega (arith, l, all));
  }

pub not-itself : (h : HostSteps) (target user : ℕ) (b : Bool) → (user ≡ target → ⊥) → b ≡ has_zero h user → b ≡ false
    → is_itself h target user ≡ false
not-itself h target user b other is falsely = ap (λ a. a || has_zero h user) (ne_eqb user target other) ∙ sym is ∙ falsely
