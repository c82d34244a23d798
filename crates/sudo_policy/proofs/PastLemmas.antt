-- Laws of paths along unmarked aliases, and of the search along them.
use Rattle.std.proofs.Common.{◌≡◌, ℕ, ◌<◌, Bool, true, false, List, [], ◌∷◌, ◌++◌, length, Option, Some, refl, sym}
use Rattle.std.proofs.Common.{◌∙◌, ap, subst, arith, inl, inr, ◌⊎◌}
use Rattle.std.specs.Prelude.{slice_get, Contains}
use Rattle.std.proofs.lemmas.List.Elements.{Contains-append_left, Contains-push, Contains-push_cases}
use Rattle.sudo_policy.specs.Body.Graph.{Links, Edge, Path, step, more, IsReached, IsInside, IsClosed, MarksOf}
use Rattle.sudo_policy.specs.Body.Marking.{IsMarked, IsUnmarked, MarksRow, AreSet, PathPast, last, next, ReachedPast}
use Rattle.sudo_policy.proofs.StateLemmas.{get_within, within_get}
use Rattle.sudo_policy.proofs.MarkingLemmas.{none_in, row_of, unmarked_before}

-- ---- Paths

-- a path past the marked, and an edge after it
PathPast-edge : (g : Links) (marks : List Bool) (i j k : ℕ) → PathPast g marks i j → Edge g j k → IsUnmarked marks k → PathPast g marks i k
PathPast-edge g marks i j k (last e free) f there = next e free (last f there)
PathPast-edge g marks i j k (next e free path) f there = next e free (PathPast-edge g marks _ j k path f there)

pub PathPast-path : (g : Links) (marks : List Bool) (i j : ℕ) → PathPast g marks i j → Path g i j
PathPast-path g marks i j (last e free) = step e
PathPast-path g marks i j (next e free path) = more e (PathPast-path g marks _ j path)

pub PathPast-end : (g : Links) (marks : List Bool) (i j : ℕ) → PathPast g marks i j → IsUnmarked marks j
PathPast-end g marks i j (last e free) = free
PathPast-end g marks i j (next e free path) = PathPast-end g marks _ j path

-- a path none of whose aliases is marked, the first one aside
pub path_past : (g : Links) (marks : List Bool) (i j : ℕ) → Path g i j → ((k : ℕ) → Path g i k → (k ≡ j) ⊎ Path g k j
    → IsUnmarked marks k) → PathPast g marks i j
path_past g marks i j (step e) free = last e (free j (step e) (inl refl))
path_past g marks i j (more e path) free =
    next e (free _ (step e) (inr path)) (path_past g marks _ j path (λ k from on. free k (more e from) on))

-- ---- What is reached

ReachedPast-edge : (g : Links) (roots : List (Option ℕ)) (marks : List Bool) (i j : ℕ) → ReachedPast g roots marks i
    → Edge g i j → IsUnmarked marks j → ReachedPast g roots marks j
ReachedPast-edge g roots marks i j r e there = record {
  root = r.root;
  among = r.among;
  free = r.free;
  way = elim r.way [
    | inl same ↦ inr (last (subst (λ (k : ℕ). Edge g k j) (sym same) e) there)
    | inr path ↦ inr (PathPast-edge g marks r.root i j path e there)
  ];
}

-- what an alias's row leads to is what the alias leads to
pub row-path : (g : Links) (marks : List Bool) (node : ℕ) (row : List (Option ℕ)) → slice_get g node ≡ Some row
    → (i : ℕ) → ReachedPast g row marks i → PathPast g marks node i
row-path g marks node row at i r =
    let e : Edge g node r.root = record { row = row; row_is = at; has = r.among } in
    elim r.way [
      | inl same ↦ subst (PathPast g marks node) same (last e r.free)
      | inr path ↦ next e r.free path
    ]

pub path_row : (g : Links) (marks : List Bool) (node : ℕ) (row : List (Option ℕ)) → slice_get g node ≡ Some row
    → (i : ℕ) → PathPast g marks node i → ReachedPast g row marks i
path_row g marks node row at i (last e free) = record { root = i; among = row_of g node i row at e; free = free; way = inl refl }
path_row g marks node row at i (next e free path) = record { root = _; among = row_of g node _ row at e; free = free; way = inr path }

-- ---- The search

-- found is what the roots lead to past the old marks, as far as it is known; what a found alias leads to is marked
pub record Spreads (g : Links) (roots : List (Option ℕ)) (old : List Bool) (found : List ℕ) (marks : List Bool)
    (waiting : List ℕ) : Type 0 where
  pub same_length : length marks ≡ length old
  pub sound : (i : ℕ) → Contains found i ⊎ Contains waiting i → ReachedPast g roots old i
  pub kept : (i : ℕ) → IsMarked old i → IsMarked marks i
  pub noted : (i : ℕ) → Contains found i ⊎ Contains waiting i → IsMarked marks i
  pub only : (i : ℕ) → IsMarked marks i → IsMarked old i ⊎ (Contains found i ⊎ Contains waiting i)
  pub begun : (i : ℕ) → Contains roots (Some i) → IsMarked marks i
  pub spread : (i j : ℕ) → Contains found i → Edge g i j → IsMarked marks j

-- the roots are marked
pub Spreads-begin : (g : Links) (roots : List (Option ℕ)) (old marks : List Bool) (work : List ℕ)
    → MarksRow roots old [] marks work → Spreads g roots old [] marks work
Spreads-begin g roots old marks work m = record {
  same_length = m.same_length;
  sound = λ i h. (let here = waiting i h in record { root = i; among = here.1; free = here.0; way = inl refl });
  kept = m.kept;
  noted = λ i h. (let here = waiting i h in m.all i here.1);
  only = λ i h. elim (m.noted i h) [ inl was ↦ inl was | inr waits ↦ inr (inr waits) ];
  begun = m.all;
  spread = λ i j h e. absurd (none_in i h);
}
  where
    waiting : (i : ℕ) → Contains [] i ⊎ Contains work i → IsUnmarked old i × Contains roots (Some i)
    waiting i h = elim h [
      | inl none ↦ absurd (none_in i none)
      | inr waits ↦ (elim (m.waits i waits) [ inl none ↦ absurd (none_in i none) | inr here ↦ here ])
    ]

-- one alias that waited is found
pub Spreads-next : (g : Links) (roots row : List (Option ℕ)) (alias : ℕ) (old : List Bool) (found : List ℕ)
    (a b : List Bool) (all u w : List ℕ) → all ≡ u ++ alias ∷ [] → slice_get g alias ≡ Some row
    → Spreads g roots old found a all → MarksRow row a u b w → Spreads g roots old (found ++ alias ∷ []) b w
Spreads-next g roots row alias old found a b all u w split at s m = record {
  same_length = m.same_length ∙ s.same_length;
  sound = λ i h. elim (parts i h) [
    | inl before ↦ s.sound i before
    | inr fresh ↦ ReachedPast-edge g roots old alias i (s.sound alias (inr waited))
        (record { row = row; row_is = at; has = fresh.1 }) (unmarked_before old a i s.same_length s.kept fresh.0)
  ];
  kept = λ i h. m.kept i (s.kept i h);
  noted = λ i h. elim (parts i h) [ inl before ↦ m.kept i (s.noted i before) | inr fresh ↦ m.all i fresh.1 ];
  only = λ i h. elim (m.noted i h) [
    | inl was ↦ (elim (s.only i was) [
      | inl older ↦ inl older
      | inr known ↦ (elim known [
        | inl one ↦ inr (inl (Contains-append_left found (alias ∷ []) i one))
        | inr waits ↦ (elim (Contains-push_cases u alias i (subst (λ (x : List ℕ). Contains x i) split waits)) [
          | inl still ↦ inr (inr (m.still i still))
          | inr same ↦ inr (inl (subst (Contains (found ++ alias ∷ [])) same (Contains-push found alias)))
        ])
      ])
    ])
    | inr waits ↦ inr (inr waits)
  ];
  begun = λ i h. m.kept i (s.begun i h);
  spread = λ i j h e. elim (Contains-push_cases found alias i h) [
    | inl before ↦ m.kept j (s.spread i j before e)
    | inr same ↦ m.all j (row_of g alias j row at (subst (λ (k : ℕ). Edge g k j) (sym same) e))
  ];
}
  where
    waited : Contains all alias
    waited = subst (λ (x : List ℕ). Contains x alias) (sym split) (Contains-push u alias)

    parts : (i : ℕ) → Contains (found ++ alias ∷ []) i ⊎ Contains w i → (Contains found i ⊎ Contains all i)
        ⊎ (IsUnmarked a i × Contains row (Some i))
    parts i h = elim h [
      | inl here ↦ (elim (Contains-push_cases found alias i here) [
        | inl before ↦ inl (inl before)
        | inr same ↦ inl (inr (subst (Contains all) same waited))
      ])
      | inr waits ↦ (elim (m.waits i waits) [
        | inl still ↦ inl (inr (subst (λ (x : List ℕ). Contains x i) (sym split) (Contains-append_left u (alias ∷ []) i still)))
        | inr fresh ↦ inr fresh
      ])
    ]

-- nothing waits: all that is reached is found
pub Spreads-found : (g : Links) (roots : List (Option ℕ)) (old : List Bool) (found : List ℕ) (marks : List Bool)
    (work : List ℕ) → ((i : ℕ) → Contains work i → ⊥) → Spreads g roots old found marks work → (i : ℕ)
    → ReachedPast g roots old i → Contains found i
Spreads-found g roots old found marks work none s i r = elim r.way [
  | inl same ↦ subst (Contains found) same root
  | inr path ↦ along r.root i root path
]
  where
    new : (j : ℕ) → IsUnmarked old j → IsMarked marks j → Contains found j
    new j free h = elim (s.only j h) [
      | inl was ↦ (let both : Some false ≡ Some true = sym free ∙ was in cc)
      | inr known ↦ (elim known [ inl here ↦ here | inr waits ↦ absurd (none j waits) ])
    ]

    root : Contains found r.root
    root = new r.root r.free (s.begun r.root r.among)

    along : (j k : ℕ) → Contains found j → PathPast g old j k → Contains found k
    along j k here (last e free) = new k free (s.spread j k here e)
    along j k here (next e free path) = along _ k (new _ free (s.spread j _ here e)) path

pub Spreads-set : (g : Links) (roots : List (Option ℕ)) (old : List Bool) (found : List ℕ) (marks : List Bool)
    (work : List ℕ) → ((i : ℕ) → Contains work i → ⊥) → Spreads g roots old found marks work → AreSet true found old marks
Spreads-set g roots old found marks work none s = record {
  same_length = s.same_length;
  those = λ i h. s.noted i (inl h);
  only = only;
}
  where
    only : (i : ℕ) (m : Bool) → slice_get marks i ≡ Some m → (slice_get old i ≡ Some m) ⊎ (Contains found i × (m ≡ true))
    only i true at = elim (s.only i at) [
      | inl was ↦ inl was
      | inr known ↦ (elim known [ inl here ↦ inr (here, refl) | inr waits ↦ absurd (none i waits) ])
    ]
    only i false at = inl (unmarked_before old marks i s.same_length s.kept at)

-- where an alias that waits is
pub waiting_inside : (g : Links) (roots : List (Option ℕ)) (old : List Bool) (found : List ℕ) (marks : List Bool)
    (all rest : List ℕ) (alias : ℕ) → Spreads g roots old found marks all → all ≡ rest ++ alias ∷ []
    → length old ≡ length g → alias < length g
waiting_inside g roots old found marks all rest alias s split sizes =
    let here = s.noted alias (inr (subst (λ (x : List ℕ). Contains x alias) (sym split) (Contains-push rest alias))) in
    let less = within_get marks alias true here in
    let long = s.same_length in
    omega (arith, less, long, sizes)

-- ---- The search without marks

path_inside : (g : Links) (i j : ℕ) → IsClosed g → Path g i j → j < length g
path_inside g i j closed (step e) = closed i j e
path_inside g i j closed (more e path) = path_inside g _ j closed path

-- where nothing is marked, what is found is what the roots lead to
pub MarksOf-spread : (g : Links) (roots : List (Option ℕ)) (blank : List Bool) (found : List ℕ) (marks : List Bool)
    → IsClosed g → IsInside roots (length g) → length blank ≡ length g
    → ((i : ℕ) (m : Bool) → slice_get blank i ≡ Some m → m ≡ false)
    → ((i : ℕ) → (Contains found i → ReachedPast g roots blank i) × (ReachedPast g roots blank i → Contains found i))
    → AreSet true found blank marks → MarksOf (length g) (IsReached g roots) marks
MarksOf-spread g roots blank found marks closed inside long none found_is s = record {
  same_length = s.same_length ∙ long;
  exact = λ i mark at. (
    (λ h. elim (s.only i true (at ∙ ap Some h)) [
      | inl was ↦ (let e : true ≡ false = none i true was in cc)
      | inr here ↦ reached i ((found_is i).0 here.0)
    ]),
    (λ r. (let marked : IsMarked marks i = s.those i ((found_is i).1 (past i r)) in let e : Some mark ≡ Some true = sym at ∙ marked in cc)),
  );
}
  where
    reached : (i : ℕ) → ReachedPast g roots blank i → IsReached g roots i
    reached i r = record {
      root = r.root;
      among = r.among;
      way = elim r.way [ inl same ↦ inl same | inr path ↦ inr (PathPast-path g blank r.root i path) ];
    }

    free : (i : ℕ) → i < length g → IsUnmarked blank i
    free i less = let m = get_within blank i (omega (arith, less, long)) in m.1 ∙ ap Some (none i m.0 m.1)

    past : (i : ℕ) → IsReached g roots i → ReachedPast g roots blank i
    past i r = record {
      root = r.root;
      among = r.among;
      free = free r.root (inside r.root r.among);
      way = elim r.way [
        | inl same ↦ inl same
        | inr path ↦ inr (path_past g blank r.root i path (λ k from on. free k (path_inside g r.root k closed from)))
      ];
    }
