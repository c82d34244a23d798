-- The states that are kept stand for all: a chain from a state is one, through kept states, from each kept state that is alike.
use Rattle.std.proofs.Common.{◌≡◌, ◌<◌, ◌≤◌, ◌+◌, ◌∙◌, ℕ, zero, suc, Bool, true, false, cond, not, List, [], ◌∷◌, ◌++◌, ap}
use Rattle.std.proofs.Common.{append_assoc, arith, flat_map, length, refl, subst, sym, Option, Some, None, inl, inr, ◌⊎◌, option_copied}
use Rattle.std.specs.Prelude.{find, filter, slice_get}
use Rattle.std.specs.List.{Contains, range_with_len}
use Rattle.std.specs.declared.cmp.Ordering.{Ordering}
use Rattle.std.specs.declared.cmp.Ordering.TheVariants.{Less, Equal, Greater}
use Rattle.std.specs.Ordering.{MatchOrdering, is_gt, nat_cmp}
use Rattle.std.proofs.lemmas.Bool.{cases_lt, not-true}
use Rattle.std.proofs.lemmas.Cmp.{ranked}
use Rattle.std.proofs.lemmas.List.{map-append}
use Rattle.std.proofs.lemmas.List.Elements.{Contains-append_left, Contains-append_right}
use Rattle.std.proofs.lemmas.List.Elements.{All-contains}
use Rattle.sudo_grammar.specs.declared.policy.Policy.{Policy}
use Rattle.sudo_match.specs.declared.people.Group.{Group}
use Rattle.sudo_match.specs.declared.people.Person.{Person}
use Rattle.sudo_match.specs.KnownRows.{KnownRows}
use Rattle.sudo_verdict.specs.RunasForms.{has_group}
use Rattle.review_roots.specs.declared.block.Block.{Block}
use Rattle.review_roots.specs.declared.cut.Cut.{Cut}
use Rattle.review_roots.specs.declared.host.HostSteps.{HostSteps}
use Rattle.review_roots.specs.declared.state.State.{State}
use Rattle.review_roots.specs.declared.unnamed.SplitGroups.{SplitGroups}
use Rattle.review_roots.specs.Body.Candidates.{has_state}
use Rattle.review_roots.specs.Body.Deciding.{deciding_for, is_called}
use Rattle.review_roots.specs.Body.Kept.{AreAlike, AreKept, AreUnnamed, IsAlike, has_at, has_if, if_any, kept_at, kept_by, kept_groups}
use Rattle.review_roots.specs.Body.Kept.{ids_by, kept_if, kept_states, named_for, states_by, unnamed_for}
use Rattle.review_roots.specs.Body.Unnamed.{is_unnamed, named_indices, unnamed_at, unnamed_if, unnamed_indices}
use Rattle.review_roots.specs.Order.{state_cmp}
use Rattle.review_roots.specs.States.{all_states, state_with, states_with}
use Rattle.review_roots.proofs.CandidateLemmas.{has-in, in-has}
use Rattle.review_roots.proofs.CutLemmas.{cut-unnamed}
use Rattle.review_grants.proofs.ListSteps.{flat-range}
use Rattle.review_roots.proofs.MemberLemmas.{all-of, find-none, find-there, from-append, from-flat, in-range, to-flat}
use Rattle.review_grants.proofs.ItemLemmas.{from-filter}
use Rattle.review_roots.proofs.OrderLemmas.{behind-itself, one-user}
use Rattle.review_roots.proofs.RootLemmas.{range-has}
use Rattle.review_roots.proofs.SearchLemmas.{contains-at, contains-head, from-map, in-filter, to-map}

-- ---- States by their user and their added group

-- the user of a state is known, and its added group, if any
pub state-parts : (n m : ℕ) (s : State) → Contains (all_states n m) s
    → (s.user < n) × ((s.added ≡ None) ⊎ ((i : ℕ) × ((i < m) × (s.added ≡ Some i))))
state-parts n m s inside =
    go (from-append (states_with n None) (flat_map (λ i. states_with n (Some i)) (range_with_len 0 m)) s inside)
  where
    go : Contains (states_with n None) s ⊎ Contains (flat_map (λ i. states_with n (Some i)) (range_with_len 0 m)) s
        → (s.user < n) × ((s.added ≡ None) ⊎ ((i : ℕ) × ((i < m) × (s.added ≡ Some i))))
    go (inl alone) =
        let k = from-map (state_with None) (range_with_len 0 n) s alone in
        let less = in-range n k.0 k.1 in
        let same : k.0 ≡ s.user = ap (λ (t : State). t.user) k.2 in
        (omega (arith, less, same), inl (sym (ap (λ (t : State). t.added) k.2)))
    go (inr added) =
        let i = from-flat (λ i. states_with n (Some i)) (range_with_len 0 m) s added in
        let k = from-map (state_with (Some i.0)) (range_with_len 0 n) s i.1.1 in
        let less = in-range n k.0 k.1 in
        let same : k.0 ≡ s.user = ap (λ (t : State). t.user) k.2 in
        (omega (arith, less, same), inr (i.0, (in-range m i.0 i.1.0, sym (ap (λ (t : State). t.added) k.2))))

pub added-inside : (n m user i : ℕ) → user < n → i < m → Contains (all_states n m) (state_with (Some i) user)
added-inside n m user i less within =
    Contains-append_right (states_with n None) (flat_map (λ i. states_with n (Some i)) (range_with_len 0 m)) (state_with (Some i) user)
    (to-flat (λ i. states_with n (Some i)) (range_with_len 0 m) i (state_with (Some i) user) (range-has m i within)
    (to-map (state_with (Some i)) (range_with_len 0 n) user (range-has n user less)))

pub state-is : (s : State) (added : Option ℕ) → s.added ≡ added → s ≡ state_with added s.user
state-is s added e = ap (λ a. state_with a s.user) e

pub there : {X : Type 0} (xs : List X) (k : ℕ) → k < length xs → (x : X) × (slice_get xs k ≡ Some x)
there [] k l = absurd (omega (arith, l))
there (x ∷ xs) zero l = (x, refl)
there (x ∷ xs) (suc k) l = there xs k (omega (arith, l))

of-if : (o : Option ℕ) (i : ℕ) → o ≡ Some i → Contains (if_any o) i
of-if o i e = subst (λ o. Contains (if_any o) i) (sym e) (contains-head i [] i refl)

-- ---- The first of a kind

not-more : (a b : ℕ) → a ≤ b → is_gt (nat_cmp a b) ≡ false
not-more a b less = go (nat_cmp a b) refl (ranked a b (nat_cmp a b) refl)
  where
    go : (o : Ordering) → nat_cmp a b ≡ o → MatchOrdering o (a < b) (a ≡ b) (b < a) → is_gt (nat_cmp a b) ≡ false
    go Less is stands = ap is_gt is
    go Equal is stands = ap is_gt is
    go Greater is stands = absurd (omega (arith, stands, less))

-- what is found among the numbers that pass a test is the least of those that pass another one too
find-least :
    (t s : ℕ → Bool) (a n i j : ℕ) → find t (filter s (range_with_len a n)) ≡ Some j → a ≤ i → i < a + n → s i ≡ true → t i ≡ true → j ≤ i
find-least t s a zero i j e low high keeps passes = absurd (omega (arith, low, high))
find-least t s a (suc n) i j e low high keeps passes = go (s a) refl (find-least t s (a + 1) n i j) e
  where
    rest : List ℕ
    rest = filter s (range_with_len (a + 1) n)

    Later : Type 0
    Later = find t rest ≡ Some j → a + 1 ≤ i → i < (a + 1) + n → s i ≡ true → t i ≡ true → j ≤ i

    behind : Later → (i ≡ a → ⊥) → find t rest ≡ Some j → j ≤ i
    behind later apart e = by (cases_lt a i)
      where
        by : (a < i) ⊎ (i ≤ a) → j ≤ i
        by (inl less) = later e (omega (arith, less)) (omega (arith, high)) keeps passes
        by (inr most) = absurd (apart (omega (arith, low, most)))

    first : (c : Bool) → t a ≡ c → Later → cond c (Some a) (find t rest) ≡ Some j → j ≤ i
    first true is later e = let same : a ≡ j = cc in omega (arith, same, low)
    first false is later e =
        behind later (λ same. absurd (let bad : true ≡ false = sym (ap t (sym same) ∙ passes) ∙ is in cc)) e

    go : (b : Bool) → s a ≡ b → Later → find t (cond b (a ∷ rest) rest) ≡ Some j → j ≤ i
    go true is later e = first (t a) refl later e
    go false is later e =
        behind later (λ same. absurd (let bad : true ≡ false = sym (ap s (sym same) ∙ keeps) ∙ is in cc)) e

-- ---- Each state is alike to one that is kept

module _ (d : KnownRows) (groups : List Group) (ids : Person → List ℕ) where
  abbrev n : ℕ
  n = length d.people

  abbrev m : ℕ
  m = length groups

  abbrev named : Person → List ℕ
  named u = named_indices (ids u) groups m

  abbrev others : Person → List ℕ
  others u = unnamed_indices (ids u) groups m

  abbrev kept : List State
  kept = kept_by d groups named others

  alone-kept : (user : ℕ) → user < n → Contains kept (state_with None user)
  alone-kept user less =
      Contains-append_left (states_with n None) (flat_map (kept_at d groups named others) (range_with_len 0 n)) (state_with None user)
      (to-map (state_with None) (range_with_len 0 n) user (range-has n user less))

  added-kept : (user i : ℕ) (u : Person) → user < n → slice_get d.people user ≡ Some u
      → Contains (kept_groups u groups (named u) (others u)) i → Contains kept (state_with (Some i) user)
  added-kept user i u less is inside =
      Contains-append_right (states_with n None) (flat_map (kept_at d groups named others) (range_with_len 0 n)) (state_with (Some i) user)
      (to-flat (kept_at d groups named others) (range_with_len 0 n) user (state_with (Some i) user) (range-has n user less)
      (subst (λ o. Contains (kept_if groups named others user o) (state_with (Some i) user)) (sym is)
      (to-map (λ i. state_with (Some i) user) (kept_groups u groups (named u) (others u)) i inside)))

  -- an unnamed group of a user has one that is kept, and that the user has, or lacks, too
  module _ (user i : ℕ) (u : Person) (g : Group) (less : user < n) (is : slice_get d.people user ≡ Some u) (within : i < m)
      (at : slice_get groups i ≡ Some g) (none : is_unnamed (ids u) g ≡ true) where
    unnamed-there : (j : ℕ) → Contains (others u) j → (h : Group) × ((slice_get groups j ≡ Some h) × (is_unnamed (ids u) h ≡ true))
    unnamed-there j inside =
        let k = from-filter (unnamed_at (ids u) groups) (range_with_len 0 m) j inside in
        let h = there groups j (in-range m j k.0) in
        (h.0, (h.1, sym (ap (unnamed_if (ids u)) h.1) ∙ k.1))

    itself : Contains (others u) i
    itself = in-filter (unnamed_at (ids u) groups) (range_with_len 0 m) i (range-has m i within) (ap (unnamed_if (ids u)) at ∙ none)

    stands : (j : ℕ) → Contains (others u) j → has_at u groups j ≡ has_group u g → AreAlike d groups ids (state_with (Some i) user)
        (state_with (Some j) user)
    stands j inside same =
        let h = unnamed-there j inside in (
          refl,
          λ v is_v.
              let one : u ≡ v = let e : Some u ≡ Some v = sym is ∙ is_v in cc in
              subst (λ w. IsAlike (ids w) w (slice_get groups i) (slice_get groups j)) one
              (inr (record {
                one = g;
                other = h.0;
                is_one = at;
                is_other = h.1.0;
                one_unnamed = none;
                other_unnamed = h.1.1;
                has = sym same ∙ ap (has_if u) h.1.0;
              })),
        )

    abbrev Stand : Type 0
    Stand = (t : State) × (Contains kept t × (AreAlike d groups ids (state_with (Some i) user) t
        × (is_gt (state_cmp d t (state_with (Some i) user)) ≡ false)))

    -- the first of these groups does not stand behind the group
    no-later : (t : ℕ → Bool) (j : ℕ) → find t (others u) ≡ Some j → t i ≡ true
        → is_gt (state_cmp d (state_with (Some j) user) (state_with (Some i) user)) ≡ false
    no-later t j e passes =
        one-user d (state_with (Some j) user) (state_with (Some i) user) refl
        (not-more j i
        (find-least t (unnamed_at (ids u) groups) 0 m i j e (omega arith) (omega (arith, within))
        (ap (unnamed_if (ids u)) at ∙ none) passes))

    had : has_group u g ≡ true → Stand
    had has = go (find (has_at u groups) (others u)) refl
      where
        go : (o : Option ℕ) → find (has_at u groups) (others u) ≡ o → Stand
        go None e =
            let lacks = find-none (has_at u groups) (others u) i e itself in
            absurd (let bad : true ≡ false = sym (ap (has_if u) at ∙ has) ∙ lacks in cc)
        go (Some j) e =
            let k = find-there (has_at u groups) (others u) j e in (
              state_with (Some j) user,
              (
                added-kept user j u less is
                    (Contains-append_right (named u)
                    (if_any (find (has_at u groups) (others u)) ++ if_any (find (λ i. not (has_at u groups i)) (others u))) j
                    (Contains-append_left (if_any (find (has_at u groups) (others u)))
                    (if_any (find (λ i. not (has_at u groups i)) (others u))) j (of-if (find (has_at u groups) (others u)) j e))),
                (stands j k.0 (k.1 ∙ sym has), no-later (has_at u groups) j e (ap (has_if u) at ∙ has)),
              ),
            )

    lacked : has_group u g ≡ false → Stand
    lacked has = go (find (λ i. not (has_at u groups i)) (others u)) refl
      where
        go : (o : Option ℕ) → find (λ i. not (has_at u groups i)) (others u) ≡ o → Stand
        go None e =
            let passes = find-none (λ i. not (has_at u groups i)) (others u) i e itself in
            absurd (let bad : true ≡ false = sym (ap not (ap (has_if u) at ∙ has)) ∙ passes in cc)
        go (Some j) e =
            let k = find-there (λ i. not (has_at u groups i)) (others u) j e in (
              state_with (Some j) user,
              (
                added-kept user j u less is
                    (Contains-append_right (named u)
                    (if_any (find (has_at u groups) (others u)) ++ if_any (find (λ i. not (has_at u groups i)) (others u))) j
                    (Contains-append_right (if_any (find (has_at u groups) (others u)))
                    (if_any (find (λ i. not (has_at u groups i)) (others u))) j
                    (of-if (find (λ i. not (has_at u groups i)) (others u)) j e))),
                (
                  stands j k.0 (not-true (has_at u groups j) k.1 ∙ sym has),
                  no-later (λ i. not (has_at u groups i)) j e (ap not (ap (has_if u) at ∙ has)),
                ),
              ),
            )

    unnamed-kept : Stand
    unnamed-kept = go (has_group u g) refl
      where
        go : (b : Bool) → has_group u g ≡ b → Stand
        go true e = had e
        go false e = lacked e

  alike-itself : (s : State) → AreAlike d groups ids s s
  alike-itself s = (refl, λ u is. inl refl)

  named-kept : (user i : ℕ) (u : Person) (g : Group) → user < n → slice_get d.people user ≡ Some u → i < m → slice_get groups i ≡ Some g
      → is_unnamed (ids u) g ≡ false → Contains kept (state_with (Some i) user)
  named-kept user i u g less is within at some =
      added-kept user i u less is
      (Contains-append_left (named u)
      (if_any (find (has_at u groups) (others u)) ++ if_any (find (λ i. not (has_at u groups i)) (others u))) i
      (in-filter (λ i. not (unnamed_at (ids u) groups i)) (range_with_len 0 m) i (range-has m i within)
      (ap not (ap (unnamed_if (ids u)) at ∙ some))))

  abbrev Covers : State → State → Type 0
  Covers s t = Contains kept t × (AreAlike d groups ids s t × (is_gt (state_cmp d t s) ≡ false))

  covers-all : (s : State) → Contains (all_states n m) s → (t : State) × Covers s t
  covers-all s inside = let parts = state-parts n m s inside in go parts.0 parts.1
    where
      go : s.user < n → (s.added ≡ None) ⊎ ((i : ℕ) × ((i < m) × (s.added ≡ Some i)))
          → (t : State) × Covers s t
      go less (inl alone) =
          (s, (subst (Contains kept) (sym (state-is s None alone)) (alone-kept s.user less), (alike-itself s, behind-itself d s)))
      go less (inr added) =
          let i = added.0 in
          let u = there d.people s.user less in
          let g = there groups i added.1.0 in
          at i u.0 g.0 u.1 added.1.0 g.1 (state-is s (Some i) added.1.1) (is_unnamed (ids u.0) g.0) refl
        where
          at : (i : ℕ) (u : Person) (g : Group) → slice_get d.people s.user ≡ Some u → i < m → slice_get groups i ≡ Some g
              → s ≡ state_with (Some i) s.user → (b : Bool) → is_unnamed (ids u) g ≡ b → (t : State) × Covers s t
          at i u g is within at_i same true none =
              let t = unnamed-kept s.user i u g less is within at_i none in
              (t.0, subst (λ s. Covers s t.0) (sym same) t.1)
          at i u g is within at_i same false some = (
            s,
            (
              subst (Contains kept) (sym same) (named-kept s.user i u g less is within at_i some),
              (alike-itself s, behind-itself d s),
            ),
          )

  -- ---- What is kept is among all

  listed-inside : (u : Person) (i : ℕ) → Contains (kept_groups u groups (named u) (others u)) i → i < m
  listed-inside u i inside = go (from-append (named u) rest i inside)
    where
      first : Option ℕ
      first = find (has_at u groups) (others u)

      second : Option ℕ
      second = find (λ i. not (has_at u groups i)) (others u)

      rest : List ℕ
      rest = if_any first ++ if_any second

      only : (o : Option ℕ) → Contains (if_any o) i → o ≡ Some i
      only None h = absurd (omega (arith, h.1))
      only (Some k) h = let e = contains-at (k ∷ []) i h in at e.0 e.1
        where
          at : (j : ℕ) → slice_get (k ∷ []) j ≡ Some i → Some k ≡ Some i
          at zero e = e
          at (suc j) e = cc

      other : Contains (others u) i → i < m
      other h = in-range m i (from-filter (unnamed_at (ids u) groups) (range_with_len 0 m) i h).0

      behind : Contains (if_any first) i ⊎ Contains (if_any second) i → i < m
      behind (inl h) = other (find-there (has_at u groups) (others u) i (only first h)).0
      behind (inr h) = other (find-there (λ i. not (has_at u groups i)) (others u) i (only second h)).0

      go : Contains (named u) i ⊎ Contains rest i → i < m
      go (inl h) = in-range m i (from-filter (λ i. not (unnamed_at (ids u) groups i)) (range_with_len 0 m) i h).0
      go (inr h) = behind (from-append (if_any first) (if_any second) i h)

  kept-inside : (s : State) → Contains kept s → Contains (all_states n m) s
  kept-inside s inside = go (from-append (states_with n None) (flat_map (kept_at d groups named others) (range_with_len 0 n)) s inside)
    where
      added : (user : ℕ) → user < n → (o : Option Person) → Contains (kept_if groups named others user o) s → Contains (all_states n m) s
      added user less None h = absurd (omega (arith, h.1))
      added user less (Some u) h =
          let i = from-map (λ i. state_with (Some i) user) (kept_groups u groups (named u) (others u)) s h in
          subst (Contains (all_states n m)) i.2 (added-inside n m user i.0 less (listed-inside u i.0 i.1))

      go : Contains (states_with n None) s ⊎ Contains (flat_map (kept_at d groups named others) (range_with_len 0 n)) s
          → Contains (all_states n m) s
      go (inl alone) =
          Contains-append_left (states_with n None) (flat_map (λ i. states_with n (Some i)) (range_with_len 0 m)) s alone
      go (inr h) =
          let user = from-flat (kept_at d groups named others) (range_with_len 0 n) s h in
          added user.0 (in-range n user.0 user.1.0) (slice_get d.people user.0) user.1.1

  pub are-kept : (p : Policy) (bs : Person → List Block) → AreUnnamed p bs groups ids → AreKept p bs d groups kept
  are-kept p bs unnamed = record {
    ids = ids;
    unnamed = unnamed;
    inside = all-of (Contains (all_states n m)) kept kept-inside;
    covers = covers-all;
    starts = alone-kept;
  }

-- states that are the same ones, in any order
moved-kept :
    (p : Policy) (bs : Person → List Block) (d : KnownRows) (groups : List Group) (one other : List State) →
    ((s : State) → has_state other s ≡ has_state one s) → AreKept p bs d groups one → AreKept p bs d groups other
moved-kept p bs d groups one other same keeps = record {
  ids = keeps.ids;
  unnamed = keeps.unnamed;
  inside = all-of (Contains (all_states (length d.people) (length groups))) other
      (λ s inside.
      All-contains (Contains (all_states (length d.people) (length groups))) one s keeps.inside
      (has-in one s (sym (same s) ∙ in-has other s inside)));
  covers = λ s inside. let t = keeps.covers s inside in (t.0, (moved t.0 t.1.0, t.1.1));
  starts = λ user less. moved (state_with None user) (keeps.starts user less);
}
  where
    moved : (s : State) → Contains one s → Contains other s
    moved s inside = has-in other s (same s ∙ in-has one s inside)

-- the blocks that decide for each user on a host
abbrev pub blocks_for : HostSteps → Person → List Block
blocks_for h = deciding_for h.least (option_copied h.cut.now.name) h.cut.now.start h.blocks.now

pub host-keeps : (h : HostSteps) → AreKept h.checked.now (blocks_for h) h.directory.now h.groups.now h.states.now
host-keeps h =
    moved-kept h.checked.now (blocks_for h) h.directory.now h.groups.now
    (kept_states h.directory.now h.groups.now (ids_by h.cut.now)) h.states.now h.kept
    (are-kept h.directory.now h.groups.now (ids_by h.cut.now) h.checked.now (blocks_for h)
    (cut-unnamed h.checked.now h.least h.blocks.now h.groups.now h.cut.now h.unnamed))

-- ---- Groups that are split

-- the states are the same where the groups are split by the IDs of a cut
pub kept-split :
    (d : KnownRows) (groups : List Group) (c : Cut) (own others : SplitGroups) →
    own.named.items ≡ named_indices c.own_ids.items groups (length groups) →
    own.unnamed.items ≡ unnamed_indices c.own_ids.items groups (length groups) →
    others.named.items ≡ named_indices c.ids.items groups (length groups) →
    others.unnamed.items ≡ unnamed_indices c.ids.items groups (length groups) →
    kept_by d groups (named_for (option_copied c.name) own others) (unnamed_for (option_copied c.name) own others)
    ≡ kept_states d groups (ids_by c)
kept-split d groups c own others own_named own_unnamed named unnamed =
    ap (λ (xs : List State). states_with (length d.people) None ++ xs)
    (flat-all (kept_at d groups (named_for (option_copied c.name) own others) (unnamed_for (option_copied c.name) own others))
    (kept_at d groups (λ u. named_indices (ids_by c u) groups (length groups)) (λ u. unnamed_indices (ids_by c u) groups (length groups)))
    (λ user. of user (slice_get d.people user)) (range_with_len 0 (length d.people)))
  where
    flat-all : (f g : ℕ → List State) → ((i : ℕ) → f i ≡ g i) → (is : List ℕ) → flat_map f is ≡ flat_map g is
    flat-all f g same [] = refl
    flat-all f g same (i ∷ is) =
        ap (λ (xs : List State). xs ++ flat_map f is) (same i) ∙ ap (λ (xs : List State). g i ++ xs) (flat-all f g same is)

    by : (u : Person) (user : ℕ) (k : Bool)
        → states_by user (kept_groups u groups (cond k own.named.items others.named.items) (cond k own.unnamed.items others.unnamed.items))
        ≡ states_by user (kept_groups u groups (named_indices (cond k c.own_ids.items c.ids.items) groups (length groups))
        (unnamed_indices (cond k c.own_ids.items c.ids.items) groups (length groups)))
    by u user true =
        ap (λ (is : List ℕ). states_by user (kept_groups u groups is own.unnamed.items)) own_named
        ∙ ap (λ (is : List ℕ). states_by user (kept_groups u groups (named_indices c.own_ids.items groups (length groups)) is)) own_unnamed
    by u user false =
        ap (λ (is : List ℕ). states_by user (kept_groups u groups is others.unnamed.items)) named
        ∙ ap (λ (is : List ℕ). states_by user (kept_groups u groups (named_indices c.ids.items groups (length groups)) is)) unnamed

    of : (user : ℕ) (o : Option Person)
        → kept_if groups (named_for (option_copied c.name) own others) (unnamed_for (option_copied c.name) own others) user o
        ≡ kept_if groups (λ u. named_indices (ids_by c u) groups (length groups)) (λ u. unnamed_indices (ids_by c u) groups (length groups))
        user o
    of user None = refl
    of user (Some u) = by u user (is_called (option_copied c.name) u)

-- ---- The states of one user more

pub kept-pushed :
    (old one two three : List State) (user : ℕ) (named had lacked : List ℕ) → one ≡ old ++ states_by user named →
    two ≡ one ++ states_by user had → three ≡ two ++ states_by user lacked → three ≡ old ++ states_by user (named ++ (had ++ lacked))
kept-pushed old one two three user named had lacked first second third =
    third ∙ ap (λ (xs : List State). xs ++ states_by user lacked) (second ∙ ap (λ (xs : List State). xs ++ states_by user had) first)
    ∙ append_assoc (old ++ states_by user named) (states_by user had) (states_by user lacked)
    ∙ append_assoc old (states_by user named) (states_by user had ++ states_by user lacked)
    ∙ ap (λ (xs : List State). old ++ xs)
    (sym (map-append (λ i. state_with (Some i) user) named (had ++ lacked)
    ∙ ap (λ (xs : List State). states_by user named ++ xs) (map-append (λ i. state_with (Some i) user) had lacked)))

pub kept-more :
    (d : KnownRows) (groups : List Group) (named others : Person → List ℕ) (user : ℕ) (u : Person) (old new : List State) →
    slice_get d.people user ≡ Some u →
    old ≡ states_with (length d.people) None ++ flat_map (kept_at d groups named others) (range_with_len 0 user) →
    new ≡ old ++ states_by user (kept_groups u groups (named u) (others u)) →
    new ≡ states_with (length d.people) None ++ flat_map (kept_at d groups named others) (range_with_len 0 (user + 1))
kept-more d groups named others user u old new is so_far grown =
    grown ∙ ap (λ (xs : List State). xs ++ states_by user (kept_groups u groups (named u) (others u))) so_far
    ∙ append_assoc (states_with (length d.people) None) (flat_map (kept_at d groups named others) (range_with_len 0 user))
    (states_by user (kept_groups u groups (named u) (others u)))
    ∙ ap (λ (xs : List State). states_with (length d.people) None ++ xs)
    (ap (λ (xs : List State). flat_map (kept_at d groups named others) (range_with_len 0 user) ++ xs)
    (sym (ap (kept_if groups named others user) is))
    ∙ sym (flat-range (kept_at d groups named others) user))
