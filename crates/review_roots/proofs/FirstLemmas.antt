-- Of the shortest chains from a state a search finds the first one.
use Rattle.std.proofs.Common.{◌≡◌, ◌<◌, ◌≤◌, ◌+◌, ◌∙◌, ◌⊎◌, ℕ, zero, suc, true, false, List, [], ◌∷◌, ◌++◌, ap, arith}
use Rattle.std.proofs.Common.{append-nil, append_assoc}
use Rattle.std.proofs.Common.{inl, inr, length, refl, subst, sym, Option, Some, None}
use Rattle.std.specs.Prelude.{All, slice_get}
use Rattle.std.specs.Cmp.Lexicographic.{slice_cmp}
use Rattle.std.specs.List.{Contains}
use Rattle.std.specs.declared.cmp.Ordering.{Ordering}
use Rattle.std.specs.declared.cmp.Ordering.TheVariants.{Less, Equal, Greater}
use Rattle.std.specs.Ordering.{is_gt, ordering_then}
use Rattle.std.proofs.lemmas.Bool.{cases_lt}
use Rattle.std.proofs.lemmas.List.Elements.{All-contains, All-head, All-tail}
use Rattle.sudo_match.specs.declared.people.Person.{Person}
use Rattle.sudo_match.specs.KnownRows.{KnownRows}
use Rattle.review_roots.specs.declared.host.HostSteps.{HostSteps}
use Rattle.review_roots.specs.declared.level.Level.{Level}
use Rattle.review_roots.specs.declared.search.Found.{Found}
use Rattle.review_roots.specs.declared.search.Sought.{Sought}
use Rattle.review_roots.specs.declared.state.State.{State}
use Rattle.review_roots.specs.Body.Found.{AreFound, AreOrdered, IsFound, IsLinked, IsStep, found_states}
use Rattle.review_roots.specs.Body.Kept.{AreAlike, AreKept}
use Rattle.review_roots.specs.Body.Passing.{IsAlong}
use Rattle.review_roots.specs.Chains.{Steps, Path, here, more, HasNoPath, LeadsAlong}
use Rattle.review_roots.specs.Order.{is_behind, state_cmp}
use Rattle.review_roots.specs.Ranks.{is_at_least}
use Rattle.review_roots.specs.Sought.{steps_of}
use Rattle.review_roots.proofs.ChainLemmas.{chains-are-paths}
use Rattle.review_roots.proofs.KeptLemmas.{blocks_for, host-keeps, state-parts, there}
use Rattle.review_roots.proofs.OrderLemmas.{behind-itself, behind-trans, states-same}
use Rattle.review_roots.proofs.PathLemmas.{AreSame, HasWithin, alike-turn, itself, kept-path, plain-path, step-same}
use Rattle.review_roots.proofs.SearchLemmas.{at-contains, contains-at, from-map}

-- ---- The chain of a found state, gathered from its first step on

abbrev pub AlongSoFar : List Found → ℕ → ℕ → List State → Type 0
AlongSoFar found index at chain = (rest : List State) → IsAlong found at rest → IsAlong found index (chain ++ rest)

pub along-more :
    (found : List Found) (index at next : ℕ) (chain : List State) (f t : Found) → slice_get found at ≡ Some f → f.next ≡ Some next →
    slice_get found next ≡ Some t → AlongSoFar found index at chain → AlongSoFar found index next (chain ++ t.state ∷ [])
along-more found index at next chain f t there_f is there_t so_far rest behind =
    subst (IsAlong found index) (sym (append_assoc chain (t.state ∷ []) rest))
    (so_far (t.state ∷ rest) (f, next, t, there_f, is, there_t, refl, behind))

pub along-all :
    (found : List Found) (index at : ℕ) (chain : List State) (f : Found) → slice_get found at ≡ Some f → f.next ≡ None →
    AlongSoFar found index at chain → IsAlong found index chain
along-all found index at chain f there_f is so_far =
    subst (IsAlong found index) (append-nil chain) (so_far [] (f, (there_f, is)))

-- ---- Two chains, by their first states

-- a chain does not go behind another one if its first state does not, and, where the first states are the same, the others do not
pub first-states :
    (d : KnownRows) (s u : State) (ss us : List State) → is_gt (state_cmp d s u) ≡ false →
    (state_cmp d s u ≡ Equal → is_behind d ss us ≡ false) → is_behind d (s ∷ ss) (u ∷ us) ≡ false
first-states d s u ss us not rest = go (state_cmp d s u) refl not
  where
    go : (o : Ordering) → state_cmp d s u ≡ o → is_gt o ≡ false
        → is_gt (ordering_then (state_cmp d s u) (slice_cmp (state_cmp d) ss us)) ≡ false
    go Less is e = ap (λ o. is_gt (ordering_then o (slice_cmp (state_cmp d) ss us))) is
    go Equal is e = ap (λ o. is_gt (ordering_then o (slice_cmp (state_cmp d) ss us))) is ∙ rest is
    go Greater is e = cc

module _ (h : HostSteps) (q : Sought) (l : Level) (above : is_at_least h.least l ≡ true) (found : List Found)
    (are : AreFound (steps_of h q) h.states.now l found) (order : AreOrdered h q l found) where
  abbrev g : Steps State
  g = steps_of h q

  abbrev d : KnownRows
  d = h.directory.now

  keeps : AreKept h.checked.now (blocks_for h) h.directory.now h.groups.now h.states.now
  keeps = host-keeps h

  right-at : (i : ℕ) (f : Found) → slice_get found i ≡ Some f → IsFound g l f
  right-at i f at = All-contains (IsFound g l) found f are.right (at-contains found f i at)

  -- a found state has a chain of its steps
  found-path : (n i : ℕ) (f : Found) → i < n → slice_get found i ≡ Some f → Path g l f.steps f.state
  found-path zero i f less at = absurd (omega (arith, less))
  found-path (suc n) i f less at = go f.next refl (are.linked i f at) (λ j e. found-path n j e)
    where
      Earlier : Type 0
      Earlier = (j : ℕ) (e : Found) → j < n → slice_get found j ≡ Some e → Path g l e.steps e.state

      go : (o : Option ℕ) → f.next ≡ o → IsLinked g l found i f f.next → Earlier → Path g l f.steps f.state
      go None is linked earlier =
          let link = subst (IsLinked g l found i f) is linked in
          subst (λ m. Path g l m f.state) (sym link.1) (here (right-at i f at).inside link.0)
      go (Some next) is linked earlier =
          let link = subst (IsLinked g l found i f) is linked in
          let back = link.1.before in
          let rest = earlier next link.0 (omega (arith, back, less)) link.1.there in
          let steps : f.steps ≡ suc link.0.steps = (let e = link.1.steps in omega (arith, e)) in
          subst (λ m. Path g l m f.state) (sym steps) (more (right-at i f at).inside link.1.step rest)

  known-person : (s : State) → Contains g.states s → (u : Person) × (slice_get d.people s.user ≡ Some u)
  known-person s inside = there d.people s.user (state-parts (length d.people) (length h.groups.now) s inside).0

  -- states at one place in the order are the same
  pub one-place : (s u : State) → Contains g.states s → Contains g.states u → state_cmp d s u ≡ Equal → s ≡ u
  one-place s u in_s in_u e =
      let p = known-person s in_s in
      let r = known-person u in_u in
      states-same d h.faultless s u p.0 r.0 p.1 r.1 e

  -- the found state to which the first step leads does not go behind any to which one of a shortest chain leads
  module _ (i j : ℕ) (f t : Found) (at : slice_get found i ≡ Some f) (is : f.next ≡ Some j) (to : slice_get found j ≡ Some t)
      (u : State) (us : List State) (in_u : Contains g.states u) (in_us : All (Contains g.states) us)
      (step : is_at_least l (g.level f.state u) ≡ true) (leads : LeadsAlong g l u us) (few : suc (length us) ≤ f.steps) where
    kept_f : Contains h.states.now f.state
    kept_f = All-contains (λ f. Contains h.states.now f.state) found f order.kept (at-contains found f i at)

    steps_f : f.steps ≡ t.steps + 1
    steps_f = go (subst (IsLinked g l found i f) is (are.linked i f at))
      where
        go : (e : Found) × IsStep g l found i f j e → f.steps ≡ t.steps + 1
        go (e, link) =
            let same : e ≡ t = (let k : Some e ≡ Some t = sym link.there ∙ to in cc) in
            link.steps ∙ ap (λ (e : Found). e.steps + 1) same

    path_u : Path g l (length us) u
    path_u = chains-are-paths State g l u us in_u in_us leads

    -- a found state to which a step leads, with as few steps
    found-first : (k : ℕ) (e : Found) → slice_get found k ≡ Some e → is_at_least l (g.level f.state e.state) ≡ true → e.steps ≡ t.steps →
        is_gt (state_cmp d t.state e.state) ≡ false
    found-first k e at_k reaches steps = by (cases_lt k j) (cases_lt j k)
      where
        by : (k < j) ⊎ (j ≤ k) → (j < k) ⊎ (k ≤ j) → is_gt (state_cmp d t.state e.state) ≡ false
        by (inl less) any = absurd (let bad : true ≡ false = sym reaches ∙ order.first i j k f e at is less at_k in cc)
        by (inr from) (inl less) = order.sorted j k t e less to at_k (sym steps)
        by (inr from) (inr most) =
            let same : j ≡ k = omega (arith, from, most) in
            let one : t ≡ e = (let p : Some t ≡ Some e = sym to ∙ ap (slice_get found) same ∙ at_k in cc) in
            ap (λ (x : Found). is_gt (state_cmp d t.state x.state)) (sym one) ∙ behind-itself d t.state

    -- the kept state that is alike to the other is found
    by-kept :
        (v : State) → Contains h.states.now v → is_at_least l (g.level f.state v) ≡ true → HasWithin h q h.faultless keeps l (length us) v →
        is_gt (state_cmp d t.state v) ≡ false
    by-kept v kept_v reaches (m, (most, path)) = go (are.complete v kept_v)
      where
        path_v : Path g l m v
        path_v = plain-path h q h.faultless keeps l path

        there_v : (e : Found) → Contains found e → e.state ≡ v → is_gt (state_cmp d t.state v) ≡ false
        there_v e inside same = at_e (contains-at found e inside)
          where
            at_e : (k : ℕ) × (slice_get found k ≡ Some e) → is_gt (state_cmp d t.state v) ≡ false
            at_e (k, at_k) =
                let reaches_e : is_at_least l (g.level f.state e.state) ≡ true =
                ap (λ x. is_at_least l (g.level f.state x)) same ∙ reaches in
                let path_e = found-path (suc k) k e (omega arith) at_k in
                let least = (right-at i f at).shortest (suc e.steps) (more (right-at i f at).inside reaches_e path_e) in
                let short = (right-at k e at_k).shortest m (subst (Path g l m) (sym same) path_v) in
                let steps : e.steps ≡ t.steps = (let s = steps_f in omega (arith, least, short, most, few, s)) in
                ap (λ x. is_gt (state_cmp d t.state x)) (sym same) ∙ found-first k e at_k reaches_e steps

        go : Contains (found_states found) v ⊎ HasNoPath g l v → is_gt (state_cmp d t.state v) ≡ false
        go (inl in_found) = let e = from-map (λ (f : Found). f.state) found v in_found in there_v e.0 e.1 e.2
        go (inr none) = absurd (none m path_v)

    pub first-state : is_gt (state_cmp d t.state u) ≡ false
    first-state = go (keeps.covers u in_u)
      where
        go : (v : State) × (Contains h.states.now v × (AreAlike d h.groups.now keeps.ids u v × (is_gt (state_cmp d v u) ≡ false)))
            → is_gt (state_cmp d t.state u) ≡ false
        go (v, (kept_v, (alike, before))) =
            by (step-same h q h.faultless keeps f.state f.state u v (itself h q h.faultless keeps f.state) alike)
          where
            by : AreAlike d h.groups.now keeps.ids f.state u ⊎ AreSame h q h.faultless keeps (g.level f.state u) (g.level f.state v)
                → is_gt (state_cmp d t.state u) ≡ false
            by (inl same) =
                let p = kept-path h q h.faultless keeps l above path_u f.state kept_f (alike-back same) in
                let short = (right-at i f at).shortest p.0 (plain-path h q h.faultless keeps l p.1.1) in
                let most = p.1.0 in
                absurd (omega (arith, short, most, few))
              where
                alike-back : AreAlike d h.groups.now keeps.ids f.state u → AreAlike d h.groups.now keeps.ids u f.state
                alike-back a = alike-turn h q h.faultless keeps f.state u f.state a (itself h q h.faultless keeps f.state)
            by (inr level) =
                behind-trans d t.state v u
                (by-kept v kept_v (sym (level l above) ∙ step) (kept-path h q h.faultless keeps l above path_u v kept_v alike)) before

  -- no shortest chain from a found state goes before its own
  pub first-along :
      (chain : List State) (i : ℕ) (f : Found) → slice_get found i ≡ Some f → IsAlong found i chain → (ts : List State) →
      All (Contains g.states) ts → LeadsAlong g l f.state ts → length ts ≤ f.steps → is_behind d chain ts ≡ false
  first-along [] i f at along [] inside leads few = refl
  first-along [] i f at along (u ∷ us) inside leads few = refl
  first-along (s ∷ ss) i f at (f', j, t, at', is, to, this, along) [] inside leads few =
      let one : f' ≡ f = (let p : Some f' ≡ Some f = sym at' ∙ at in cc) in
      let link = subst (IsLinked g l found i f) (ap (λ (x : Found). x.next) (sym one) ∙ is) (are.linked i f at) in
      let steps = link.1.steps in
      let none = (right-at i f at).shortest zero (here (right-at i f at).inside leads) in
      absurd (omega (arith, steps, none))
  first-along (s ∷ ss) i f at (f', j, t, at', is, to, this, along) (u ∷ us) inside leads few =
      first-states d s u ss us
      (subst (λ x. is_gt (state_cmp d x u) ≡ false) this (first-state i j f t at is_f to u us in_u in_us leads.0 leads.1 few))
      (λ same.
      first-along ss j t to along us in_us
      (subst (λ x. LeadsAlong g l x us) (sym (this ∙ one-place s u (subst (Contains g.states) this (right-at j t to).inside) in_u same))
      leads.1)
      (let steps = steps_f i j f t at is_f to u us in_u in_us leads.0 leads.1 few in omega (arith, steps, few)))
    where
      one : f' ≡ f
      one = let p : Some f' ≡ Some f = sym at' ∙ at in cc

      is_f : f.next ≡ Some j
      is_f = ap (λ (x : Found). x.next) (sym one) ∙ is

      in_u : Contains g.states u
      in_u = All-head (Contains g.states) u us inside

      in_us : All (Contains g.states) us
      in_us = All-tail (Contains g.states) u us inside
