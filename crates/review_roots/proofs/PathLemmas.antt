-- A chain from a state is one, through the states that are kept, from each kept state that is alike.
use Rattle.std.proofs.Common.{◌≡◌, ◌<◌, ◌≤◌, ◌∙◌, ℕ, zero, suc, Bool, true, false, not, ◌||◌}
use Rattle.std.proofs.Common.{◌==◌, List, [], ◌∷◌, ap, arith, get_or, length}
use Rattle.std.proofs.Common.{refl, subst, sym, Option, Some, None, inl, inr, option_copied, ◌⊎◌}
use Rattle.std.specs.Prelude.{All, option_map, slice_get}
use Rattle.std.specs.List.{Contains, list_any}
use Rattle.std.specs.Ordering.{is_gt}
use Rattle.std.proofs.lemmas.Bool.{eqb-true}
use Rattle.std.proofs.lemmas.Option.{slice_get_within}
use Rattle.std.proofs.lemmas.List.Elements.{All-contains, All-weaker}
use Rattle.sudo_match.specs.declared.people.Group.{Group}
use Rattle.sudo_match.specs.declared.people.Person.{Person}
use Rattle.sudo_match.specs.KnownRows.{directory_fault}
use Rattle.sudo_verdict.specs.RunasForms.{has_asked, has_group, is_same_user}
use Rattle.review_roots.specs.declared.host.HostSteps.{HostSteps}
use Rattle.review_roots.specs.declared.level.Level.{Level}
use Rattle.review_roots.specs.declared.search.Found.{Found}
use Rattle.review_roots.specs.declared.search.Sought.{Sought}
use Rattle.review_roots.specs.declared.state.State.{State}
use Rattle.review_roots.specs.Asked.{given_towards}
use Rattle.review_roots.specs.Body.Deciding.{towards_by}
use Rattle.review_roots.specs.Body.Found.{AreFound, AreStarts, HaveNoChain, IsComplete, IsFound, IsFoundAt, IsLinked}
use Rattle.review_roots.specs.Body.Found.{any_sought, found_states, kept_steps}
use Rattle.review_roots.specs.Body.Kept.{AreAlike, AreBothUnnamed, AreKept, IsAlike}
use Rattle.review_roots.specs.Body.Unnamed.{is_unnamed}
use Rattle.review_roots.specs.Chains.{Steps, Path, here, more, HasNoPath}
use Rattle.review_roots.specs.Order.{state_cmp}
use Rattle.review_roots.specs.Ranks.{is_at_least}
use Rattle.review_roots.specs.Sought.{any_steps, steps_of}
use Rattle.review_roots.specs.States.{given_between, group_at, is_start, level_for, state_with, with_added}
use Rattle.review_roots.proofs.AlikeLemmas.{IsWithin, has-more, name-kept, towards-same}
use Rattle.review_roots.proofs.DecidingLemmas.{decided-for}
use Rattle.review_roots.proofs.KeptLemmas.{blocks_for, host-keeps}
use Rattle.review_roots.proofs.RootLemmas.{not-found}
use Rattle.review_roots.proofs.SearchLemmas.{at-contains, path-state}
use Rattle.review_roots.proofs.UserLemmas.{one-row}

-- ---- Alike is an equivalence

module _ (ids : List ℕ) (u : Person) where
  pub alike-swap : (a b : Option Group) → IsAlike ids u a b → IsAlike ids u b a
  alike-swap a b (inl e) = inl (sym e)
  alike-swap a b (inr two) = inr (record {
    one = two.other;
    other = two.one;
    is_one = two.is_other;
    is_other = two.is_one;
    one_unnamed = two.other_unnamed;
    other_unnamed = two.one_unnamed;
    has = sym two.has;
  })

  pub alike-trans : (a b c : Option Group) → IsAlike ids u a b → IsAlike ids u b c → IsAlike ids u a c
  alike-trans a b c (inl e) k = subst (λ o. IsAlike ids u o c) (sym e) k
  alike-trans a b c (inr two) (inl e) = subst (IsAlike ids u a) e (inr two)
  alike-trans a b c (inr two) (inr after) =
      let middle : two.other ≡ after.one = let e : Some two.other ≡ Some after.one = sym two.is_other ∙ after.is_one in cc in
      inr (record {
        one = two.one;
        other = after.other;
        is_one = two.is_one;
        is_other = after.is_other;
        one_unnamed = two.one_unnamed;
        other_unnamed = after.other_unnamed;
        has = two.has ∙ ap (has_group u) middle ∙ after.has;
      })

-- ---- A user with an added group, and a group that it asks for

-- a group of the ID of an unnamed one is unnamed, and the user has both or neither
id-alike : (ids : List ℕ) (u : Person) (g h : Group) → (g.gid == h.gid) ≡ true → (is_unnamed ids g ≡ is_unnamed ids h)
    × (has_group u g ≡ has_group u h)
id-alike ids u g h e =
    let same = eqb-true g.gid h.gid e in
    (ap (λ i. not (list_any (λ j. j == i) ids)) same, ap (λ i. list_any (λ (x : Group). x.gid == i) u.groups) same)

-- both are unnamed, and the user has both or neither; or their IDs differ
either-alike : (ids : List ℕ) (u : Person) (g h : Group) → (is_unnamed ids g ≡ true) ⊎ (is_unnamed ids h ≡ true)
    → IsAlike ids u (Some g) (Some h) ⊎ ((g.gid == h.gid) ≡ false)
either-alike ids u g h none = go (g.gid == h.gid) refl
  where
    both : (is_unnamed ids g ≡ is_unnamed ids h) × (has_group u g ≡ has_group u h)
        → (is_unnamed ids g ≡ true) ⊎ (is_unnamed ids h ≡ true) → IsAlike ids u (Some g) (Some h)
    both k (inl e) = inr (record {
      one = g;
      other = h;
      is_one = refl;
      is_other = refl;
      one_unnamed = e;
      other_unnamed = sym k.0 ∙ e;
      has = k.1;
    })
    both k (inr e) = inr (record {
      one = g;
      other = h;
      is_one = refl;
      is_other = refl;
      one_unnamed = k.0 ∙ e;
      other_unnamed = e;
      has = k.1;
    })

    go : (b : Bool) → (g.gid == h.gid) ≡ b → IsAlike ids u (Some g) (Some h) ⊎ ((g.gid == h.gid) ≡ false)
    go true e = inl (both (id-alike ids u g h e) none)
    go false e = inr e

module _ (ids : List ℕ) (u : Person) where
  -- the user with one group has what is asked for if and only if it has it with the other; or what it has is alike to that
  abbrev Fits : Option Group → Option Group → Option Group → Option Group → Type 0
  Fits a a' b b' = IsAlike ids u a b ⊎ (has_asked (with_added u a) b ≡ has_asked (with_added u a') b')

  apart-fits :
      (g g' h h' : Group) → has_group u h ≡ has_group u h' → (g.gid == h.gid) ≡ false → (g'.gid == h'.gid) ≡ false
      → has_group (with_added u (Some g)) h ≡ has_group (with_added u (Some g')) h'
  apart-fits g g' h h' has far far' =
      has-more u g h ∙ ap (λ b. has_group u h || b) far ∙ ap (λ b. b || false) has
      ∙ sym (has-more u g' h' ∙ ap (λ b. has_group u h' || b) far')

  both-fit :
      (g g' h h' : Group) → IsAlike ids u (Some g) (Some g') → IsAlike ids u (Some h) (Some h') → has_group u h ≡ has_group u h' →
      (is_unnamed ids g ≡ true) ⊎ (is_unnamed ids h ≡ true) → (is_unnamed ids g' ≡ true) ⊎ (is_unnamed ids h' ≡ true) →
      Fits (Some g) (Some g') (Some h) (Some h')
  both-fit g g' h h' from to has none none' = go (either-alike ids u g h none) (either-alike ids u g' h' none')
    where
      go : IsAlike ids u (Some g) (Some h) ⊎ ((g.gid == h.gid) ≡ false)
          → IsAlike ids u (Some g') (Some h') ⊎ ((g'.gid == h'.gid) ≡ false) → Fits (Some g) (Some g') (Some h) (Some h')
      go (inl alike) k = inl alike
      go (inr far) (inl alike) =
          inl (alike-trans ids u (Some g) (Some g') (Some h) from
          (alike-trans ids u (Some g') (Some h') (Some h) alike (alike-swap ids u (Some h) (Some h') to)))
      go (inr far) (inr far') = inr (apart-fits g g' h h' has far far')

  pub own-fits : (a a' b b' : Option Group) → IsAlike ids u a a' → IsAlike ids u b b' → Fits a a' b b'
  own-fits a a' b b' (inl e) (inl f) =
      inr (ap (λ o. has_asked (with_added u o) b) e ∙ ap (has_asked (with_added u a')) f)
  own-fits a a' b b' (inl e) (inr two) = go a refl
    where
      two-plain : AreBothUnnamed ids u (Some two.one) (Some two.other)
      two-plain = record {
        one = two.one;
        other = two.other;
        is_one = refl;
        is_other = refl;
        one_unnamed = two.one_unnamed;
        other_unnamed = two.other_unnamed;
        has = two.has;
      }

      named : (o o' : Option Group) → o ≡ o' → Fits o o' (Some two.one) (Some two.other)
      named None o' e =
          inr (two.has ∙ ap (λ o. has_asked (with_added u o) (Some two.other)) e)
      named (Some g) o' e =
          subst (λ o. Fits (Some g) o (Some two.one) (Some two.other)) e
          (both-fit g g two.one two.other (inl refl) (inr two-plain) two.has (inr two.one_unnamed) (inr two.other_unnamed))

      go : (o : Option Group) → a ≡ o → Fits a a' b b'
      go o is =
          subst (λ x. Fits a a' x b') (sym two.is_one) (subst (Fits a a' (Some two.one)) (sym two.is_other) (named a a' e))
  own-fits a a' b b' (inr one) to = go b b' refl refl to
    where
      one-plain : IsAlike ids u (Some one.one) (Some one.other)
      one-plain = inr (record {
        one = one.one;
        other = one.other;
        is_one = refl;
        is_other = refl;
        one_unnamed = one.one_unnamed;
        other_unnamed = one.other_unnamed;
        has = one.has;
      })

      plain : (o o' : Option Group) → IsAlike ids u o o' → Fits (Some one.one) (Some one.other) o o'
      plain None None to = inr refl
      plain None (Some h) (inl e) = cc
      plain None (Some h) (inr two) = let bad = two.is_one in cc
      plain (Some h) None (inl e) = cc
      plain (Some h) None (inr two) = let bad = two.is_other in cc
      plain (Some h) (Some h') (inl e) =
          let same : h ≡ h' = cc in
          both-fit one.one one.other h h' one-plain (inl e) (ap (has_group u) same) (inl one.one_unnamed) (inl one.other_unnamed)
      plain (Some h) (Some h') (inr two) =
          let first : two.one ≡ h = let e : Some two.one ≡ Some h = sym two.is_one in cc in
          let second : two.other ≡ h' = let e : Some two.other ≡ Some h' = sym two.is_other in cc in
          both-fit one.one one.other h h' one-plain (inr two)
          (ap (has_group u) (sym first) ∙ two.has ∙ ap (has_group u) second) (inl one.one_unnamed) (inl one.other_unnamed)

      go : (o o' : Option Group) → b ≡ o → b' ≡ o' → IsAlike ids u b b' → Fits a a' b b'
      go o o' is is' to =
          subst (λ x. Fits x a' b b') (sym one.is_one) (subst (λ x. Fits (Some one.one) x b b') (sym one.is_other) (plain b b' to))

-- ---- Steps and chains on a host

module _ (h : HostSteps) (q : Sought) (known : directory_fault h.directory.now.people h.directory.now.machines ≡ None)
    (keeps : AreKept h.checked.now (blocks_for h) h.directory.now h.groups.now h.states.now) where
  abbrev g : Steps State
  g = steps_of h q

  abbrev k : Steps State
  k = kept_steps h q

  abbrev Alike : State → State → Type 0
  Alike s t = AreAlike h.directory.now h.groups.now keeps.ids s t

  within : (o : Option ℕ) → IsWithin h.groups.now (group_at h.groups.now o)
  within None x e = cc
  within (Some i) x e = at-contains h.groups.now x i e

  abbrev people : List Person
  people = h.directory.now.people

  abbrev added : State → Option Group
  added s = group_at h.groups.now s.added

  -- the level of the step of one user to another, with the added groups of these states
  abbrev level-with : State → State → Option Person → Option Person → Level
  level-with s t u v =
      level_for q.counted
      (given_between h.checked.now h.directory.now h.host.now (option_map (λ x. with_added x (added s)) u) v (added t))

  -- steps have the same of the levels that are sought
  abbrev pub AreSame : Level → Level → Type 0
  AreSame a b = (l : Level) → is_at_least h.least l ≡ true → is_at_least l a ≡ is_at_least l b

  -- what a user with the added group of a state is given, by the blocks that decide for the user
  decided-at : (s : State) (u v : Person) (o : Option Group) (l : Level) → is_at_least h.least l ≡ true
      → is_at_least l (level_for q.counted (given_towards h.checked.now h.directory.now h.host.now (with_added u (added s)) v o))
      ≡ is_at_least l (level_for q.counted
      (towards_by h.checked.now h.directory.now (blocks_for h u) h.host.now (with_added u (added s)) v o))
  decided-at s u v o l above =
      decided-for h.checked.now h.directory.now h.blocks.now h.host.now h.least h.tied h.listed (option_copied h.cut.now.name)
      h.cut.now.start h.unnamed.cut u (with_added u (added s)) (name-kept u (added s)) v o q.counted l above

  -- steps between states that are alike are the same, but for one between two that are alike to one another
  pub step-same : (s s' t t' : State) → Alike s s' → Alike t t' → Alike s t ⊎ AreSame (g.level s t) (g.level s' t')
  step-same s s' t t' from to = go (slice_get people s.user) refl (slice_get people t.user) refl
    where
      carried : (u v : Option Person) → slice_get people s.user ≡ u → slice_get people t.user ≡ v
          → AreSame (level-with s t u v) (level-with s' t' u v) → AreSame (g.level s t) (g.level s' t')
      carried u v is at given l above =
          let f : slice_get people s'.user ≡ u = ap (slice_get people) (sym from.0) ∙ is in
          let j : slice_get people t'.user ≡ v = ap (slice_get people) (sym to.0) ∙ at in
          ap (is_at_least l) (ap (λ o. level-with s t o (slice_get people t.user)) is ∙ ap (level-with s t u) at) ∙ given l above
          ∙ sym (ap (is_at_least l) (ap (λ o. level-with s' t' o (slice_get people t'.user)) f ∙ ap (level-with s' t' u) j))

      given :
          (u v : Person) → slice_get people s.user ≡ Some u → slice_get people t.user ≡ Some v →
          (is_same_user v u ≡ true → has_asked (with_added u (added s)) (added t) ≡ has_asked (with_added u (added s')) (added t')) →
          AreSame (level-with s t (Some u) (Some v)) (level-with s' t' (Some u) (Some v))
      given u v is at own l above =
          decided-at s u v (added t) l above
          ∙ ap (λ a. is_at_least l (level_for q.counted a))
          (towards-same h.checked.now h.directory.now (blocks_for h u) h.host.now h.groups.now (keeps.ids u) (keeps.ids v)
          (keeps.unnamed.own u) (keeps.unnamed.others u v) u v (added s) (added s') (added t) (added t') (from.1 u is) (to.1 v at)
          (within s.added) (within s'.added) (within t.added)
          (within t'.added) own)
          ∙ sym (decided-at s' u v (added t') l above)

      both : (u v : Person) → slice_get people s.user ≡ Some u → slice_get people t.user ≡ Some v
          → Alike s t ⊎ AreSame (g.level s t) (g.level s' t')
      both u v is at = itself (is_same_user v u) refl
        where
          fits : (v ≡ u) → IsAlike (keeps.ids u) u (added s) (added t) ⊎ (has_asked (with_added u (added s)) (added t)
              ≡ has_asked (with_added u (added s')) (added t')) → s.user ≡ t.user → Alike s t ⊎ AreSame (g.level s t) (g.level s' t')
          fits same (inl alike) user =
              inl (
                user,
                λ w is_w. let e : u ≡ w = let f : Some u ≡ Some w = sym is ∙ is_w in cc in
                    subst (λ w. IsAlike (keeps.ids w) w (added s) (added t)) e alike,
              )
          fits same (inr has) user = inr (carried (Some u) (Some v) is at (given u v is at (λ yes. has)))

          itself : (b : Bool) → is_same_user v u ≡ b → Alike s t ⊎ AreSame (g.level s t) (g.level s' t')
          itself false e =
              inr (carried (Some u) (Some v) is at
              (given u v is at (λ yes. absurd (let bad : true ≡ false = sym yes ∙ e in cc))))
          itself true e =
              let row = one-row people h.directory.now.machines known s.user t.user u v is at e in
              fits (sym row.0)
              (own-fits (keeps.ids u) u (added s) (added s') (added t) (added t') (from.1 u is)
              (subst (λ w. IsAlike (keeps.ids w) w (added t) (added t')) (sym row.0) (to.1 v at))) row.1

      go : (u : Option Person) → slice_get people s.user ≡ u → (v : Option Person) → slice_get people t.user ≡ v
          → Alike s t ⊎ AreSame (g.level s t) (g.level s' t')
      go None is v at = inr (carried None v is at (λ l above. refl))
      go (Some u) is None at = inr (carried (Some u) None is at (λ l above. refl))
      go (Some u) is (Some v) at = both u v is at

  pub alike-turn : (s t t' : State) → Alike s t → Alike s t' → Alike t t'
  alike-turn s t t' one other = (
    sym one.0 ∙ other.0,
    λ u is.
        let is_s = ap (slice_get h.directory.now.people) one.0 ∙ is in
        alike-trans (keeps.ids u) u (group_at h.groups.now t.added) (group_at h.groups.now s.added) (group_at h.groups.now t'.added)
        (alike-swap (keeps.ids u) u (group_at h.groups.now s.added) (group_at h.groups.now t.added) (one.1 u is_s)) (other.1 u is_s),
  )

  -- a chain of no more steps leads from the state
  abbrev pub HasWithin : Level → ℕ → State → Type 0
  HasWithin l n s = (m : ℕ) × ((m ≤ n) × Path k l m s)

  -- a chain from a state is one of no more steps, through kept states, from each kept state that is alike
  pub kept-path : (l : Level) → is_at_least h.least l ≡ true → {n : ℕ} {s : State} → Path g l n s → (s' : State) → Contains k.states s'
      → Alike s s' → HasWithin l n s'
  kept-path l above (here {s} c at) s' inside alike =
      (zero, (omega arith, here inside (ap (λ u. u == q.target) (sym alike.0) ∙ at)))
  kept-path l above (more {n} {s} {t} c step rest) s' inside alike =
      go (keeps.covers t (path-state g l rest)) (λ u there like. kept-path l above rest u there like)
    where
      go : (t' : State) × (Contains h.states.now t' × (Alike t t' × (is_gt (state_cmp h.directory.now t' t) ≡ false)))
          → ((u : State) → Contains k.states u → Alike t u → HasWithin l n u) → HasWithin l (suc n) s'
      go found behind = next (step-same s s' t found.0 alike found.1.1.0)
        where
          next : Alike s t ⊎ AreSame (g.level s t) (g.level s' found.0) → HasWithin l (suc n) s'
          next (inl same) =
              let b = behind s' inside (alike-turn s t s' same alike) in (b.0, (let most = b.1.0 in omega (arith, most), b.1.1))
          next (inr level) =
              let b = behind found.0 found.1.0 found.1.1.0 in (
                suc b.0,
                (let most = b.1.0 in omega (arith, most), more inside (sym (level l above) ∙ step) b.1.1),
              )

  -- a chain through kept states is one
  pub plain-path : (l : Level) {n : ℕ} {s : State} → Path k l n s → Path g l n s
  plain-path l (here {s} c at) = here (All-contains (Contains g.states) k.states s keeps.inside c) at
  plain-path l (more {n} {s} {t} c step rest) =
      more (All-contains (Contains g.states) k.states s keeps.inside c) step (plain-path l rest)

  pub itself : (s : State) → Alike s s
  itself s = (refl, λ u is. inl refl)

  linked-among : (l : Level) (found : List Found) (i : ℕ) (f : Found) (next : Option ℕ) → IsLinked k l found i f next
      → IsLinked g l found i f next
  linked-among l found i f None at = at
  linked-among l found i f (Some next) (t, is) = (t, record { there = is.there; before = is.before; step = is.step; steps = is.steps })

  -- who has no chain through kept states has none
  pub complete-among : (l : Level) → is_at_least h.least l ≡ true → (found : List Found) → IsComplete k k.states l found
      → IsComplete g h.states.now l found
  complete-among l above found complete s inside = go (complete s inside)
    where
      go : Contains (found_states found) s ⊎ HasNoPath k l s → Contains (found_states found) s ⊎ HasNoPath g l s
      go (inl there) = inl there
      go (inr none) = inr (λ n path. let p = kept-path l above path s inside (itself s) in none p.0 p.1.1)

  -- what is found among the kept states is so among all
  pub found-among : (l : Level) → is_at_least h.least l ≡ true → (found : List Found) → AreFound k k.states l found
      → AreFound g h.states.now l found
  found-among l above found are = record {
    right = All-weaker (IsFound k l) (IsFound g l) (λ f is. record {
      inside = All-contains (Contains g.states) k.states f.state keeps.inside is.inside;
      path = (is.path.0, plain-path l is.path.1);
      shortest = λ n path.
          let p = kept-path l above path f.state is.inside (itself f.state) in
          let few = is.shortest p.0 p.1.1 in
          let most = p.1.0 in
          omega (arith, few, most);
    }) found are.right;
    linked = λ i f at. linked-among l found i f f.next (are.linked i f at);
    complete = complete-among l above found are.complete;
  }

-- a user that is not found among the kept states has no chain
pub no-root :
    (h : HostSteps) (q : Sought) (l : Level) (found : List Found) (user : ℕ) → AreFound (steps_of h q) h.states.now l found →
    user < length h.directory.now.people → All (λ f. is_start user f.state ≡ false) found
    → HasNoPath (steps_of h q) l (state_with None user)
no-root h q l found user are less none =
    not-found (steps_of h q) h.states.now l found user are ((host-keeps h).starts user less) none

-- no chain leads from a user without a start
pub starts-chainless :
    (h : HostSteps) (target : ℕ) (l : Level) (found : List Found) (starts : List (Option ℕ)) →
    AreFound (any_steps h target) h.states.now l found →
    AreStarts found starts → length starts ≡ length h.directory.now.people → HaveNoChain h target l starts
starts-chainless h target l found starts are begin known user none =
    let within = slice_get_within starts user None none in
    no-root h (any_sought target) l found user are (omega (arith, within, known))
    (subst (IsFoundAt found user) (no-start starts user none) (begin user within))
  where
    no-start : (xs : List (Option ℕ)) (i : ℕ) → slice_get xs i ≡ Some None → get_or xs i None ≡ None
    no-start [] i e = refl
    no-start (x ∷ xs) zero e = cc
    no-start (x ∷ xs) (suc i) e = no-start xs i e

-- where there are no starts at all, none is known to be missing
pub none-missing : (h : HostSteps) (target : ℕ) (l : Level) → HaveNoChain h target l []
none-missing h target l user none = absurd (let within = slice_get_within [] user None none in omega (arith, within))
