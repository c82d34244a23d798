-- What a search begins with: the states at the goal, and the candidates that are heard; from no other does a step lead.
use Rattle.std.proofs.Common.{◌≡◌, ◌∙◌, ℕ, zero, Bool, true, false, not, cond, ◌&&◌, ◌==◌, List, [], ◌∷◌, ap, arith, refl}
use Rattle.std.proofs.Common.{length, map, sym, subst, Option, Some, None, inl, inr, ◌⊎◌}
use Rattle.std.specs.Prelude.{All, filter, is_some, slice_get}
use Rattle.std.specs.List.{Contains, list_any, slice_index_or}
use Rattle.std.proofs.lemmas.Bool.{and_parts, not-true}
use Rattle.std.proofs.lemmas.List.Elements.{All-contains, All-contains_itself, All-filter, All-map, All-weaker, filter_passes}
use Rattle.sudo_match.specs.declared.people.Person.{Person}
use Rattle.review_roots.specs.declared.candidate.Candidate.{Candidate}
use Rattle.review_roots.specs.declared.given.Counted.{Counted}
use Rattle.review_roots.specs.declared.given.Counted.TheVariants as counted
use Rattle.review_roots.specs.declared.given.Given.{Given}
use Rattle.review_roots.specs.declared.host.HostSteps.{HostSteps}
use Rattle.review_roots.specs.declared.level.Level.{Level}
use Rattle.review_roots.specs.declared.level.Level.TheVariants as level
use Rattle.review_roots.specs.declared.search.Found.{Found}
use Rattle.review_roots.specs.declared.search.Sought.{Sought}
use Rattle.review_roots.specs.declared.state.State.{State}
use Rattle.review_roots.specs.Blocks.{is_for}
use Rattle.review_roots.specs.Body.Candidates.{IsSilent, has_state, is_heard, raises_for, states_of}
use Rattle.review_roots.specs.Body.Found.{AreDeep}
use Rattle.review_roots.specs.Body.Found.{found_states, found_there, IsCandidate, IsFound, IsLinked, IsMute, IsSearch, IsStartOf}
use Rattle.review_roots.specs.Body.Found.{AreGiven, HaveNoChain, IsGiven, IsStuck, is_counted, is_left, kept_steps, may_start, starts_or}
use Rattle.review_roots.specs.Body.May.{may_count}
use Rattle.review_roots.specs.Chains.{HasNoPath, Steps, Path, here, more}
use Rattle.review_roots.specs.Order.{IsInOrder}
use Rattle.review_roots.specs.Ranks.{is_at_least}
use Rattle.review_roots.specs.Sought.{any_steps}
use Rattle.review_roots.specs.States.{given_between, person_of, group_at, level_for, step_given}
use Rattle.review_roots.proofs.CandidateLemmas.{has-in}
use Rattle.review_roots.proofs.IndexLemmas.{any-are, answer-at}
use Rattle.review_roots.proofs.MayLemmas.{uncounted}
use Rattle.review_roots.proofs.KeptLemmas.{host-keeps}
use Rattle.review_roots.proofs.LayerLemmas.{map-at}
use Rattle.review_grants.proofs.ItemLemmas.{neither}
use Rattle.review_roots.proofs.OrderLemmas.{kept-order}
use Rattle.review_roots.proofs.SearchLemmas.{at-least-below, at-least-trans, at-contains, both-all, from-map, in-filter, to-map}
use Rattle.review_roots.proofs.WeakLemmas.{any-weaker, quiet-between, weak-level, weak-nothing}

-- the states at the target are those that are found
map-itself : (xs : List State) → map (λ s. s) xs ≡ xs
map-itself [] = refl
map-itself (x ∷ xs) = ap (λ ys. x ∷ ys) (map-itself xs)

there-states : (xs : List State) → found_states (map found_there xs) ≡ xs
there-states [] = refl
there-states (x ∷ xs) = ap (λ ys. x ∷ ys) (there-states xs)

-- a state that may not begin a chain has no added group, and its user has no start
unstarted : (o : Option (Option ℕ)) (b : Bool) → starts_or o b ≡ false → (o ≡ Some None) × (b ≡ false)
unstarted None b e = cc
unstarted (Some None) b e = (refl, e)
unstarted (Some (Some i)) b e = cc

none-is : (o : Option ℕ) → is_some o ≡ false → o ≡ None
none-is None e = refl
none-is (Some i) e = cc

-- what they are given is nothing
pub there-given : (h : HostSteps) (xs : List State) (found : List Found) → found ≡ map found_there xs → AreGiven h found
there-given h xs found is i f at =
    let s = from-map found_there xs f (subst (λ fs. Contains fs f) is (at-contains found f i at)) in
    subst (λ (e : Found). IsGiven h found e e.next) s.2 refl

and-false : (r f : Bool) → r ≡ false → (r && f) ≡ false
and-false r f e = ap (λ b. b && f) e

module _ (h : HostSteps) (q : Sought) (k : Level) (asked : is_at_least h.least k ≡ true) where
  abbrev g : Steps State
  g = kept_steps h q

  -- ---- No step leads from a user that no block on the host lists which raises

  quiet-mute :
      (s : State) (u : Person) → person_of h.directory.now h.groups.now s ≡ Some u →
      list_any (λ b. raises_for h.checked.now h.least u b && is_for h.checked.now h.host.now b) h.blocks.now ≡ false →
      g.goal s ≡ false → IsMute g h.least s
  quiet-mute s u is none away = (
    away,
    λ t l above. ap (λ o. is_at_least l (level_for q.counted
        (given_between h.checked.now h.directory.now h.host.now o (slice_get h.directory.now.people t.user)
        (group_at h.groups.now t.added)))) is
        ∙ weak-level h.least
        (given_between h.checked.now h.directory.now h.host.now (Some u) (slice_get h.directory.now.people t.user)
        (group_at h.groups.now t.added)) h.listed
        (quiet-between h.checked.now h.directory.now h.host.now h.least u h.blocks.now h.tied h.listed none
        (slice_get h.directory.now.people t.user) (group_at h.groups.now t.added)) q.counted l above,
  )

  unknown-mute : (s : State) → person_of h.directory.now h.groups.now s ≡ None → g.goal s ≡ false → IsMute g h.least s
  unknown-mute s none away = (
    away,
    λ t l above. ap (λ o. is_at_least l (level_for q.counted
        (given_between h.checked.now h.directory.now h.host.now o (slice_get h.directory.now.people t.user)
        (group_at h.groups.now t.added)))) none
        ∙ weak-level h.least
        (given_between h.checked.now h.directory.now h.host.now None (slice_get h.directory.now.people t.user)
        (group_at h.groups.now t.added)) h.listed (weak-nothing h.least h.listed) q.counted l above,
  )

  silent-mute :
      (s : State) → IsSilent h.checked.now h.directory.now h.groups.now h.least h.blocks.now s → g.goal s ≡ false → IsMute g h.least s
  silent-mute s silent away = go (person_of h.directory.now h.groups.now s) refl
    where
      go : (o : Option Person) → person_of h.directory.now h.groups.now s ≡ o → IsMute g h.least s
      go None is = unknown-mute s is away
      go (Some u) is =
          quiet-mute s u is
          (any-weaker (raises_for h.checked.now h.least u)
          (λ b. raises_for h.checked.now h.least u b && is_for h.checked.now h.host.now b)
          (λ b. and-false (raises_for h.checked.now h.least u b) (is_for h.checked.now h.host.now b)) h.blocks.now (silent u is)) away

  unheard-mute :
      (c : Candidate) → IsCandidate h c → list_any (λ i. slice_index_or h.on.items i false) c.strong.items ≡ false
      → g.goal c.state ≡ false → IsMute g h.least c.state
  unheard-mute c is none away =
      quiet-mute c.state c.person is.person
      (sym (any-are (raises_for h.checked.now h.least c.person) (is_for h.checked.now h.host.now)
      (λ i. slice_index_or h.on.items i false) h.blocks.now
      (λ i b at. ap (λ xs. slice_index_or xs i false) h.here ∙ answer-at (is_for h.checked.now h.host.now) h.blocks.now i b at))
      ∙ sym (ap (list_any (λ i. slice_index_or h.on.items i false)) is.strong) ∙ none) away

  no-step-counts :
      (c : Candidate) → IsCandidate h c → may_count h.on.items h.blocks.now h.least q.counted c.listed.items ≡ false →
      g.goal c.state ≡ false → IsMute g h.least c.state
  no-step-counts c is none away = (
    away,
    λ t l above. ap (λ o. is_at_least l (level_for q.counted
        (given_between h.checked.now h.directory.now h.host.now o (slice_get h.directory.now.people t.user)
        (group_at h.groups.now t.added)))) is.person
        ∙ uncounted h c is q.counted l none above (slice_get h.directory.now.people t.user) (group_at h.groups.now t.added),
  )

  mute-stuck : (s : State) → IsMute g h.least s → IsStuck g k s
  mute-stuck s mute l above n p = go p mute
    where
      go : {n : ℕ} {s : State} → Path g l n s → IsMute g h.least s → ⊥
      go (here {s} c at) mute = let away : g.goal s ≡ false = mute.0 in cc
      go (more {n} {s} {t} c step rest) mute =
          let none : is_at_least l (g.level s t) ≡ false = mute.1 t l (at-least-trans h.least k l asked above) in absurd
          (let bad : true ≡ false = sym step ∙ none in cc)

  -- ---- No chain of the steps that count leads from a user with no chain of any steps

  counted-any :
      (l : Level) (c : Counted) (a : Given) → is_at_least k l ≡ true → is_at_least l (level_for c a) ≡ true →
      is_at_least k a.level ≡ true
  counted-any l c a above step = go c step
    where
      either : (b : Bool) → is_at_least l (cond b a.level level.None) ≡ true → is_at_least k a.level ≡ true
      either true step = at-least-trans k l a.level above step
      either false step =
          at-least-trans k level.None a.level (at-least-trans k l level.None above step)
          (at-least-below level.None a.level (omega arith))

      go : (c : Counted) → is_at_least l (level_for c a) ≡ true → is_at_least k a.level ≡ true
      go counted.Any step = at-least-trans k l a.level above step
      go counted.Unasked step = either a.unasked step
      go counted.Free step = either a.free step

  any-path : (l : Level) → is_at_least k l ≡ true → {n : ℕ} {s : State} → Path g l n s → Path (any_steps h q.target) k n s
  any-path l above (here {s} c at) =
      here (All-contains (Contains (any_steps h q.target).states) h.states.now s (host-keeps h).inside c) at
  any-path l above (more {n} {s} {t} c step rest) =
      more (All-contains (Contains (any_steps h q.target).states) h.states.now s (host-keeps h).inside c)
      (counted-any l q.counted (step_given h.checked.now h.directory.now h.host.now h.groups.now s t) above step)
      (any-path l above rest)

  chainless-stuck : (s : State) → HasNoPath (any_steps h q.target) k s → IsStuck g k s
  chainless-stuck s none l above n p = none n (any-path l above p)

  unstarted-stuck : (starts : List (Option ℕ)) → HaveNoChain h q.target k starts → (s : State) → may_start starts s ≡ false
      → IsStuck g k s
  unstarted-stuck starts none s e =
      let is = unstarted (slice_get starts s.user) (is_some s.added) e in
      chainless-stuck s
      (subst (λ o. HasNoPath (any_steps h q.target) k (record { user = s.user; added = o })) (sym (none-is s.added is.1))
      (none s.user is.0))

  -- ---- The search begins

  abbrev at_goal : State → Bool
  at_goal s = s.user == q.target

  abbrev counts : Candidate → Bool
  counts c = is_counted h q.counted c

  pub start-of :
      (starts : List (Option ℕ)) (found : List Found) (left : List Candidate) → HaveNoChain h q.target k starts →
      found ≡ map found_there (filter at_goal g.states) →
      left ≡ filter (is_left h q starts) h.candidates.now → IsStartOf h q k found left
  start-of starts found left chainless finds leaves = record {
    goals = subst (All Goal) (sym finds)
        (All-map Goal found_there (filter at_goal g.states)
        (All-weaker (λ s. at_goal s ≡ true) (λ s. Goal (found_there s)) (λ s at. (refl, (refl, at))) (filter at_goal g.states)
        (filter_passes at_goal g.states)));
    found_inside = subst (All (λ f. Contains g.states f.state)) (sym finds)
        (All-map (λ f. Contains g.states f.state) found_there (filter at_goal g.states)
        (All-filter at_goal (Contains g.states) g.states (All-contains_itself g.states)));
    candidates = subst (All (IsCandidate h)) (sym leaves)
        (All-filter (is_left h q starts) (IsCandidate h) h.candidates.now h.covered.known);
    inside = subst (All (λ c. Contains g.states c.state)) (sym leaves)
        (All-filter (is_left h q starts) (λ c. Contains g.states c.state) h.candidates.now
        (All-weaker (λ c. has_state g.states c.state ≡ true) (λ c. Contains g.states c.state) (λ c has. has-in g.states c.state has)
        h.candidates.now h.covered.inside));
    away = subst (All (λ c. g.goal c.state ≡ false)) (sym leaves)
        (All-weaker (λ c. is_left h q starts c ≡ true) (λ c. g.goal c.state ≡ false)
        (λ c is. not-true (c.state.user == q.target)
        (and_parts (not (c.state.user == q.target)) (list_any (λ i. slice_index_or h.on.items i false) c.strong.items)
        (and_parts (is_heard h.on.items q.target c) (counts c)
        (and_parts (may_start starts c.state) (is_heard h.on.items q.target c && counts c) is).1).0).0)
        (filter (is_left h q starts) h.candidates.now) (filter_passes (is_left h q starts) h.candidates.now));
    covered = All-weaker (λ s. Contains g.states s × (has_state (states_of h.candidates.now) s ≡ false → Silent s)) Covered
        (λ s is. go s is.0 is.1 (at_goal s) refl (has_state (states_of h.candidates.now) s) refl) g.states
        (both-all (Contains g.states) (λ s. has_state (states_of h.candidates.now) s ≡ false → Silent s) g.states
        (All-contains_itself g.states) h.covered.covered);
    found_order = subst (λ fs. IsInOrder h.directory.now (found_states fs)) (sym finds)
        (subst (IsInOrder h.directory.now) (sym (there-states (filter at_goal g.states)))
        (subst (IsInOrder h.directory.now) (map-itself (filter at_goal g.states))
        (kept-order h.directory.now (λ s. s) at_goal g.states
        (subst (IsInOrder h.directory.now) (sym (map-itself g.states)) h.states_order))));
    left_order = subst (λ cs. IsInOrder h.directory.now (states_of cs)) (sym leaves)
        (kept-order h.directory.now (λ (c : Candidate). c.state) (is_left h q starts) h.candidates.now h.candidates_order);
  }
    where
      Goal : Found → Type 0
      Goal f = (f.steps ≡ 0) × ((f.next ≡ None) × (g.goal f.state ≡ true))

      Silent : State → Type 0
      Silent s = IsSilent h.checked.now h.directory.now h.groups.now h.least h.blocks.now s

      Covered : State → Type 0
      Covered s = Contains (found_states found) s ⊎ (Contains (states_of left) s ⊎ IsStuck g k s)

      by_candidate : (s : State) (c : Candidate) → Contains h.candidates.now c → c.state ≡ s → at_goal s ≡ false → (b : Bool)
          → list_any (λ i. slice_index_or h.on.items i false) c.strong.items ≡ b → (n : Bool) → counts c ≡ n
          → (m : Bool) → may_start starts c.state ≡ m → Covered s
      by_candidate s c inside at away true is true may true begins =
          inr (inl (subst (λ cs. Contains (states_of cs) s) (sym leaves)
          (subst (Contains (states_of (filter (is_left h q starts) h.candidates.now))) at
          (to-map (λ (c : Candidate). c.state) (filter (is_left h q starts) h.candidates.now) c
          (in-filter (is_left h q starts) h.candidates.now c inside
          (ap (λ m. m && (is_heard h.on.items q.target c && counts c)) begins
          ∙ ap (λ t. (not (t.user == q.target) && list_any (λ i. slice_index_or h.on.items i false) c.strong.items) && counts c) at
          ∙ ap (λ a. (not a && list_any (λ i. slice_index_or h.on.items i false) c.strong.items) && counts c) away
          ∙ ap (λ a. a && counts c) is ∙ may))))))
      by_candidate s c inside at away b is n may false begins =
          inr (inr (subst (IsStuck g k) at (unstarted-stuck starts chainless c.state begins)))
      by_candidate s c inside at away true is false may true begins =
          inr (inr (subst (IsStuck g k) at (mute-stuck c.state
          (no-step-counts c (All-contains (IsCandidate h) h.candidates.now c h.covered.known inside)
          (neither (h.few && is_at_least level.AllBut h.least)
          (may_count h.on.items h.blocks.now h.least q.counted c.listed.items) may).1
          (ap g.goal at ∙ away)))))
      by_candidate s c inside at away false is n may true begins =
          inr (inr (subst (IsStuck g k) at (mute-stuck c.state
          (unheard-mute c (All-contains (IsCandidate h) h.candidates.now c h.covered.known inside) is (ap g.goal at ∙ away)))))

      go :
          (s : State) → Contains g.states s → (has_state (states_of h.candidates.now) s ≡ false → Silent s) → (b : Bool) → at_goal s ≡ b →
          (c : Bool) → has_state (states_of h.candidates.now) s ≡ c → Covered s
      go s inside silent true at c has =
          inl (subst (λ fs. Contains (found_states fs) s) (sym finds)
          (subst (λ xs. Contains xs s) (sym (there-states (filter at_goal g.states))) (in-filter at_goal g.states s inside at)))
      go s inside silent false away true has =
          let c = from-map (λ (c : Candidate). c.state) h.candidates.now s (has-in (states_of h.candidates.now) s has) in
          by_candidate s c.0 c.1 c.2 away (list_any (λ i. slice_index_or h.on.items i false) c.0.strong.items) refl (counts c.0) refl
          (may_start starts c.0.state) refl
      go s inside silent false away false none = inr (inr (mute-stuck s (silent-mute s (silent none) away)))

  pub start-search : (l : Level) → is_at_least k l ≡ true → (found : List Found) (left : List Candidate) → IsStartOf h q k found left
      → IsSearch h.directory.now g k l 0 found (states_of left)
  start-search l enough found left start = record {
    level = enough;
    right = All-weaker (λ f. ((f.steps ≡ 0) × ((f.next ≡ None) × (g.goal f.state ≡ true))) × Contains g.states f.state) (IsFound g l)
        (λ f is. record {
          inside = is.1;
          path = (zero, here is.1 is.0.1.1);
          shortest = λ n p. let none = is.0.0 in omega (arith, none);
        }) found
        (both-all (λ f. (f.steps ≡ 0) × ((f.next ≡ None) × (g.goal f.state ≡ true))) (λ f. Contains g.states f.state) found
        start.goals start.found_inside);
    linked = λ i f at. let is = goal_at i f at in subst (IsLinked g l found i f) (sym is.1.0) (is.1.1, is.0);
    covered = λ s c.
        All-contains (λ s. Contains (found_states found) s ⊎ (Contains (states_of left) s ⊎ IsStuck g k s)) g.states s
        start.covered c;
    inside = All-map (Contains g.states) (λ (c : Candidate). c.state) left start.inside;
    away = All-map (λ s. g.goal s ≡ false) (λ (c : Candidate). c.state) left start.away;
    drawn = λ n d inside j f less at. absurd (omega (arith, less));
    depth = 0;
    before = λ i f less at. absurd (omega (arith, less));
    after = λ i f from at. (goal_at i f at).0;
    first = λ i next j f e at is less at_j. absurd (let end = (goal_at i f at).1.0 in let bad : Some next ≡ None = sym is ∙ end in cc);
    rising = λ i j f e less at_i at_j. let none = (goal_at i f at_i).0 in omega (arith, none);
    sorted = λ i j f e less at_i at_j same.
        start.found_order i j f.state e.state less
        (map-at (λ (f : Found). f.state) found i f at_i) (map-at (λ (f : Found). f.state) found j e at_j);
    waiting = start.left_order;
  }
    where
      goal_at : (i : ℕ) (f : Found) → slice_get found i ≡ Some f → (f.steps ≡ 0) × ((f.next ≡ None) × (g.goal f.state ≡ true))
      goal_at i f at =
          All-contains (λ (f : Found). (f.steps ≡ 0) × ((f.next ≡ None) × (g.goal f.state ≡ true))) found f start.goals
          (at-contains found f i at)

-- the states at the goal have no steps
pub there-deep : (xs : List State) (found : List Found) → found ≡ map found_there xs → AreDeep found
there-deep xs found is i f at =
    let s = from-map found_there xs f (subst (λ fs. Contains fs f) is (at-contains found f i at)) in
    let none : f.steps ≡ 0 = ap (λ (f : Found). f.steps) (sym s.2) in
    omega (arith, none)
