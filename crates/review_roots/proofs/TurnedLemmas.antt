-- A chain of which the first step alone asks is a step of any kind to where a chain begins whose steps may all go without a password.
use Rattle.std.proofs.Common.{◌≡◌, ◌<◌, ◌≤◌, ◌+◌, ◌∙◌, ◌⊎◌, ◌&&◌, ◌==◌, ℕ, suc, Bool, true, false, not, List, [], ◌∷◌, ◌++◌}
use Rattle.std.proofs.Common.{ap, arith, get_or, inl, inr, length, length-append, map, refl, subst, sym, Option, Some, None}
use Rattle.std.proofs.Common.{Err, IfOk, Ok, Result}
use Rattle.std.specs.Prelude.{All, filter, is_some, slice_get}
use Rattle.std.specs.List.{Contains, filter_map}
use Rattle.std.specs.Ordering.{is_gt}
use Rattle.std.proofs.lemmas.Bool.{cases_lt, eqb-true}
use Rattle.std.proofs.lemmas.List.Elements.{All-cons, All-contains, All-head, All-nil, All-tail, Contains-append_right}
use Rattle.std.proofs.lemmas.Option.{slice_get_within}
use Rattle.sudo_base.proofs.Lists.{slice_get-append-left}
use Rattle.sudo_match.specs.KnownRows.{KnownRows}
use Rattle.review_roots.specs.declared.candidate.Candidate.{Candidate}
use Rattle.review_roots.specs.declared.given.Counted.TheVariants as counted
use Rattle.review_roots.specs.declared.host.HostSteps.{HostSteps}
use Rattle.review_roots.specs.declared.level.Level.{Level}
use Rattle.review_roots.specs.declared.level.Level.TheVariants as level
use Rattle.review_roots.specs.declared.search.Found.{Found}
use Rattle.review_roots.specs.declared.search.Sought.{Sought}
use Rattle.review_roots.specs.declared.state.State.{State}
use Rattle.review_roots.specs.declared.way.Way.{Way}
use Rattle.review_roots.specs.Body.Candidates.{states_of}
use Rattle.review_roots.specs.Body.Found.{AreFound, AreGiven, AreOrdered, AreStarts, AreTurned, IsBest, IsFound, IsFoundAt}
use Rattle.review_roots.specs.Body.Found.{IsLinked, IsStuck, PointBack, HaveNoChain, aims_at, any_sought, first_of, found_states}
use Rattle.review_roots.specs.Body.Found.{is_asked, is_left, kept_steps, unasked_sought, found_there}
use Rattle.review_roots.specs.Body.Kept.{AreAlike, AreKept}
use Rattle.review_roots.specs.Body.Passing.{IsAlong, IsTraced}
use Rattle.review_roots.specs.Chains.{Steps, Path, here, more, HasNoPath, LeadsAlong}
use Rattle.review_roots.specs.Order.{is_behind, state_cmp}
use Rattle.review_roots.specs.Ranks.{is_at_least}
use Rattle.review_roots.specs.Sought.{any_steps, unasked_steps}
use Rattle.review_roots.specs.States.{is_start, state_with}
use Rattle.review_roots.specs.Ways.{IsLeading, IsWay, asked_by, cost_along, first_row, marks_along, password_along, password_rank, step_on}
use Rattle.review_roots.specs.Ways.{worst_along}
use Rattle.review_roots.proofs.ChainLemmas.{chains-are-paths}
use Rattle.review_roots.proofs.EaseLemmas.{asks-always, chain-asks-most, counted-leads, counted-step, first-most, own-most, rest-most}
use Rattle.review_roots.proofs.EaseLemmas.{step-unasked, worse-most}
use Rattle.review_roots.proofs.FirstLemmas.{first-along, first-states, one-place}
use Rattle.review_roots.proofs.FreeLemmas.{best-level, leading-at}
use Rattle.review_roots.proofs.KeptLemmas.{blocks_for, host-keeps}
use Rattle.review_roots.proofs.LayerLemmas.{IsFresh, get-append-split, pick-none, pick-some, pick-state, spread-given}
use Rattle.review_grants.proofs.ItemLemmas.{from-filter}
use Rattle.review_roots.proofs.OrderLemmas.{behind-itself, behind-trans, from-picked, to-picked}
use Rattle.review_roots.proofs.PathLemmas.{AreSame, HasWithin, alike-turn, itself, kept-path, plain-path, step-same}
use Rattle.review_roots.proofs.RootLemmas.{start-is, starts, states-have}
use Rattle.review_roots.proofs.SearchLemmas.{at-contains, at-least-itself, at-least-trans, contains-at}
use Rattle.review_roots.proofs.SearchLemmas.{from-map, get-append, in-filter, point-back}
use Rattle.review_roots.proofs.StartLemmas.{start-of}

-- ---- The chain of a found state

-- a chain that begins among the first found states stays among these
along-first :
    (found others : List Found) (i : ℕ) (chain : List State) → PointBack found → i < length found → IsAlong (found ++ others) i chain →
    IsAlong found i chain
along-first found others i [] back within (f, (at, none)) = (f, (sym (slice_get-append-left found others i within) ∙ at, none))
along-first found others i (s ∷ ss) back within (f, next, t, at, is, to, this, along) =
    let here : slice_get found i ≡ Some f = sym (slice_get-append-left found others i within) ∙ at in
    let before : next < i = back i next f here is in
    let inside : next < length found = omega (arith, before, within) in
    let there : slice_get found next ≡ Some t = sym (slice_get-append-left found others next inside) ∙ to in
    (f, next, t, here, is, there, this, along-first found others next ss back inside along)

module _ (g : Steps State) (states : List State) (l : Level) (found : List Found) (are : AreFound g states l found) where
  -- the chain of a found state leads to the goal, with as many steps as the state counts
  along-leads :
      (i : ℕ) (f : Found) (chain : List State) → slice_get found i ≡ Some f → IsAlong found i chain →
      LeadsAlong g l f.state chain × (f.steps ≡ length chain)
  along-leads i f [] at (f', (at', none)) =
      let same : f' ≡ f = (let e : Some f' ≡ Some f = sym at' ∙ at in cc) in
      let link = subst (IsLinked g l found i f) (ap (λ (x : Found). x.next) (sym same) ∙ none) (are.linked i f at) in
      (link.0, link.1)
  along-leads i f (s ∷ ss) at (f', next, t, at', is, to, this, along) =
      let same : f' ≡ f = (let e : Some f' ≡ Some f = sym at' ∙ at in cc) in
      let link = subst (IsLinked g l found i f) (ap (λ (x : Found). x.next) (sym same) ∙ is) (are.linked i f at) in
      let one : link.0 ≡ t = (let e : Some link.0 ≡ Some t = sym link.1.there ∙ to in cc) in
      let rest = along-leads next t ss to along in
      let steps = link.1.steps ∙ ap (λ (x : Found). x.steps + 1) one in
      let tail = rest.1 in (
        (
          ap (λ x. is_at_least l (g.level f.state x)) (sym (ap (λ (x : Found). x.state) one ∙ this)) ∙ link.1.step,
          subst (λ x. LeadsAlong g l x ss) this rest.0,
        ),
        omega (arith, steps, tail),
      )

  -- the states of that chain are states of the steps
  along-inside : (i : ℕ) (chain : List State) → IsAlong found i chain → All (Contains g.states) chain
  along-inside i [] along = All-nil (Contains g.states)
  along-inside i (s ∷ ss) (f, next, t, at, is, to, this, along) =
      All-cons (Contains g.states) s ss
      (subst (Contains g.states) this (All-contains (IsFound g l) found t are.right (at-contains found t next to)).inside)
      (along-inside next ss along)

-- ---- Chains of which the first step alone asks

no-items : {X : Type 0} (xs : List X) → length xs ≤ 0 → xs ≡ []
no-items [] e = refl
no-items (x ∷ xs) e = absurd (omega (arith, e))

module _
    (h : HostSteps) (target user : ℕ) (l : Level) (enough : is_at_least h.least l ≡ true) (known : user < length h.directory.now.people)
    (none : HasNoPath (unasked_steps h target) l (state_with None user)) (found : List Found)
    (are : AreFound (unasked_steps h target) h.states.now l found) (order : AreOrdered h (unasked_sought target) l found)
  where
    abbrev start : State
    start = state_with None user

    abbrev d : KnownRows
    d = h.directory.now

    abbrev any_q : Sought
    any_q = any_sought target

    abbrev unasked_q : Sought
    unasked_q = unasked_sought target

    abbrev states : List State
    states = (any_steps h target).states

    keeps : AreKept h.checked.now (blocks_for h) h.directory.now h.groups.now h.states.now
    keeps = host-keeps h

    start-state : Contains states start
    start-state = states-have (length h.directory.now.people) (length h.groups.now) user known

    kept_start : Contains h.states.now start
    kept_start = keeps.starts user known

    listed : is_at_least level.Listed l ≡ true
    listed = at-least-trans level.Listed h.least l h.listed enough

    -- the last step of a chain from the user without an added group, and the chain behind it, whose steps may go without a password
    record HasTurn (ts : List State) : Type 0 where
      front : List State
      to : State
      rest : List State
      is : ts ≡ front ++ to ∷ rest
      step : is_at_least l (step_on h start to).level ≡ true
      leads : LeadsAlong (unasked_steps h target) l to rest
      in_to : Contains states to
      in_rest : All (Contains states) rest

    split :
        (s : State) (ts : List State) → All (Contains states) ts → LeadsAlong (any_steps h target) l s ts →
        password_rank (worst_along h (is_start user) s ts) ≤ 2 → LeadsAlong (unasked_steps h target) l s ts ⊎ HasTurn ts
    split s [] inside leads most = inl leads
    split s (t ∷ ts) inside leads most =
        behind (split t ts (All-tail (Contains states) t ts inside) leads.1 (rest-most h (is_start user) target l s t ts 2 most))
      where
        behind : LeadsAlong (unasked_steps h target) l t ts ⊎ HasTurn ts
            → LeadsAlong (unasked_steps h target) l s (t ∷ ts) ⊎ HasTurn (t ∷ ts)
        behind (inr turn) = inr (record {
          front = t ∷ turn.front;
          to = turn.to;
          rest = turn.rest;
          is = ap (λ us. t ∷ us) turn.is;
          step = turn.step;
          leads = turn.leads;
          in_to = turn.in_to;
          in_rest = turn.in_rest;
        })
        behind (inl rest) = by (is_start user s) refl
          where
            by : (b : Bool) → is_start user s ≡ b → LeadsAlong (unasked_steps h target) l s (t ∷ ts) ⊎ HasTurn (t ∷ ts)
            by true e = inr (record {
              front = [];
              to = t;
              rest = ts;
              is = refl;
              step = ap (λ x. is_at_least l (step_on h x t).level) (sym (start-is user s e)) ∙ leads.0;
              leads = rest;
              in_to = All-head (Contains states) t ts inside;
              in_rest = All-tail (Contains states) t ts inside;
            })
            by false e = inl (
              step-unasked h (is_start user) target l s t e (first-most h (is_start user) target l s t ts 2 most) leads.0,
              rest,
            )

    -- a chain that asks for no more than one's own at the first step has a turn
    turn-of : (ts : List State) → IsLeading h target l start ts → cost_along h user start ts ≤ 2 → HasTurn ts
    turn-of ts leading most = go (split start ts leading.inside leading.leads most)
      where
        go : LeadsAlong (unasked_steps h target) l start ts ⊎ HasTurn ts → HasTurn ts
        go (inr turn) = turn
        go (inl leads) = absurd (none (length ts)
            (chains-are-paths State (unasked_steps h target) l start ts start-state leading.inside leads))

    -- the user has a step to a found state with at most n steps that does not go behind the given state
    record IsReached (to : State) (n : ℕ) : Type 0 where
      at : ℕ
      by : Found
      there : slice_get found at ≡ Some by
      step : is_at_least l (step_on h start by.state).level ≡ true
      few : by.steps ≤ n
      before : is_gt (state_cmp d by.state to) ≡ false

    found-right : (i : ℕ) (f : Found) → slice_get found i ≡ Some f → IsFound (unasked_steps h target) l f
    found-right i f at = All-contains (IsFound (unasked_steps h target) l) found f are.right (at-contains found f i at)

    reached :
        (to : State) (n : ℕ) → Contains states to → is_at_least l (step_on h start to).level ≡ true →
        Path (unasked_steps h target) l n to → IsReached to n
    reached to n in_to step path = go (keeps.covers to in_to)
      where
        by_kept :
            (v : State) → Contains h.states.now v → is_gt (state_cmp d v to) ≡ false → is_at_least l (step_on h start v).level ≡ true →
            HasWithin h unasked_q h.faultless keeps l n v → IsReached to n
        by_kept v kept_v before reaches (m, (most, p)) = which (are.complete v kept_v)
          where
            path_v : Path (unasked_steps h target) l m v
            path_v = plain-path h unasked_q h.faultless keeps l p

            there_v : (e : Found) → e.state ≡ v → (k : ℕ) × (slice_get found k ≡ Some e) → IsReached to n
            there_v e same (k, at_k) = record {
              at = k;
              by = e;
              there = at_k;
              step = ap (λ x. is_at_least l (step_on h start x).level) same ∙ reaches;
              few = let short = (found-right k e at_k).shortest m (subst (Path (unasked_steps h target) l m) (sym same) path_v) in
                  omega (arith, short, most);
              before = ap (λ x. is_gt (state_cmp d x to)) same ∙ before;
            }

            which : Contains (found_states found) v ⊎ HasNoPath (unasked_steps h target) l v → IsReached to n
            which (inl in_found) =
                let e = from-map (λ (f : Found). f.state) found v in_found in there_v e.0 e.2 (contains-at found e.0 e.1)
            which (inr never) = absurd (never m path_v)

        go : (v : State) × (Contains h.states.now v × (AreAlike d h.groups.now keeps.ids to v × (is_gt (state_cmp d v to) ≡ false)))
            → IsReached to n
        go (v, (kept_v, (alike, before))) =
            which (step-same h any_q h.faultless keeps start start to v (itself h any_q h.faultless keeps start) alike)
          where
            which : AreAlike d h.groups.now keeps.ids start to
                ⊎ AreSame h any_q h.faultless keeps ((any_steps h target).level start to) ((any_steps h target).level start v)
                → IsReached to n
            which (inl same) =
                let back = alike-turn h unasked_q h.faultless keeps start to start same (itself h unasked_q h.faultless keeps start) in
                let p = kept-path h unasked_q h.faultless keeps l enough path start kept_start back in
                absurd (none p.0 (plain-path h unasked_q h.faultless keeps l p.1.1))
            which (inr level) =
                by_kept v kept_v before (sym (level l enough) ∙ step)
                (kept-path h unasked_q h.faultless keeps l enough path v kept_v alike)

    reached-by : (ts : List State) (turn : HasTurn ts) → IsReached turn.to (length turn.rest)
    reached-by ts turn =
        reached turn.to (length turn.rest) turn.in_to turn.step
        (chains-are-paths State (unasked_steps h target) l turn.to turn.rest turn.in_to turn.in_rest turn.leads)

    turn-length : (ts : List State) (turn : HasTurn ts) → length ts ≡ length turn.front + suc (length turn.rest)
    turn-length ts turn = ap length turn.is ∙ length-append turn.front (turn.to ∷ turn.rest)

    module _ (any_starts unasked_starts : List (Option ℕ)) (turned : List Found)
        (are_turned : AreTurned h target l any_starts found unasked_starts turned) where
      abbrev asked : List Candidate
      asked = filter (is_asked h target any_starts unasked_starts) h.candidates.now

      abbrev pick : Candidate → Option Found
      pick c = first_of h (aims_at any_q l 0 found) c

      -- ---- Where such a chain is found

      fresh-of :
          (i : ℕ) (f : Found) → slice_get turned i ≡ Some f → is_start user f.state ≡ true →
          (c : Candidate) × IsFresh h any_q l 0 found c f
      fresh-of i f at begins =
          go (get-append-split found (filter_map pick asked) i f (ap (λ xs. slice_get xs i) (sym are_turned) ∙ at))
        where
          go : (slice_get found i ≡ Some f) ⊎ ((k : ℕ) × ((i ≡ length found + k) × (slice_get (filter_map pick asked) k ≡ Some f)))
              → (c : Candidate) × IsFresh h any_q l 0 found c f
          go (inl old) =
              let path = (found-right i f old).path in
              absurd (none path.0 (subst (Path (unasked_steps h target) l path.0) (start-is user f.state begins) path.1))
          go (inr (k, (is, there))) =
              let c = from-picked pick asked f (at-contains (filter_map pick asked) f k there) in
              (c.0, pick-some h any_q l 0 found c.0 f c.1.1)

      module _ (i : ℕ) (f : Found) (at : slice_get turned i ≡ Some f) (begins : is_start user f.state ≡ true) where
        at_start : f.state ≡ start
        at_start = start-is user f.state begins

        module _ (c : Candidate) (r : IsFresh h any_q l 0 found c f) where
          from_start : c.state ≡ start
          from_start = sym (ap (λ (e : Found). e.state) r.is) ∙ at_start

          step_aim : is_at_least l (step_on h start r.aim.state).level ≡ true
          step_aim = ap (λ x. is_at_least l (step_on h x r.aim.state).level) (sym from_start) ∙ r.step

          not-earlier : (to : State) (n : ℕ) (e : IsReached to n) → e.at < r.at → ⊥
          not-earlier to n e less =
              let far : is_at_least l (step_on h c.state e.by.state).level ≡ false = r.first e.at e.by (omega arith) less e.there in
              let near : is_at_least l (step_on h c.state e.by.state).level ≡ true =
              ap (λ x. is_at_least l (step_on h x e.by.state).level) from_start ∙ e.step in
              let bad : true ≡ false = sym near ∙ far in cc

          -- no found state to which a step leads has a chain of fewer steps
          nearest : (to : State) (n : ℕ) (e : IsReached to n) → r.aim.steps ≤ e.by.steps
          nearest to n e = go (cases_lt e.at r.at) (cases_lt r.at e.at)
            where
              go : (e.at < r.at) ⊎ (r.at ≤ e.at) → (r.at < e.at) ⊎ (e.at ≤ r.at) → r.aim.steps ≤ e.by.steps
              go (inl less) other = absurd (not-earlier to n e less)
              go (inr from) (inl less) = order.rising r.at e.at r.aim e.by less r.there e.there
              go (inr from) (inr most) =
                  let same : r.at ≡ e.at = omega (arith, from, most) in
                  let one : r.aim ≡ e.by = (let p : Some r.aim ≡ Some e.by = sym r.there ∙ ap (slice_get found) same ∙ e.there in cc) in
                  let steps = ap (λ (x : Found). x.steps) one in
                  omega (arith, steps)

          -- among those with as few steps it is the first
          not-behind : (to : State) (n : ℕ) (e : IsReached to n) → e.by.steps ≡ r.aim.steps → is_gt (state_cmp d r.aim.state to) ≡ false
          not-behind to n e steps =
              behind-trans d r.aim.state e.by.state to (go (cases_lt e.at r.at) (cases_lt r.at e.at)) e.before
            where
              go : (e.at < r.at) ⊎ (r.at ≤ e.at) → (r.at < e.at) ⊎ (e.at ≤ r.at) → is_gt (state_cmp d r.aim.state e.by.state) ≡ false
              go (inl less) other = absurd (not-earlier to n e less)
              go (inr from) (inl less) = order.sorted r.at e.at r.aim e.by less r.there e.there (sym steps)
              go (inr from) (inr most) =
                  let same : r.at ≡ e.at = omega (arith, from, most) in
                  let one : r.aim ≡ e.by = (let p : Some r.aim ≡ Some e.by = sym r.there ∙ ap (slice_get found) same ∙ e.there in cc) in
                  ap (λ (x : Found). is_gt (state_cmp d r.aim.state x.state)) (sym one) ∙ behind-itself d r.aim.state

          shortest : (ts : List State) → IsLeading h target l start ts → cost_along h user start ts ≤ 2 → suc r.aim.steps ≤ length ts
          shortest ts leading most =
              let turn = turn-of ts leading most in
              let e = reached-by ts turn in
              let near = nearest turn.to (length turn.rest) e in
              let few = e.few in
              let all = turn-length ts turn in
              omega (arith, near, few, all)

          module _ (ss : List State) (along : IsAlong found r.at ss) where
            tail : LeadsAlong (unasked_steps h target) l r.aim.state ss × (r.aim.steps ≡ length ss)
            tail = along-leads (unasked_steps h target) h.states.now l found are r.at r.aim ss r.there along

            first-of-all :
                (ts : List State) → IsLeading h target l start ts → cost_along h user start ts ≤ 2 → length ts ≤ suc r.aim.steps →
                is_behind d (r.aim.state ∷ ss) ts ≡ false
            first-of-all ts leading most few =
                go (turn-of ts leading most)
              where
                go : HasTurn ts → is_behind d (r.aim.state ∷ ss) ts ≡ false
                go turn = subst (λ us. is_behind d (r.aim.state ∷ ss) us ≡ false) (sym whole)
                    (first-states d r.aim.state turn.to ss turn.rest (not-behind turn.to (length turn.rest) e steps)
                    (λ same. first-along h unasked_q l enough found are order ss r.at r.aim r.there along turn.rest turn.in_rest
                    (subst (λ x. LeadsAlong (unasked_steps h target) l x turn.rest)
                    (sym (one-place h unasked_q l enough found are order r.aim.state turn.to (found-right r.at r.aim r.there).inside
                    turn.in_to same)) turn.leads)
                    (omega (arith, all, few))))
                  where
                    e : IsReached turn.to (length turn.rest)
                    e = reached-by ts turn

                    all : length ts ≡ length turn.front + suc (length turn.rest)
                    all = turn-length ts turn

                    steps : e.by.steps ≡ r.aim.steps
                    steps =
                        let near = nearest turn.to (length turn.rest) e in
                        let least = e.few in
                        omega (arith, near, least, all, few)

                    whole : ts ≡ turn.to ∷ turn.rest
                    whole =
                        let near = nearest turn.to (length turn.rest) e in
                        let least = e.few in
                        turn.is ∙ ap (λ us. us ++ turn.to ∷ turn.rest) (no-items turn.front (omega (arith, near, least, all, few)))

            costs-two : cost_along h user start (r.aim.state ∷ ss) ≤ 2
            costs-two =
                let rest = chain-asks-most h (is_start user) target l listed counted.Unasked r.aim.state ss tail.0 in
                worse-most (asked_by (step_on h start r.aim.state) (is_start user start)) (worst_along h (is_start user) r.aim.state ss) 2
                (own-most (step_on h start r.aim.state) (is_start user start) (starts user)) (omega (arith, rest))

            -- the chain of the found state is the one that is sought
            way-along :
                (w : Way) → w.level ≡ l → IsBest h target l user → IsTraced h turned i w → w.chain.items ≡ r.aim.state ∷ ss →
                IsWay h target h.least start w
            way-along w leveled best traced is = record {
              inside = subst (All (Contains states)) (sym is)
                  (All-cons (Contains states) r.aim.state ss (found-right r.at r.aim r.there).inside
                  (along-inside (unasked_steps h target) h.states.now l found are r.at ss along));
              leads = subst (λ m. LeadsAlong (any_steps h target) m start w.chain.items) (sym leveled)
                  (subst (LeadsAlong (any_steps h target) l start) (sym is) (
                    step_aim,
                    counted-leads h (is_start user) target l listed counted.Unasked r.aim.state ss tail.0,
                  ));
              best = best-level h target l enough user known best w leveled;
              enough = subst (λ m. is_at_least h.least m ≡ true) (sym leveled) enough;
              by = traced.row f at ∙ ap (λ x. first_row h x w.chain.items) at_start;
              password = traced.password f at ∙ ap (λ (x : State). password_along h x.user x w.chain.items) at_start;
              marks = traced.marks f at ∙ ap (λ x. marks_along h x w.chain.items) at_start;
              easiest = λ ts leading.
                  let leads = leading-at h target l enough user known best w leveled ts leading in
                  let always = asks-always h (is_start user) target l start start-state none ts leads in
                  omega (arith, always, two);
              shortest = λ ts leading less.
                  let least = shortest ts (leading-at h target l enough user known best w leveled ts leading) (omega (arith, less, two)) in
                  let long = ap length is in
                  let rest = tail.1 in
                  omega (arith, least, long, rest);
              first = λ ts leading less few.
                  let long = ap length is in
                  let rest = tail.1 in
                  ap (λ us. is_behind d us ts) is
                  ∙ first-of-all ts (leading-at h target l enough user known best w leveled ts leading) (omega (arith, less, two))
                  (omega (arith, few, long, rest));
            }
              where
                two : cost_along h user start w.chain.items ≤ 2
                two = subst (λ us. cost_along h user start us ≤ 2) (sym is) costs-two

        pub way-turned : (w : Way) → w.level ≡ l → IsBest h target l user → IsTraced h turned i w → IsWay h target h.least start w
        way-turned w leveled best traced = go (fresh-of i f at begins) w.chain.items refl traced.along
          where
            back : PointBack found
            back = point-back (unasked_steps h target) l found are.linked

            go :
                (c : Candidate) × IsFresh h any_q l 0 found c f → (chain : List State) → w.chain.items ≡ chain → IsAlong turned i chain →
                IsWay h target h.least start w
            go (c, r) [] is (f', (at', end)) =
                let same : f' ≡ f = (let e : Some f' ≡ Some f = sym at' ∙ at in cc) in
                let next : f.next ≡ Some r.at = ap (λ (e : Found). e.next) r.is in
                absurd (let bad : Some r.at ≡ None = sym next ∙ ap (λ (e : Found). e.next) (sym same) ∙ end in cc)
            go (c, r) (s ∷ ss) is (f', next, t, at', is_next, to, this, along) =
                way-along c r ss
                (along-first found (filter_map pick asked) r.at ss back within
                (subst (λ xs. IsAlong xs r.at ss) are_turned (subst (λ k. IsAlong turned k ss) (sym here_next) along)))
                w leveled best traced (is ∙ ap (λ x. x ∷ ss) (sym state))
              where
                within : r.at < length found
                within = slice_get_within found r.at r.aim r.there

                same : f' ≡ f
                same = let e : Some f' ≡ Some f = sym at' ∙ at in cc

                here_next : r.at ≡ next
                here_next =
                    let e : Some r.at ≡ Some next = sym (ap (λ (e : Found). e.next) r.is) ∙ ap (λ (e : Found). e.next) (sym same) ∙ is_next
                    in cc

                one : r.aim ≡ t
                one =
                    let e : Some r.aim ≡ Some t = sym (get-append found (filter_map pick asked) r.at r.aim r.there)
                    ∙ ap (λ xs. slice_get xs r.at) (sym are_turned) ∙ ap (slice_get turned) here_next ∙ to in
                    cc

                state : r.aim.state ≡ s
                state = ap (λ (e : Found). e.state) one ∙ this

      -- ---- Where none is found

      unasked-any : {n : ℕ} {s : State} → Path (kept_steps h unasked_q) l n s → Path (kept_steps h any_q) l n s
      unasked-any (here {s} c at) = here c at
      unasked-any (more {n} {s} {t} c step rest) =
          more c (counted-step counted.Unasked l (step_on h s t) listed step).1 (unasked-any rest)

      pub none-turned :
          (user ≡ target → ⊥) → HaveNoChain h target l any_starts → AreStarts found unasked_starts →
          length unasked_starts ≡ length h.directory.now.people → IsFoundAt turned user None → (ts : List State) →
          IsLeading h target l start ts → 3 ≤ cost_along h user start ts
      none-turned away chainless begin users nowhere ts leading = go (cases_lt 2 (cost_along h user start ts))
        where
          goals : List Found
          goals = map found_there (filter (λ s. s.user == target) h.states.now)

          left : List Candidate
          left = filter (is_left h any_q any_starts) h.candidates.now

          unstarted : get_or unasked_starts user None ≡ None
          unstarted = at_user (get_or unasked_starts user None) (begin user (omega (arith, known, users)))
            where
              at_user : (o : Option ℕ) → IsFoundAt found user o → o ≡ None
              at_user None is = refl
              at_user (Some k) (e, (at_k, begins)) =
                  let path = (found-right k e at_k).path in
                  absurd (none path.0 (subst (Path (unasked_steps h target) l path.0) (start-is user e.state begins) path.1))

          by_candidate :
              {to : State} {n : ℕ} → IsReached to n → (c : Candidate) → Contains left c → c.state ≡ start → ⊥
          by_candidate {to} {n} e c inside at = which (pick c) refl
            where
              both : Contains h.candidates.now c × (is_left h any_q any_starts c ≡ true)
              both = from-filter (is_left h any_q any_starts) h.candidates.now c inside

              is_one : is_asked h target any_starts unasked_starts c ≡ true
              is_one =
                  ap (λ (s : State). not (is_some s.added)
                  && (not (is_some (get_or unasked_starts s.user None)) && is_left h any_q any_starts c)) at
                  ∙ ap (λ o. not (is_some o) && is_left h any_q any_starts c) unstarted ∙ both.1

              there : Contains asked c
              there = in-filter (is_asked h target any_starts unasked_starts) h.candidates.now c both.0 is_one

              which : (o : Option Found) → pick c ≡ o → ⊥
              which None passed =
                  let far : is_at_least l (step_on h c.state e.by.state).level ≡ false =
                  pick-none h any_q l 0 found c passed e.at e.by (omega arith) e.there in
                  let near : is_at_least l (step_on h c.state e.by.state).level ≡ true =
                  ap (λ x. is_at_least l (step_on h x e.by.state).level) at ∙ e.step in
                  let bad : true ≡ false = sym near ∙ far in cc
              which (Some f) some =
                  let inside : Contains turned f = subst (λ xs. Contains xs f) (sym are_turned)
                  (Contains-append_right found (filter_map pick asked) f (to-picked pick asked c f there some)) in
                  let far : is_start user f.state ≡ false = All-contains (λ f. is_start user f.state ≡ false) turned f nowhere inside in
                  let near : is_start user f.state ≡ true =
                  ap (is_start user) (pick-state h any_q l 0 found c f some ∙ at) ∙ starts user in
                  let bad : true ≡ false = sym near ∙ far in cc

          at_goal : (f : Found) → Contains goals f → f.state ≡ start → ⊥
          at_goal f inside at =
              let s = from-map found_there (filter (λ s. s.user == target) h.states.now) f inside in
              let both = from-filter (λ s. s.user == target) h.states.now s.0 s.1 in
              away (sym (ap (λ (s : State). s.user) (ap (λ (f : Found). f.state) s.2 ∙ at)) ∙ eqb-true s.0.user target both.1)

          stuck : {to : State} {n : ℕ} → IsReached to n → IsStuck (kept_steps h any_q) l start → ⊥
          stuck e is =
              let kept = All-contains (λ f. Contains h.states.now f.state) found e.by order.kept (at-contains found e.by e.at e.there) in
              let path = (found-right e.at e.by e.there).path in
              let p = kept-path h unasked_q h.faultless keeps l enough path.1 e.by.state kept
              (itself h unasked_q h.faultless keeps e.by.state) in
              is l (at-least-itself l) (suc p.0) (more kept_start e.step (unasked-any p.1.1))

          no-turn : {to : State} {n : ℕ} → IsReached to n → ⊥
          no-turn e =
              which (All-contains (λ s. Contains (found_states goals) s ⊎ (Contains (states_of left) s ⊎ IsStuck (kept_steps h any_q) l s))
              h.states.now start (start-of h any_q l enough any_starts goals left chainless refl refl).covered kept_start)
            where
              which : Contains (found_states goals) start ⊎ (Contains (states_of left) start ⊎ IsStuck (kept_steps h any_q) l start) → ⊥
              which (inl goal) = let f = from-map (λ (f : Found). f.state) goals start goal in at_goal f.0 f.1 f.2
              which (inr (inl one)) = let c = from-map (λ (c : Candidate). c.state) left start one in by_candidate e c.0 c.1 c.2
              which (inr (inr is)) = stuck e is

          go : (2 < cost_along h user start ts) ⊎ (cost_along h user start ts ≤ 2) → 3 ≤ cost_along h user start ts
          go (inl above) = omega (arith, above)
          go (inr most) = absurd (no-turn (reached-by ts (turn-of ts leading most)))

-- ---- The list of these chains

module _ (h : HostSteps) (target : ℕ) (l : Level) (found turned : List Found) (starts unasked_starts : List (Option ℕ))
    (are : AreTurned h target l starts found unasked_starts turned) where
  abbrev those : List Candidate
  those = filter (is_asked h target starts unasked_starts) h.candidates.now

  abbrev ones : Candidate → Option Found
  ones c = first_of h (aims_at (any_sought target) l 0 found) c

  pub turned-given : AreGiven h found → AreGiven h turned
  turned-given given =
      spread-given h (any_sought target) l 0 found turned those (filter (λ c. not (is_some (ones c))) those) are refl given

  pub turned-back : PointBack found → PointBack turned
  turned-back back i next f at is = go (get-append-split found (filter_map ones those) i f (ap (λ xs. slice_get xs i) (sym are) ∙ at))
    where
      fresh : (c : Candidate) → IsFresh h (any_sought target) l 0 found c f → length found ≤ i → next < i
      fresh c r past =
          let same : next ≡ r.at = (let e : Some next ≡ Some r.at = sym is ∙ ap (λ (e : Found). e.next) r.is in cc) in
          let w = slice_get_within found r.at r.aim r.there in
          omega (arith, same, w, past)

      go : (slice_get found i ≡ Some f) ⊎ ((k : ℕ) × ((i ≡ length found + k) × (slice_get (filter_map ones those) k ≡ Some f))) → next < i
      go (inl old) = back i next f old is
      go (inr (k, (past, there))) =
          let c = from-picked ones those f (at-contains (filter_map ones those) f k there) in
          fresh c.0 (pick-some h (any_sought target) l 0 found c.0 f c.1.1) (omega (arith, past))

-- two properties of a result give a third one
pub if-both :
    {X E : Type 0} (r : Result X E) (P Q S : X → Type 0) → IfOk r P → IfOk r Q → ((x : X) → P x → Q x → S x) → IfOk r S
if-both (Ok x) P Q S p q both = both x p q
if-both (Err e) P Q S p q both = tt
