-- The chain that is chosen asks for no more than any of its level, and has no more steps than those that ask for no more.
use Rattle.std.proofs.Common.{◌≡◌, ◌<◌, ◌≤◌, ◌∙◌, ◌⊎◌, ℕ, true, List, ap, arith, refl, length, subst, sym}
use Rattle.std.proofs.Common.{Option, Some, None, inl, inr}
use Rattle.std.specs.Prelude.{MatchOption, slice_get}
use Rattle.std.specs.List.{Contains}
use Rattle.std.proofs.lemmas.Bool.{cases_lt}
use Rattle.std.proofs.lemmas.List.Elements.{All-contains}
use Rattle.review_roots.specs.declared.given.Counted.{Counted}
use Rattle.review_roots.specs.declared.given.Counted.TheVariants as counted
use Rattle.review_roots.specs.declared.host.HostSteps.{HostSteps}
use Rattle.review_roots.specs.declared.level.Level.{Level}
use Rattle.review_roots.specs.declared.level.Level.TheVariants as level
use Rattle.review_roots.specs.declared.chains.Chains.{Chains}
use Rattle.review_roots.specs.declared.chains.Levels.{Levels}
use Rattle.review_roots.specs.declared.search.Found.{Found}
use Rattle.review_roots.specs.declared.search.Sought.{Sought}
use Rattle.review_roots.specs.declared.state.State.{State}
use Rattle.review_roots.specs.declared.way.Way.{Way}
use Rattle.review_roots.specs.Sought.{any_steps, free_steps, steps_of}
use Rattle.review_roots.specs.Chains.{HasNoPath, HasPath, LeadsAlong, Path}
use Rattle.review_roots.specs.Body.Found.{AreFound, AreLevels, AreOrdered, IsBest, IsComplete, IsFound, IsFoundAt, IsLower}
use Rattle.review_roots.specs.Body.Found.{any_sought, found_states, lower_found}
use Rattle.review_roots.specs.Ranks.{is_at_least, rank}
use Rattle.review_roots.specs.States.{is_start, state_with}
use Rattle.review_roots.specs.Ways.{IsChain, IsLeading, IsWay, cost_along}
use Rattle.review_roots.proofs.ChainLemmas.{chains-are-paths}
use Rattle.review_roots.proofs.EaseLemmas.{asks-perhaps, chain-asks-most, counted-leads, little-leads, most_of}
use Rattle.review_roots.proofs.KeptLemmas.{host-keeps}
use Rattle.review_roots.proofs.PathLemmas.{no-root}
use Rattle.review_roots.proofs.RootLemmas.{start-is, states-have}
use Rattle.review_roots.proofs.SearchLemmas.{at-least-below, at-least-trans, from-map}

module _
    (h : HostSteps) (target : ℕ) (l : Level) (enough : is_at_least h.least l ≡ true) (user : ℕ)
    (known : user < length h.directory.now.people)
  where
    abbrev start : State
    start = state_with None user

    start-state : Contains (any_steps h target).states start
    start-state = states-have (length h.directory.now.people) (length h.groups.now) user known

    listed-too : is_at_least level.Listed l ≡ true
    listed-too = at-least-trans level.Listed h.least l h.listed enough

    -- without an index there is no chain
    pub none-of :
        (q : Sought) (found : List Found) → AreFound (steps_of h q) h.states.now l found → IsFoundAt found user None →
        HasNoPath (steps_of h q) l start
    none-of q found are none = no-root h q l found user are known none

    -- the chain of the found state at the index is one of the user
    pub chosen :
        (q : Sought) (xs found : List Found) (k : ℕ) (w : Way)
        (is : (q : Sought) (f : Found) → AreFound (steps_of h q) h.states.now l xs → AreOrdered h q l xs → slice_get xs k ≡ Some f
        → IsChain h q f.state w) →
        xs ≡ found → AreFound (steps_of h q) h.states.now l found → AreOrdered h q l found → IsFoundAt found user (Some k)
        → IsChain h q start w
    chosen q xs found k w is same are order (f, (at, begins)) =
        subst (λ s. IsChain h q s w) (start-is user f.state begins)
        (is q f (subst (AreFound (steps_of h q) h.states.now l) (sym same) are) (subst (AreOrdered h q l) (sym same) order)
        (ap (λ (ys : List Found). slice_get ys k) same ∙ at))

    module _ (best : IsBest h target l user) (w : Way) (leveled : w.level ≡ l) where
      leads-at : (k : Counted) → IsChain h (record { target = target; counted = k }) start w
          → LeadsAlong (steps_of h (record { target = target; counted = k })) l start w.chain.items
      leads-at k is =
          subst (λ m. LeadsAlong (steps_of h (record { target = target; counted = k })) m start w.chain.items) leveled is.leads

      asks-most : (k : Counted) → IsChain h (record { target = target; counted = k }) start w
          → cost_along h user start w.chain.items ≤ most_of k
      asks-most k is = chain-asks-most h (is_start user) target l listed-too k start w.chain.items (leads-at k is)

      -- no chain has a better level
      pub best-level : (m : Level) → HasPath (any_steps h target) m start → is_at_least m w.level ≡ true
      best-level m p = subst (λ n. is_at_least m n ≡ true) (sym leveled) (go (cases_lt (rank l) (rank m)))
        where
          go : (rank l < rank m) ⊎ (rank m ≤ rank l) → is_at_least m l ≡ true
          go (inl better) = absurd (best m better p.0 p.1)
          go (inr worse) = at-least-below m l worse

      pub leading-at : (ts : List State) → IsLeading h target w.level start ts → IsLeading h target l start ts
      leading-at ts leading = subst (λ m. IsLeading h target m start ts) leveled leading

      -- a chain of steps that count is the one that is sought, where none of its level asks for less
      way-with : (k : Counted) → IsChain h (record { target = target; counted = k }) start w →
          ((ts : List State) → IsLeading h target l start ts → cost_along h user start w.chain.items ≤ cost_along h user start ts) →
          IsWay h target h.least start w
      way-with k is easy = record {
        inside = is.inside;
        leads = subst (λ m. LeadsAlong (any_steps h target) m start w.chain.items) (sym leveled)
            (counted-leads h (is_start user) target l listed-too k start w.chain.items (leads-at k is));
        best = best-level;
        enough = subst (λ m. is_at_least h.least m ≡ true) (sym leveled) enough;
        by = is.by;
        password = is.password;
        marks = is.marks;
        easiest = λ ts leading. easy ts (leading-at ts leading);
        shortest = λ ts leading less.
            let leading' = leading-at ts leading in
            is.shortest (length ts)
            (subst (λ m. Path (steps_of h (record { target = target; counted = k })) m (length ts) start) (sym leveled)
            (chains-are-paths State (steps_of h (record { target = target; counted = k })) l start ts start-state leading'.inside
            (counts ts leading' less)));
        first = λ ts leading less few.
            let leading' = leading-at ts leading in
            is.first ts leading'.inside
            (subst (λ m. LeadsAlong (steps_of h (record { target = target; counted = k })) m start ts) (sym leveled)
            (counts ts leading' less)) few;
      }
        where
          counts : (ts : List State) → IsLeading h target l start ts → cost_along h user start ts ≤ cost_along h user start w.chain.items
              → LeadsAlong (steps_of h (record { target = target; counted = k })) l start ts
          counts ts leading less =
              let most = asks-most k is in
              little-leads h (is_start user) target l k start ts leading.leads (omega (arith, most, less))

      pub way-free : IsChain h (record { target = target; counted = counted.Free }) start w → IsWay h target h.least start w
      way-free is = way-with counted.Free is (λ ts leading. let none = asks-most counted.Free is in omega (arith, none))

      pub way-unasked :
          HasNoPath (free_steps h target) l start → IsChain h (record { target = target; counted = counted.Unasked }) start w →
          IsWay h target h.least start w
      way-unasked free is = way-with counted.Unasked is (λ ts leading.
          let most = asks-most counted.Unasked is in
          let some = asks-perhaps h (is_start user) target l start start-state free ts leading in
          omega (arith, most, some))

      -- a chain of any steps, where each asks for more than one's own at the first step
      pub way-any :
          ((ts : List State) → IsLeading h target l start ts → 3 ≤ cost_along h user start ts) → IsChain h (any_sought target) start w →
          IsWay h target h.least start w
      way-any each is = way-with counted.Any is (λ ts leading.
          let most = asks-most counted.Any is in
          let more = each ts leading in
          omega (arith, most, more))

-- ---- From level to level

module _ (h : HostSteps) (target user : ℕ) (known : user < length h.directory.now.people) where
  abbrev first : State
  first = state_with None user

  -- who is not found at a level has no chain of a lower one either, if that finds nobody else
  none-lower :
      (m l : Level) (above : List Found) → AreFound (any_steps h target) h.states.now m above → HasNoPath (any_steps h target) m first →
      IsComplete (any_steps h target) h.states.now l above → HasNoPath (any_steps h target) l first
  none-lower m l above are none complete = go (complete first ((host-keeps h).starts user known))
    where
      go : Contains (found_states above) first ⊎ HasNoPath (any_steps h target) l first → HasNoPath (any_steps h target) l first
      go (inl there) =
          let f = from-map (λ (f : Found). f.state) above first there in
          let path = (All-contains (IsFound (any_steps h target) m) above f.0 are.right f.1).path in
          absurd (none path.0 (subst (Path (any_steps h target) m path.0) f.2 path.1))
      go (inr away) = away

  module _ (x : Levels) (are : AreLevels h target x) (none : HasNoPath (any_steps h target) level.All first) where
    pub none-all-but : x.all_but ≡ None → is_at_least h.least level.AllBut ≡ true → HasNoPath (any_steps h target) level.AllBut first
    none-all-but is asked =
        none-lower level.All level.AllBut x.all.any.items are.all.any none
        (subst (IsLower h target level.AllBut x.all.any.items) is are.all_but asked)

    pub best-all-but : IsBest h target level.AllBut user
    best-all-but level.None less = absurd (omega (arith, less))
    best-all-but level.Listed less = absurd (omega (arith, less))
    best-all-but level.AllBut less = absurd (omega (arith, less))
    best-all-but level.All less = none

    module _ (none' : is_at_least h.least level.AllBut ≡ true → HasNoPath (any_steps h target) level.AllBut first) where
      pub none-listed : x.listed ≡ None → is_at_least h.least level.Listed ≡ true → HasNoPath (any_steps h target) level.Listed first
      none-listed is asked = go x.all_but are.all_but (subst (IsLower h target level.Listed
          (lower_found x.all.any.items x.all_but)) is are.listed)
        where
          go :
              (o : Option Chains) → IsLower h target level.AllBut x.all.any.items o →
              (is_at_least h.least level.Listed ≡ true
              → IsComplete (any_steps h target) h.states.now level.Listed (lower_found x.all.any.items o)) →
              HasNoPath (any_steps h target) level.Listed first
          go None lower complete = none-lower level.All level.Listed x.all.any.items are.all.any none (complete asked)
          go (Some c) lower complete =
              none-lower level.AllBut level.Listed c.any.items lower.any (none' lower.level) (complete asked)

      pub best-listed : is_at_least h.least level.Listed ≡ true → IsBest h target level.Listed user
      best-listed asked level.None less = absurd (omega (arith, less))
      best-listed asked level.Listed less = absurd (omega (arith, less))
      best-listed asked level.AllBut less = none' (at-least-trans h.least level.Listed level.AllBut asked refl)
      best-listed asked level.All less = none

      -- so there is none of the least level
      pub none-least :
          (is_at_least h.least level.Listed ≡ true → HasNoPath (any_steps h target) level.Listed first) →
          HasNoPath (any_steps h target) h.least first
      none-least none_listed = go h.least refl
        where
          go : (m : Level) → h.least ≡ m → HasNoPath (any_steps h target) h.least first
          go level.None is = absurd (let bad : is_at_least level.Listed level.None
              ≡ true = ap (is_at_least level.Listed) (sym is) ∙ h.listed in cc)
          go level.Listed is =
              subst (λ m. HasNoPath (any_steps h target) m first) (sym is) (none_listed (ap (λ m. is_at_least m level.Listed) is))
          go level.AllBut is =
              subst (λ m. HasNoPath (any_steps h target) m first) (sym is) (none' (ap (λ m. is_at_least m level.AllBut) is))
          go level.All is = subst (λ m. HasNoPath (any_steps h target) m first) (sym is) none

-- what holds where there is nothing may be weakened
pub match-weaker : {X : Type 0} (o : Option X) (P P' : Type 0) (Q : X → Type 0) → (P → P') → MatchOption o P Q → MatchOption o P' Q
match-weaker None P P' Q weaker is = weaker is
match-weaker (Some x) P P' Q weaker is = is
