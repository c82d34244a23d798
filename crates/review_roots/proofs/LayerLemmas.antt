-- A search draws to all found states whose chains have as many steps at once: each candidate goes to the first of them to which it has
-- a step, and so has the first of its shortest chains.
use Rattle.std.proofs.Common.{◌≡◌, ◌<◌, ◌≤◌, ◌+◌, ◌-◌, ◌∙◌, ◌⊎◌, ℕ, zero, suc, Bool, true, false, not, cond, List, [], ◌∷◌, ◌++◌, ap, arith}
use Rattle.std.proofs.Common.{drop, inl, inr, length, map, refl, subst, sym, take, Option, Some, None, length-append}
use Rattle.std.specs.Prelude.{All, filter, is_some, slice_get}
use Rattle.std.specs.List.{Contains, cons_option, filter_map}
use Rattle.std.specs.Ordering.{is_gt}
use Rattle.std.proofs.lemmas.Bool.{cases_lt}
use Rattle.std.proofs.lemmas.List.{map-append}
use Rattle.std.proofs.lemmas.List.Elements.{All-append, All-contains, All-filter, All-weaker}
use Rattle.std.proofs.lemmas.List.Elements.{Contains-append_left, Contains-append_right}
use Rattle.std.proofs.lemmas.Option.{slice_get_within}
use Rattle.sudo_base.proofs.Lists.{slice_get-append-left}
use Rattle.review_roots.specs.declared.candidate.Candidate.{Candidate}
use Rattle.review_roots.specs.declared.host.HostSteps.{HostSteps}
use Rattle.review_roots.specs.declared.layer.Aimed.{Aimed}
use Rattle.review_roots.specs.declared.level.Level.{Level}
use Rattle.review_roots.specs.declared.search.Aim.{Aim}
use Rattle.review_roots.specs.declared.search.Found.{Found}
use Rattle.review_roots.specs.declared.search.Sought.{Sought}
use Rattle.review_roots.specs.declared.state.State.{State}
use Rattle.review_roots.specs.Body.Candidates.{states_of}
use Rattle.review_roots.specs.Body.Found.{AreDeep, AreFirst, AreGiven, AreLinked, AreOrdered, AreRising, AreSorted, IsCandidate}
use Rattle.review_roots.specs.Body.Found.{IsDrawn, IsFound, IsGiven}
use Rattle.review_roots.specs.Body.Found.{IsLinked, IsSearch, IsStuck, aim_of, aims_at, aims_from, first_of, found_by, found_states}
use Rattle.review_roots.specs.Body.Found.{kept_steps, reaches}
use Rattle.review_roots.specs.Chains.{Steps, Path, here, more}
use Rattle.review_roots.specs.Order.{IsInOrder, state_cmp}
use Rattle.review_roots.specs.Ranks.{is_at_least}
use Rattle.review_roots.specs.Ways.{step_on}
use Rattle.review_roots.proofs.MemberLemmas.{all-of}
use Rattle.review_grants.proofs.ItemLemmas.{from-filter}
use Rattle.review_roots.proofs.OrderLemmas.{from-picked, kept-order, picked-order, to-picked}
use Rattle.review_roots.proofs.SearchLemmas.{at-contains, contains-at, from-map, get-append, in-filter, path-state, to-map}

-- ---- Aims by their indices

-- an item behind the n-th
pub dropped-at : {X : Type 0} (xs : List X) (n k : ℕ) → slice_get (drop n xs) k ≡ slice_get xs (n + k)
dropped-at xs zero k = ap (slice_get xs) (let e : k ≡ 0 + k = omega arith in e)
dropped-at [] (suc n) k = refl
dropped-at (x ∷ xs) (suc n) k =
    dropped-at xs n k ∙ ap (slice_get (x ∷ xs)) (let e : suc (n + k) ≡ suc n + k = omega arith in e)

-- the aim of a found state stands at its place
aims-there :
    (q : Sought) (l : Level) (n : ℕ) (fs : List Found) (k : ℕ) (f : Found) → slice_get fs k ≡ Some f →
    slice_get (aims_from q l n fs) k ≡ Some (aim_of q l (n + k) f)
aims-there q l n [] k f at = cc
aims-there q l n (g ∷ fs) zero f at =
    let same : g ≡ f = cc in
    let here : n ≡ n + 0 = omega arith in
    ap (λ (e : Found). Some (aim_of q l n e)) same ∙ ap (λ i. Some (aim_of q l i f)) here
aims-there q l n (g ∷ fs) (suc k) f at =
    aims-there q l (n + 1) fs k f at ∙ ap (λ i. Some (aim_of q l i f)) (let e : (n + 1) + k ≡ n + suc k = omega arith in e)

-- what stands there is such an aim
pub aims-are :
    (q : Sought) (l : Level) (n : ℕ) (fs : List Found) (k : ℕ) (a : Aim) → slice_get (aims_from q l n fs) k ≡ Some a →
    (f : Found) × ((slice_get fs k ≡ Some f) × (a ≡ aim_of q l (n + k) f))
aims-are q l n [] k a at = cc
aims-are q l n (g ∷ fs) zero a at =
    let same : aim_of q l n g ≡ a = cc in
    let here : n ≡ n + 0 = omega arith in
    (g, (refl, sym same ∙ ap (λ i. aim_of q l i g) here))
aims-are q l n (g ∷ fs) (suc k) a at =
    let r = aims-are q l (n + 1) fs k a at in
    (r.0, (r.1.0, r.1.1 ∙ ap (λ i. aim_of q l i r.0) (let e : (n + 1) + k ≡ n + suc k = omega arith in e)))

-- one aim more
aims-more :
    (q : Sought) (l : Level) (n : ℕ) (fs : List Found) (k : ℕ) (f : Found) → slice_get fs k ≡ Some f →
    aims_from q l n (take (k + 1) fs) ≡ aims_from q l n (take k fs) ++ aim_of q l (n + k) f ∷ []
aims-more q l n [] k f at = cc
aims-more q l n (g ∷ fs) zero f at =
    let same : g ≡ f = cc in
    let here : n ≡ n + 0 = omega arith in
    ap (λ (e : Found). aim_of q l n e ∷ []) same ∙ ap (λ i. aim_of q l i f ∷ []) here
aims-more q l n (g ∷ fs) (suc k) f at =
    ap (λ m. aims_from q l n (take m (g ∷ fs))) (let e : suc k + 1 ≡ suc (k + 1) = omega arith in e)
    ∙ ap (λ aims. aim_of q l n g ∷ aims)
    (aims-more q l (n + 1) fs k f at
    ∙ ap (λ i. aims_from q l (n + 1) (take k fs) ++ aim_of q l i f ∷ []) (let e : (n + 1) + k ≡ n + suc k = omega arith in e))

-- the found states from the n-th on as aims, one further
pub aims-next :
    (q : Sought) (l : Level) (n i : ℕ) (found : List Found) (old new : List Aimed) (a : Aimed) (f : Found) → n ≤ i →
    slice_get found i ≡ Some f → a.aim ≡ aim_of q l i f → new ≡ old ++ a ∷ [] →
    map (λ (b : Aimed). b.aim) old ≡ aims_from q l n (take (i - n) (drop n found)) →
    map (λ (b : Aimed). b.aim) new ≡ aims_from q l n (take (i + 1 - n) (drop n found))
aims-next q l n i found old new a f from at is grows so_far =
    ap (map (λ (b : Aimed). b.aim)) grows ∙ map-append (λ (b : Aimed). b.aim) old (a ∷ [])
    ∙ ap (λ (aims : List Aim). aims ++ a.aim ∷ []) so_far
    ∙ ap (λ aim. aims_from q l n (take (i - n) (drop n found)) ++ aim ∷ []) (is ∙ ap (λ k. aim_of q l k f) (sym back))
    ∙ sym (ap (λ k. aims_from q l n (take k (drop n found))) (let e : i + 1 - n ≡ (i - n) + 1 = omega (arith, from) in e)
    ∙ aims-more q l n (drop n found) (i - n) f (dropped-at found n (i - n) ∙ ap (slice_get found) back ∙ at))
  where
    back : n + (i - n) ≡ i
    back = omega (arith, from)

-- ---- The first aim that a candidate reaches

first-none : (h : HostSteps) (aims : List Aim) (c : Candidate) → first_of h aims c ≡ None → (k : ℕ) (a : Aim) → slice_get aims k ≡ Some a
    → reaches h a c ≡ false
first-none h [] c e k a at = cc
first-none h (b ∷ aims) c e k a at = go (reaches h b c) refl e k at (λ e k. first-none h aims c e k a)
  where
    Behind : Type 0
    Behind = first_of h aims c ≡ None → (k : ℕ) → slice_get aims k ≡ Some a → reaches h a c ≡ false

    go : (r : Bool) → reaches h b c ≡ r → cond r (Some (found_by h b c)) (first_of h aims c) ≡ None → (k : ℕ)
        → slice_get (b ∷ aims) k ≡ Some a → Behind → reaches h a c ≡ false
    go true is e k at behind = cc
    go false is e zero at behind = let same : b ≡ a = cc in ap (λ x. reaches h x c) (sym same) ∙ is
    go false is e (suc k) at behind = behind e k at

record IsFirstAim (h : HostSteps) (aims : List Aim) (c : Candidate) (f : Found) : Type 0 where
  at : ℕ
  aim : Aim
  there : slice_get aims at ≡ Some aim
  by : f ≡ found_by h aim c
  passes : reaches h aim c ≡ true
  before : (k : ℕ) (a : Aim) → k < at → slice_get aims k ≡ Some a → reaches h a c ≡ false

first-some : (h : HostSteps) (aims : List Aim) (c : Candidate) (f : Found) → first_of h aims c ≡ Some f → IsFirstAim h aims c f
first-some h [] c f e = cc
first-some h (b ∷ aims) c f e = go (reaches h b c) refl e (first-some h aims c f)
  where
    go : (r : Bool) → reaches h b c ≡ r → cond r (Some (found_by h b c)) (first_of h aims c) ≡ Some f
        → (first_of h aims c ≡ Some f → IsFirstAim h aims c f) → IsFirstAim h (b ∷ aims) c f
    go true is e behind = record {
      at = zero;
      aim = b;
      there = refl;
      by = let same : found_by h b c ≡ f = cc in sym same;
      passes = is;
      before = λ k a less at. absurd (omega (arith, less));
    }
    go false is e behind = let r = behind e in record {
      at = suc r.at;
      aim = r.aim;
      there = r.there;
      by = r.by;
      passes = r.passes;
      before = earlier r;
    }
      where
        earlier : (r : IsFirstAim h aims c f) → (k : ℕ) (a : Aim) → k < suc r.at → slice_get (b ∷ aims) k ≡ Some a → reaches h a c ≡ false
        earlier r zero a less at = let same : b ≡ a = cc in ap (λ x. reaches h x c) (sym same) ∙ is
        earlier r (suc k) a less at = r.before k a (omega (arith, less)) at

-- an item of two lists end to end, by its index
pub get-append-split :
    {X : Type 0} (xs ys : List X) (i : ℕ) (x : X) → slice_get (xs ++ ys) i ≡ Some x → (slice_get xs i ≡ Some x)
    ⊎ ((k : ℕ) × ((i ≡ length xs + k) × (slice_get ys k ≡ Some x)))
get-append-split [] ys i x e = inr (i, (omega arith, e))
get-append-split (y ∷ xs) ys zero x e = inl e
get-append-split (y ∷ xs) ys (suc i) x e = elim (get-append-split xs ys i x e) [
  | inl old ↦ inl old
  | inr new ↦ inr (new.0, (let is = new.1.0 in omega (arith, is), new.1.1))
]

pub map-at : {X Y : Type 0} (f : X → Y) (xs : List X) (i : ℕ) (x : X) → slice_get xs i ≡ Some x → slice_get (map f xs) i ≡ Some (f x)
map-at f [] i x e = cc
map-at f (y ∷ xs) zero x e = let same : y ≡ x = cc in ap (λ z. Some (f z)) same
map-at f (y ∷ xs) (suc i) x e = map-at f xs i x e

-- each element is picked or left over
pub picked-length : {X Y : Type 0} (pick : X → Option Y) (xs : List X) → length (filter (λ x. not (is_some (pick x))) xs)
    + length (filter_map pick xs) ≡ length xs
picked-length pick [] = refl
picked-length {X} {Y} pick (x ∷ xs) = go (pick x) (picked-length pick xs)
  where
    rest : List X
    rest = filter (λ x. not (is_some (pick x))) xs

    go : (o : Option Y) → length rest + length (filter_map pick xs) ≡ length xs
        → length (cond (not (is_some o)) (x ∷ rest) rest) + length (cons_option o (filter_map pick xs)) ≡ suc (length xs)
    go None e = omega (arith, e)
    go (Some y) e = omega (arith, e)

not-picked : {Y : Type 0} (o : Option Y) → not (is_some o) ≡ true → o ≡ None
not-picked None e = refl
not-picked (Some y) e = cc

-- ---- All aims of a layer

-- the candidate is found by its first step to one of the found states from the n-th on
pub record IsFresh (h : HostSteps) (q : Sought) (l : Level) (n : ℕ) (found : List Found) (c : Candidate) (f : Found) : Type 0 where
  pub at : ℕ
  pub aim : Found
  pub from : n ≤ at
  pub there : slice_get found at ≡ Some aim
  pub is : f ≡ record { state = c.state; steps = aim.steps + 1; next = Some at; given = step_on h c.state aim.state }
  pub step : is_at_least l ((kept_steps h q).level c.state aim.state) ≡ true
  pub first : (k : ℕ) (e : Found) → n ≤ k → k < at → slice_get found k ≡ Some e
      → is_at_least l ((kept_steps h q).level c.state e.state) ≡ false

module _ (h : HostSteps) (q : Sought) (l : Level) (n : ℕ) (found : List Found) where
  abbrev g : Steps State
  g = kept_steps h q

  abbrev pick : Candidate → Option Found
  pick c = first_of h (aims_at q l n found) c

  -- the aim of a found state from the n-th on
  aim-there : (k : ℕ) (e : Found) → n ≤ k → slice_get found k ≡ Some e → slice_get (aims_at q l n found) (k - n) ≡ Some (aim_of q l k e)
  aim-there k e from at =
      let back : n + (k - n) ≡ k = omega (arith, from) in
      aims-there q l n (drop n found) (k - n) e (dropped-at found n (k - n) ∙ ap (slice_get found) back ∙ at)
      ∙ ap (λ i. Some (aim_of q l i e)) back

  pub pick-none : (c : Candidate) → pick c ≡ None → (k : ℕ) (e : Found) → n ≤ k → slice_get found k ≡ Some e
      → is_at_least l (g.level c.state e.state) ≡ false
  pick-none c none k e from at = first-none h (aims_at q l n found) c none (k - n) (aim_of q l k e) (aim-there k e from at)

  pub pick-some : (c : Candidate) (f : Found) → pick c ≡ Some f → IsFresh h q l n found c f
  pick-some c f is = go (first-some h (aims_at q l n found) c f is)
    where
      go : IsFirstAim h (aims_at q l n found) c f → IsFresh h q l n found c f
      go r = fresh (aims-are q l n (drop n found) r.at r.aim r.there)
        where
          fresh : (e : Found) × ((slice_get (drop n found) r.at ≡ Some e) × (r.aim ≡ aim_of q l (n + r.at) e))
              → IsFresh h q l n found c f
          fresh (e, (there, is_aim)) = record {
            at = n + r.at;
            aim = e;
            from = omega arith;
            there = sym (dropped-at found n r.at) ∙ there;
            is = r.by ∙ ap (λ a. found_by h a c) is_aim;
            step = sym (ap (λ a. reaches h a c) is_aim) ∙ r.passes;
            first = λ k x from less at.
                r.before (k - n) (aim_of q l k x) (omega (arith, from, less)) (aim-there k x from at);
          }

  pub pick-state : (c : Candidate) (f : Found) → pick c ≡ Some f → f.state ≡ c.state
  pick-state c f is = ap (λ (e : Found). e.state) (pick-some c f is).is

module _ (h : HostSteps) (q : Sought) (least l : Level) (n : ℕ) (found : List Found) (cs : List Candidate)
    (search : IsSearch h.directory.now (kept_steps h q) least l n found (states_of cs)) where
  abbrev gr : Steps State
  gr = kept_steps h q

  abbrev picks : Candidate → Option Found
  picks c = first_of h (aims_at q l n found) c

  abbrev fresh : List Found
  fresh = filter_map picks cs

  abbrev kept : List Candidate
  kept = filter (λ c. not (is_some (picks c))) cs

  abbrev grown : List Found
  grown = found ++ fresh

  abbrev Far : State → Type 0
  Far s = (k : ℕ) (f : Found) → k < n → slice_get found k ≡ Some f → is_at_least l (gr.level s f.state) ≡ false

  far-of : (c : Candidate) → Contains cs c → Far c.state
  far-of c inside = All-contains Far (states_of cs) c.state search.drawn (to-map (λ (c : Candidate). c.state) cs c inside)

  -- a chain from a state that is left has more steps than those of the layer
  farther-by :
      (m : ℕ) (s u : State) → Contains (states_of cs) s → is_at_least l (gr.level s u) ≡ true → Path gr l m u →
      (Contains (states_of cs) u → search.depth + 1 ≤ m) → search.depth + 1 ≤ suc m
  farther-by m s u inside step rest behind = go (search.covered u (path-state gr l rest))
    where
      found_at : (f : Found) → Contains found f → f.state ≡ u → search.depth + 1 ≤ suc m
      found_at f c is = at (contains-at found f c)
        where
          at : (i : ℕ) × (slice_get found i ≡ Some f) → search.depth + 1 ≤ suc m
          at (i, there_i) = by (cases_lt i n)
            where
              by : (i < n) ⊎ (n ≤ i) → search.depth + 1 ≤ suc m
              by (inl before) =
                  let far : is_at_least l (gr.level s f.state) ≡ false = All-contains Far (states_of cs) s search.drawn inside i f before
                  there_i in
                  let near : is_at_least l (gr.level s f.state) ≡ true = ap (λ u. is_at_least l (gr.level s u)) is ∙ step in
                  absurd (let bad : true ≡ false = sym near ∙ far in cc)
              by (inr from) =
                  let depth = search.after i f from there_i in
                  let fewest = (All-contains (IsFound gr l) found f search.right c).shortest m (subst (Path gr l m) (sym is) rest) in
                  omega (arith, depth, fewest)

      go : Contains (found_states found) u ⊎ (Contains (states_of cs) u ⊎ IsStuck gr least u) → search.depth + 1 ≤ suc m
      go (inl in_found) = let f = from-map (λ (f : Found). f.state) found u in_found in found_at f.0 f.1 f.2
      go (inr (inl in_left)) = let b = behind in_left in omega (arith, b)
      go (inr (inr stuck)) = absurd (stuck l search.level m rest)

  farther : {m : ℕ} {s : State} → Path gr l m s → Contains (states_of cs) s → search.depth + 1 ≤ m
  farther (here {s} c at) inside =
      absurd (let apart : gr.goal s ≡ false = All-contains (λ s. gr.goal s ≡ false) (states_of cs) s search.away inside in cc)
  farther (more {n = m} {s} {t} c step rest) inside = farther-by m s t inside step rest (farther rest)

  -- ---- What is fresh

  abbrev Fresh : Found → Type 0
  Fresh f = (c : Candidate) × (Contains cs c × IsFresh h q l n found c f)

  of-fresh : (f : Found) → Contains fresh f → Fresh f
  of-fresh f inside = let c = from-picked picks cs f inside in (c.0, (c.1.0, pick-some h q l n found c.0 f c.1.1))

  fresh-steps : (f : Found) → Fresh f → f.steps ≡ search.depth + 1
  fresh-steps f (c, (inside, r)) =
      let steps : f.steps ≡ r.aim.steps + 1 = ap (λ (e : Found). e.steps) r.is in
      let depth = search.after r.at r.aim r.from r.there in
      omega (arith, steps, depth)

  fresh-right : (f : Found) → Contains fresh f → IsFound gr l f
  fresh-right f new = go (of-fresh f new)
    where
      go : Fresh f → IsFound gr l f
      go (c, (inside, r)) =
          subst (IsFound gr l) (sym r.is)
          (record {
            inside = within;
            path = (suc aim_path.0, more within r.step aim_path.1);
            shortest = λ m p.
                let few = farther p (to-map (λ (c : Candidate). c.state) cs c inside) in
                let depth = search.after r.at r.aim r.from r.there in
                omega (arith, few, depth);
          })
        where
          within : Contains gr.states c.state
          within = All-contains (Contains gr.states) (states_of cs) c.state search.inside (to-map (λ (c : Candidate). c.state) cs c inside)

          aim_path : (m : ℕ) × Path gr l m r.aim.state
          aim_path = (All-contains (IsFound gr l) found r.aim search.right (at-contains found r.aim r.at r.there)).path

  grown-linked : AreLinked gr l grown
  grown-linked i f at = go (get-append-split found fresh i f at)
    where
      old : (o : Option ℕ) → IsLinked gr l found i f o → IsLinked gr l grown i f o
      old None is = is
      old (Some next) is = (
        is.0,
        record {
          there = get-append found fresh next is.0 is.1.there;
          before = is.1.before;
          step = is.1.step;
          steps = is.1.steps;
        },
      )

      new : length found ≤ i → Fresh f → IsLinked gr l grown i f f.next
      new past (c, (inside, r)) =
          subst (λ (e : Found). IsLinked gr l grown i e e.next) (sym r.is) (
            r.aim,
            record {
              there = get-append found fresh r.at r.aim r.there;
              before = let w = slice_get_within found r.at r.aim r.there in omega (arith, w, past);
              step = r.step;
              steps = refl;
            },
          )

      go : (slice_get found i ≡ Some f) ⊎ ((k : ℕ) × ((i ≡ length found + k) × (slice_get fresh k ≡ Some f)))
          → IsLinked gr l grown i f f.next
      go (inl before) = old f.next (search.linked i f before)
      go (inr (k, (is, there))) = new (omega (arith, is)) (of-fresh f (at-contains fresh f k there))

  grown-covered : (s : State) → Contains (found_states found) s ⊎ (Contains (states_of cs) s ⊎ IsStuck gr least s)
      → Contains (found_states grown) s ⊎ (Contains (states_of kept) s ⊎ IsStuck gr least s)
  grown-covered s (inl in_found) =
      inl (subst (λ xs. Contains xs s) (sym (map-append (λ (f : Found). f.state) found fresh))
      (Contains-append_left (found_states found) (found_states fresh) s in_found))
  grown-covered s (inr (inr stuck)) = inr (inr stuck)
  grown-covered s (inr (inl in_left)) = let c = from-map (λ (c : Candidate). c.state) cs s in_left in go c.0 c.1 c.2 (picks c.0) refl
    where
      go : (c : Candidate) → Contains cs c → c.state ≡ s → (o : Option Found) → picks c ≡ o
          → Contains (found_states grown) s ⊎ (Contains (states_of kept) s ⊎ IsStuck gr least s)
      go c inside is (Some f) e =
          inl (subst (λ xs. Contains xs s) (sym (map-append (λ (f : Found). f.state) found fresh))
          (Contains-append_right (found_states found) (found_states fresh) s
          (subst (Contains (found_states fresh)) (pick-state h q l n found c f e ∙ is)
          (to-map (λ (f : Found). f.state) fresh f (to-picked picks cs c f inside e)))))
      go c inside is None e =
          inr (inl (subst (Contains (states_of kept)) is
          (to-map (λ (c : Candidate). c.state) kept c
          (in-filter (λ c. not (is_some (picks c))) cs c inside (ap (λ o. not (is_some o)) e)))))

  kept-drawn : IsDrawn gr l (length found) grown (states_of kept)
  kept-drawn = all-of Drawn (states_of kept) each
    where
      Drawn : State → Type 0
      Drawn s = (k : ℕ) (f : Found) → k < length found → slice_get grown k ≡ Some f → is_at_least l (gr.level s f.state) ≡ false

      of : (c : Candidate) → Contains cs c → picks c ≡ None → Drawn c.state
      of c inside none k f less at = go (cases_lt k n)
        where
          old : slice_get found k ≡ Some f
          old = sym (slice_get-append-left found fresh k less) ∙ at

          go : (k < n) ⊎ (n ≤ k) → is_at_least l (gr.level c.state f.state) ≡ false
          go (inl before) = far-of c inside k f before old
          go (inr from) = pick-none h q l n found c none k f from old

      each : (s : State) → Contains (states_of kept) s → Drawn s
      each s inside =
          let c = from-map (λ (c : Candidate). c.state) kept s inside in
          let k = from-filter (λ c. not (is_some (picks c))) cs c.0 c.1 in
          subst Drawn c.2 (of c.0 k.0 (not-picked (picks c.0) k.1))

  grown-before : (i : ℕ) (f : Found) → i < length found → slice_get grown i ≡ Some f → f.steps < search.depth + 1
  grown-before i f less at = go (cases_lt i n)
    where
      old : slice_get found i ≡ Some f
      old = sym (slice_get-append-left found fresh i less) ∙ at

      go : (i < n) ⊎ (n ≤ i) → f.steps < search.depth + 1
      go (inl before) = let few = search.before i f before old in omega (arith, few)
      go (inr from) = let is = search.after i f from old in omega (arith, is)

  grown-after : (i : ℕ) (f : Found) → length found ≤ i → slice_get grown i ≡ Some f → f.steps ≡ search.depth + 1
  grown-after i f past at = go (get-append-split found fresh i f at)
    where
      go : (slice_get found i ≡ Some f) ⊎ ((k : ℕ) × ((i ≡ length found + k) × (slice_get fresh k ≡ Some f)))
          → f.steps ≡ search.depth + 1
      go (inl old) = let w = slice_get_within found i f old in absurd (omega (arith, w, past))
      go (inr (k, (is, there))) = fresh-steps f (of-fresh f (at-contains fresh f k there))

  grown-first : AreFirst gr l grown
  grown-first i next k f e at is less at_k = go (get-append-split found fresh i f at)
    where
      new : Fresh f → is_at_least l (gr.level f.state e.state) ≡ false
      new (c, (inside, r)) = by (cases_lt k n)
        where
          same : next ≡ r.at
          same = let e : Some next ≡ Some r.at = sym is ∙ ap (λ (e : Found). e.next) r.is in cc

          within : k < length found
          within = let w = slice_get_within found r.at r.aim r.there in omega (arith, w, less, same)

          old : slice_get found k ≡ Some e
          old = sym (slice_get-append-left found fresh k within) ∙ at_k

          by : (k < n) ⊎ (n ≤ k) → is_at_least l (gr.level f.state e.state) ≡ false
          by (inl before) =
              ap (λ (x : Found). is_at_least l (gr.level x.state e.state)) r.is ∙ far-of c inside k e before old
          by (inr from) =
              ap (λ (x : Found). is_at_least l (gr.level x.state e.state)) r.is ∙ r.first k e from (omega (arith, less, same)) old

      go : (slice_get found i ≡ Some f) ⊎ ((k : ℕ) × ((i ≡ length found + k) × (slice_get fresh k ≡ Some f)))
          → is_at_least l (gr.level f.state e.state) ≡ false
      go (inl before) = search.first i next k f e before is less (old before)
        where
          old : slice_get found i ≡ Some f → slice_get found k ≡ Some e
          old before =
              let link = subst (IsLinked gr l found i f) is (search.linked i f before) in
              let back = link.1.before in
              let w = slice_get_within found i f before in
              sym (slice_get-append-left found fresh k (omega (arith, less, back, w))) ∙ at_k
      go (inr (j, (is_i, there))) = new (of-fresh f (at-contains fresh f j there))

  grown-rising : AreRising grown
  grown-rising i k f e less at_i at_k = go (get-append-split found fresh i f at_i) (get-append-split found fresh k e at_k)
    where
      Split : ℕ → Found → Type 0
      Split i f = (slice_get found i ≡ Some f) ⊎ ((k : ℕ) × ((i ≡ length found + k) × (slice_get fresh k ≡ Some f)))

      go : Split i f → Split k e → f.steps ≤ e.steps
      go (inl old) (inl old') = search.rising i k f e less old old'
      go (inl old) (inr (j, (is, there))) =
          let w = slice_get_within found i f old in
          let few = grown-before i f w at_i in
          let deep = fresh-steps e (of-fresh e (at-contains fresh e j there)) in
          omega (arith, few, deep)
      go (inr (j, (is, there))) (inl old') =
          let w = slice_get_within found k e old' in absurd (omega (arith, w, is, less))
      go (inr (j, (is, there))) (inr (j', (is', there'))) =
          let one = fresh-steps f (of-fresh f (at-contains fresh f j there)) in
          let other = fresh-steps e (of-fresh e (at-contains fresh e j' there')) in
          omega (arith, one, other)

  fresh-order : IsInOrder h.directory.now (found_states fresh)
  fresh-order =
      picked-order h.directory.now (λ (c : Candidate). c.state) (λ (f : Found). f.state) picks
      (λ c f is. pick-state h q l n found c f is) cs search.waiting

  grown-sorted : AreSorted h.directory.now grown
  grown-sorted i k f e less at_i at_k same = go (get-append-split found fresh i f at_i) (get-append-split found fresh k e at_k)
    where
      Split : ℕ → Found → Type 0
      Split i f = (slice_get found i ≡ Some f) ⊎ ((k : ℕ) × ((i ≡ length found + k) × (slice_get fresh k ≡ Some f)))

      go : Split i f → Split k e → is_gt (state_cmp h.directory.now f.state e.state) ≡ false
      go (inl old) (inl old') = search.sorted i k f e less old old' same
      go (inl old) (inr (j, (is, there))) =
          let w = slice_get_within found i f old in
          let few = grown-before i f w at_i in
          let deep = fresh-steps e (of-fresh e (at-contains fresh e j there)) in
          absurd (omega (arith, few, deep, same))
      go (inr (j, (is, there))) (inl old') =
          let w = slice_get_within found k e old' in absurd (omega (arith, w, is, less))
      go (inr (j, (is, there))) (inr (j', (is', there'))) =
          fresh-order j j' f.state e.state (omega (arith, is, is', less))
          (map-at (λ (f : Found). f.state) fresh j f there) (map-at (λ (f : Found). f.state) fresh j' e there')

  pub layer-search : IsSearch h.directory.now gr least l (length found) grown (states_of kept)
  layer-search = record {
    level = search.level;
    right = All-append (IsFound gr l) found fresh search.right (all-of (IsFound gr l) fresh fresh-right);
    linked = grown-linked;
    covered = λ s c. grown-covered s (search.covered s c);
    inside = all-of (Contains gr.states) (states_of kept) (λ s inside.
        All-contains (Contains gr.states) (states_of cs) s search.inside (still s inside));
    away = all-of (λ s. gr.goal s ≡ false) (states_of kept) (λ s inside.
        All-contains (λ s. gr.goal s ≡ false) (states_of cs) s search.away (still s inside));
    drawn = kept-drawn;
    depth = search.depth + 1;
    before = grown-before;
    after = grown-after;
    first = grown-first;
    rising = grown-rising;
    sorted = grown-sorted;
    waiting = kept-order h.directory.now (λ (c : Candidate). c.state) (λ c. not (is_some (picks c))) cs search.waiting;
  }
    where
      still : (s : State) → Contains (states_of kept) s → Contains (states_of cs) s
      still s inside =
          let c = from-map (λ (c : Candidate). c.state) kept s inside in
          let k = from-filter (λ c. not (is_some (picks c))) cs c.0 c.1 in
          subst (Contains (states_of cs)) c.2 (to-map (λ (c : Candidate). c.state) cs c.0 k.0)

-- ---- What a search knows of all that is found

module _ (h : HostSteps) (q : Sought) (l : Level) (n : ℕ) (found new : List Found) (cs rest : List Candidate)
    (finds : new ≡ found ++ filter_map (first_of h (aims_at q l n found)) cs)
    (keeps : rest ≡ filter (λ c. not (is_some (first_of h (aims_at q l n found) c))) cs) where
  abbrev ones : Candidate → Option Found
  ones c = first_of h (aims_at q l n found) c

  pub spread-search : (k : Level) → IsSearch h.directory.now (kept_steps h q) k l n found (states_of cs)
      → IsSearch h.directory.now (kept_steps h q) k l (length found) new (states_of rest)
  spread-search k search =
      subst (λ xs. IsSearch h.directory.now (kept_steps h q) k l (length found) xs (states_of rest)) (sym finds)
      (subst (λ xs. IsSearch h.directory.now (kept_steps h q) k l (length found) (found ++ filter_map ones cs) (states_of xs)) (sym keeps)
      (layer-search h q k l n found cs search))

  pub of-new : (f : Found) → Contains (filter_map ones cs) f → (c : Candidate) × IsFresh h q l n found c f
  of-new f inside = let c = from-picked ones cs f inside in (c.0, pick-some h q l n found c.0 f c.1.1)

  -- no chain has more steps than states were found before
  pub spread-deep : AreDeep found → AreDeep new
  spread-deep deep = subst AreDeep (sym finds) (λ i f at. go i f (get-append-split found (filter_map ones cs) i f at))
    where
      fresh : (i : ℕ) (f : Found) → length found ≤ i → (c : Candidate) × IsFresh h q l n found c f → f.steps ≤ i
      fresh i f past (c, r) =
          let steps : f.steps ≡ r.aim.steps + 1 = ap (λ (e : Found). e.steps) r.is in
          let few = deep r.at r.aim r.there in
          let w = slice_get_within found r.at r.aim r.there in
          omega (arith, steps, few, w, past)

      go : (i : ℕ) (f : Found)
          → (slice_get found i ≡ Some f) ⊎ ((k : ℕ) × ((i ≡ length found + k) × (slice_get (filter_map ones cs) k ≡ Some f))) → f.steps ≤ i
      go i f (inl old) = deep i f old
      go i f (inr (k, (is, there))) = fresh i f (omega (arith, is)) (of-new f (at-contains (filter_map ones cs) f k there))

  -- what the first steps give is known
  pub spread-given : AreGiven h found → AreGiven h new
  spread-given are = subst (AreGiven h) (sym finds) (λ i f at. go i f (get-append-split found (filter_map ones cs) i f at))
    where
      grew : List Found
      grew = found ++ filter_map ones cs

      old : (f : Found) (o : Option ℕ) → IsGiven h found f o → IsGiven h grew f o
      old f None is = is
      old f (Some next) is = (is.0, (get-append found (filter_map ones cs) next is.0 is.1.0, is.1.1))

      fresh : (f : Found) → (c : Candidate) × IsFresh h q l n found c f → IsGiven h grew f f.next
      fresh f (c, r) =
          subst (λ (e : Found). IsGiven h grew e e.next) (sym r.is)
          (r.aim, (get-append found (filter_map ones cs) r.at r.aim r.there, refl))

      go : (i : ℕ) (f : Found)
          → (slice_get found i ≡ Some f) ⊎ ((k : ℕ) × ((i ≡ length found + k) × (slice_get (filter_map ones cs) k ≡ Some f)))
          → IsGiven h grew f f.next
      go i f (inl before) = old f f.next (are i f before)
      go i f (inr (k, (is, there))) = fresh f (of-new f (at-contains (filter_map ones cs) f k there))

  pub spread-candidates : All (IsCandidate h) cs → All (IsCandidate h) rest
  spread-candidates all = subst (All (IsCandidate h)) (sym keeps) (All-filter (λ c. not (is_some (ones c))) (IsCandidate h) cs all)

  pub spread-length : length rest + length new ≡ length cs + length found
  spread-length =
      let parted = picked-length ones cs in
      let k : length rest ≡ length (filter (λ c. not (is_some (ones c))) cs) = ap length keeps in
      let f : length new ≡ length found + length (filter_map ones cs) = ap length finds ∙ length-append found (filter_map ones cs) in
      omega (arith, parted, k, f)

-- at the end each found state has the first of its shortest chains
pub ordered-found :
    (h : HostSteps) (q : Sought) (least l : Level) (n : ℕ) (found : List Found) (left : List State) →
    IsSearch h.directory.now (kept_steps h q) least l n found left → AreOrdered h q l found
ordered-found h q least l n found left search = record {
  kept = All-weaker (IsFound (kept_steps h q) l) (λ f. Contains h.states.now f.state) (λ f is. is.inside) found search.right;
  first = search.first;
  rising = search.rising;
  sorted = search.sorted;
}
