-- The loops of a search: over the candidates that are left, and over what is found.
use Rattle.std.proofs.Common.{◌≡◌, ◌<◌, ◌≤◌, ◌∙◌, ◌+◌, ◌⊎◌, ℕ, Bool, true, false, cond, List, [], ◌∷◌, ◌++◌, ap, arith, get_or, length}
use Rattle.std.proofs.Common.{inl, inr, map, sym, take, Option, Some, None, append_assoc, append-nil}
use Rattle.std.specs.Prelude.{All, filter, slice_get}
use Rattle.std.specs.List.{Contains, cons_option, filter_map}
use Rattle.std.proofs.lemmas.List.{map-append}
use Rattle.std.proofs.lemmas.Bool.{cases_lt}
use Rattle.std.proofs.lemmas.List.Elements.{All-contains, All-contains_itself, All-map, All-weaker, filter-append, filter_map-append}
use Rattle.review_roots.specs.declared.candidate.Candidate.{Candidate}
use Rattle.review_roots.specs.declared.host.HostSteps.{HostSteps}
use Rattle.review_roots.specs.declared.level.Level.{Level}
use Rattle.review_roots.specs.declared.search.Found.{Found}
use Rattle.review_roots.specs.declared.search.Sought.{Sought}
use Rattle.review_roots.specs.Body.Candidates.{states_of}
use Rattle.review_roots.specs.Body.Found.{IsDrawn, kept_steps, reaches}
use Rattle.review_roots.specs.declared.state.State.{State}
use Rattle.review_roots.specs.Ranks.{is_at_least}
use Rattle.review_grants.proofs.ListSteps.{take-more}
use Rattle.review_roots.proofs.SearchLemmas.{to-map}

-- one item more of a list of references that is filtered
pub filtered-more :
    {R X : Type 0} (f : X → Bool) (now : R → X) (left : List R) (i : ℕ) (c : R) → i < length left → c ≡ get_or left i c →
    filter f (map now (take (i + 1) left)) ≡ filter f (map now (take i left)) ++ cond (f (now c)) (now c ∷ []) []
filtered-more f now left i c within is =
    ap (λ xs. filter f (map now xs)) (take-more left i c within is)
    ∙ ap (filter f) (map-append now (take i left) (c ∷ [])) ∙ filter-append f (map now (take i left)) (now c ∷ [])

-- an item that passes is kept
pub one-kept :
    {R X : Type 0} (f : X → Bool) (now : R → X) (left old new : List R) (i : ℕ) (c : R) → i < length left → c ≡ get_or left i c → f (now c)
    ≡ true →
    map now old ≡ filter f (map now (take i left)) → new ≡ old ++ c ∷ [] → map now new ≡ filter f (map now (take (i + 1) left))
one-kept f now left old new i c within is passes so_far more =
    ap (map now) more ∙ map-append now old (c ∷ []) ∙ ap (λ (xs : List _). xs ++ now c ∷ []) so_far
    ∙ sym (filtered-more f now left i c within is ∙ ap (λ b. filter f (map now (take i left)) ++ cond b (now c ∷ []) []) passes)

-- another one is not
pub none-kept :
    {R X : Type 0} (f : X → Bool) (now : R → X) (left : List R) (i : ℕ) (c : R) → i < length left → c ≡ get_or left i c → f (now c)
    ≡ false →
    filter f (map now (take (i + 1) left)) ≡ filter f (map now (take i left))
none-kept f now left i c within is fails =
    filtered-more f now left i c within is ∙ ap (λ b. filter f (map now (take i left)) ++ cond b (now c ∷ []) []) fails
    ∙ append-nil (filter f (map now (take i left)))

-- an item that passes is found
pub one-found :
    {R X Y : Type 0} (f : X → Bool) (now : R → X) (by : X → Y) (left : List R) (first old new : List Y) (i : ℕ) (c : R) → i < length left
    → c ≡ get_or left i c →
    f (now c) ≡ true → old ≡ first ++ map by (filter f (map now (take i left))) → new ≡ old ++ by (now c) ∷ [] →
    new ≡ first ++ map by (filter f (map now (take (i + 1) left)))
one-found f now by left first old new i c within is passes so_far more =
    let xs : List _ = filter f (map now (take i left)) in
    more ∙ ap (λ (ys : List _). ys ++ by (now c) ∷ []) so_far ∙ append_assoc first (map by xs) (by (now c) ∷ [])
    ∙ ap (λ (ys : List _). first ++ ys) (sym (map-append by xs (now c ∷ [])))
    ∙ ap (λ (ys : List _). first ++ map by ys)
    (sym (filtered-more f now left i c within is ∙ ap (λ b. filter f (map now (take i left)) ++ cond b (now c ∷ []) []) passes))

-- one item more of a list of references, of which some are picked
pub picked-more :
    {R X Y : Type 0} (pick : X → Option Y) (now : R → X) (left : List R) (i : ℕ) (c : R) → i < length left → c ≡ get_or left i c →
    filter_map pick (map now (take (i + 1) left)) ≡ filter_map pick (map now (take i left)) ++ cons_option (pick (now c)) []
picked-more pick now left i c within is =
    ap (λ xs. filter_map pick (map now xs)) (take-more left i c within is)
    ∙ ap (filter_map pick) (map-append now (take i left) (c ∷ [])) ∙ filter_map-append pick (map now (take i left)) (now c ∷ [])

-- an item that is picked is found
pub one-picked :
    {R X Y : Type 0} (pick : X → Option Y) (now : R → X) (left : List R) (first old new : List Y) (i : ℕ) (c : R) (y : Y) → i < length left
    → c ≡ get_or left i c → pick (now c) ≡ Some y → old ≡ first ++ filter_map pick (map now (take i left)) → new ≡ old ++ y ∷ [] →
    new ≡ first ++ filter_map pick (map now (take (i + 1) left))
one-picked pick now left first old new i c y within is picks so_far more =
    more ∙ ap (λ (ys : List _). ys ++ y ∷ []) so_far ∙ append_assoc first (filter_map pick (map now (take i left))) (y ∷ [])
    ∙ ap (λ (ys : List _). first ++ ys)
    (sym (picked-more pick now left i c within is
    ∙ ap (λ o. filter_map pick (map now (take i left)) ++ cons_option o []) picks))

-- another one is not
pub none-picked :
    {R X Y : Type 0} (pick : X → Option Y) (now : R → X) (left : List R) (i : ℕ) (c : R) → i < length left → c ≡ get_or left i c →
    pick (now c) ≡ None → filter_map pick (map now (take (i + 1) left)) ≡ filter_map pick (map now (take i left))
none-picked pick now left i c within is none =
    picked-more pick now left i c within is ∙ ap (λ o. filter_map pick (map now (take i left)) ++ cons_option o []) none
    ∙ append-nil (filter_map pick (map now (take i left)))

-- ---- One aim

-- an aim to which no candidate has a step
pub drawn-next :
    (h : HostSteps) (q : Sought) (l : Level) (n m : ℕ) (t : Found) (found : List Found) (cs : List Candidate) → slice_get found n ≡ Some t →
    All (λ c. reaches h (record { index = n; state = t.state; level = l; counted = q.counted; steps = m }) c ≡ false) cs →
    IsDrawn (kept_steps h q) l n found (states_of cs) → IsDrawn (kept_steps h q) l (n + 1) found (states_of cs)
drawn-next h q l n m t found cs there none drawn =
    All-map Far (λ (c : Candidate). c.state) cs
    (All-weaker (Contains cs) (λ c. Far c.state) (λ c inside. one c inside) cs (All-contains_itself cs))
  where
    Far : State → Type 0
    Far s = (k : ℕ) (f : Found) → k < n + 1 → slice_get found k ≡ Some f → is_at_least l ((kept_steps h q).level s f.state) ≡ false

    one : (c : Candidate) → Contains cs c → Far c.state
    one c inside k f less at = go (cases_lt k n)
      where
        go : (k < n) ⊎ (n ≤ k) → is_at_least l ((kept_steps h q).level c.state f.state) ≡ false
        go (inl before) =
            All-contains (λ s. (k : ℕ) (f : Found) → k < n → slice_get found k ≡ Some f
            → is_at_least l ((kept_steps h q).level s f.state)
            ≡ false) (states_of cs) c.state drawn (to-map (λ (c : Candidate). c.state) cs c inside)
            k f before at
        go (inr from) =
            let same : k ≡ n = omega (arith, from, less) in
            let is : Some t ≡ Some f = sym there ∙ ap (slice_get found) (sym same) ∙ at in
            let this : t ≡ f = cc in
            ap (λ (f : Found). is_at_least l ((kept_steps h q).level c.state f.state)) (sym this)
            ∙ All-contains (λ c. reaches h (record { index = n; state = t.state; level = l; counted = q.counted; steps = m }) c ≡ false) cs
            c none inside

-- ---- Lists that are filtered as they are gone through

-- an item that passes is appended
pub passes-more :
    {X Y : Type 0} (f : X → Bool) (by : X → Y) (xs : List X) (i : ℕ) (x : X) (old new : List Y) → i < length xs → x ≡ get_or xs i x →
    f x ≡ true → old ≡ map by (filter f (take i xs)) → new ≡ old ++ by x ∷ [] → new ≡ map by (filter f (take (i + 1) xs))
passes-more f by xs i x old new within is passes so_far more =
    more ∙ ap (λ (ys : List _). ys ++ by x ∷ []) so_far ∙ sym (map-append by (filter f (take i xs)) (x ∷ []))
    ∙ ap (map by)
    (sym (ap (filter f) (take-more xs i x within is) ∙ filter-append f (take i xs) (x ∷ [])
    ∙ ap (λ b. filter f (take i xs) ++ cond b (x ∷ []) []) passes))

-- another one is not
pub fails-more :
    {X : Type 0} (f : X → Bool) (xs : List X) (i : ℕ) (x : X) → i < length xs → x ≡ get_or xs i x → f x ≡ false →
    filter f (take i xs) ≡ filter f (take (i + 1) xs)
fails-more f xs i x within is fails =
    sym (ap (filter f) (take-more xs i x within is) ∙ filter-append f (take i xs) (x ∷ [])
    ∙ ap (λ b. filter f (take i xs) ++ cond b (x ∷ []) []) fails ∙ append-nil (filter f (take i xs)))

-- a reference to an item that passes is appended
pub reference-more :
    {R X : Type 0} (f : X → Bool) (now : R → X) (xs : List X) (i : ℕ) (x : X) (r : R) (old new : List R) → i < length xs → x ≡ get_or xs i x
    → now r ≡ x → f x ≡ true → map now old ≡ filter f (take i xs) → new ≡ old ++ r ∷ [] → map now new ≡ filter f (take (i + 1) xs)
reference-more f now xs i x r old new within is at passes so_far more =
    ap (map now) more ∙ map-append now old (r ∷ []) ∙ ap (λ (ys : List _). ys ++ now r ∷ []) so_far
    ∙ ap (λ y. filter f (take i xs) ++ y ∷ []) at
    ∙ sym (ap (filter f) (take-more xs i x within is) ∙ filter-append f (take i xs) (x ∷ [])
    ∙ ap (λ b. filter f (take i xs) ++ cond b (x ∷ []) []) passes)
