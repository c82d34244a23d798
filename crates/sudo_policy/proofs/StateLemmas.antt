-- Laws of the states of a visit.
use Rattle.std.proofs.Common.{◌≡◌, ◌≢◌, ℕ, zero, suc, ◌+◌, ◌≤◌, ◌<◌, List, [], ◌∷◌, drop, get_or, set, length, Option}
use Rattle.std.proofs.Common.{None, Some, refl, sym, ◌∙◌, ap, subst, arith, inl, inr, ◌⊎◌}
use Rattle.std.specs.Prelude.{slice_get, Contains, if◌then◌else◌, option_and_then, option_map}
use Rattle.std.proofs.Math.Seq.{drop-length}
use Rattle.std.proofs.lemmas.List.Elements.{Contains-get_or}
use Rattle.std.proofs.lemmas.List.{length-set}
use Rattle.sudo_policy.specs.declared.graph.Measure.{Measure}
use Rattle.sudo_policy.specs.declared.graph.State.{State}
use Rattle.sudo_policy.specs.declared.graph.State.TheVariants.{New, Open, Done, Looped}
use Rattle.sudo_policy.specs.Following.{option_join}
use Rattle.sudo_policy.specs.Body.Graph.{Links, Edge, Path, ReachesCycle, IsClosed, measure_of_both, deeper}
use Rattle.sudo_policy.specs.Body.Graph.{measure_of_one, measure_of_none, link_measure, StateHolds, StatesHold}
use Rattle.sudo_policy.specs.Body.Graph.{OpenLead, OpenNear, is_new, MayTurn, Turned, IsSettled, measure_of_state}
use Rattle.sudo_policy.specs.Body.Graph.{done_measure}
use Rattle.sudo_policy.proofs.GraphLemmas.{RowMeasures, RowMeasures-none, RowMeasures-alone, RowMeasures-link}
use Rattle.sudo_policy.proofs.GraphLemmas.{Measures-row, ReachesCycle-edge, ReachesCycle-back}

-- an element after a write to it, and to another
pub get_set_same : {X : Type 0} (xs : List X) (i : ℕ) (v : X) → i < length xs → slice_get (set xs i v) i ≡ Some v
get_set_same [] i v h = absurd (omega arith)
get_set_same (x ∷ xs) zero v h = refl
get_set_same (x ∷ xs) (suc i) v h = get_set_same xs i v (omega arith)

pub get_set_other : {X : Type 0} (xs : List X) (i j : ℕ) (v : X) → j ≢ i → slice_get (set xs i v) j ≡ slice_get xs j
get_set_other [] i j v h = refl
get_set_other (x ∷ xs) zero zero v h = absurd (h refl)
get_set_other (x ∷ xs) zero (suc j) v h = refl
get_set_other (x ∷ xs) (suc i) zero v h = refl
get_set_other (x ∷ xs) (suc i) (suc j) v h = get_set_other xs i j v (λ e. h (ap suc e))

-- an element that is there
pub get_within : {X : Type 0} (xs : List X) (i : ℕ) → i < length xs → (x : X) × (slice_get xs i ≡ Some x)
get_within [] i h = absurd (omega arith)
get_within (x ∷ xs) zero h = (x, refl)
get_within (x ∷ xs) (suc i) h = get_within xs i (omega arith)

pub within_get : {X : Type 0} (xs : List X) (i : ℕ) (x : X) → slice_get xs i ≡ Some x → i < length xs
within_get [] i x h = cc
within_get (y ∷ xs) zero x h = omega arith
within_get (y ∷ xs) (suc i) x h = let k = within_get xs i x h in omega (arith, k)

pub same_or_not : (i j : ℕ) → (i ≡ j) ⊎ (i ≢ j)
same_or_not zero zero = inl refl
same_or_not zero (suc j) = inr (λ e. cc)
same_or_not (suc i) zero = inr (λ e. cc)
same_or_not (suc i) (suc j) = elim (same_or_not i j) [ inl e ↦ inl (ap suc e) | inr n ↦ inr (λ e. n (omega (arith, e))) ]

-- how many aliases are new
pub new_count : List State → ℕ
new_count [] = 0
new_count (s ∷ ss) = (if is_new s then 1 else 0) + new_count ss

MayTurn-count : (s t : State) → MayTurn s t → (if is_new t then 1 else 0) ≤ (if is_new s then 1 else 0)
MayTurn-count New New h = omega arith
MayTurn-count New Open h = omega arith
MayTurn-count New (Done a) h = omega arith
MayTurn-count New Looped h = omega arith
MayTurn-count Open t h = rw h (omega arith)
MayTurn-count (Done a) t h = rw h (omega arith)
MayTurn-count Looped t h = rw h (omega arith)

pub new_count-turned : (old new : List State) → length new ≡ length old → Turned old new → new_count new ≤ new_count old
unfolding new_count
new_count-turned [] [] e h = omega arith
new_count-turned [] (t ∷ new) e h = absurd (omega (arith, e))
new_count-turned (s ∷ old) [] e h = absurd (omega (arith, e))
new_count-turned (s ∷ old) (t ∷ new) e h =
    let first = MayTurn-count s t (h 0 s t refl refl) in
    let others = new_count-turned old new (omega (arith, e)) (λ i. h (suc i)) in
    omega (arith, first, others)

pub new_count-set : (states : List State) (i : ℕ) → slice_get states i ≡ Some New → new_count (set states i Open) + 1 ≡ new_count states
unfolding new_count
new_count-set [] i h = cc
new_count-set (s ∷ ss) zero h = let e : s ≡ New = cc in rw e (omega arith)
new_count-set (s ∷ ss) (suc i) h = let k = new_count-set ss i h in omega (arith, k)

MayTurn-same : (s : State) → MayTurn s s
MayTurn-same New = λ e. cc
MayTurn-same Open = refl
MayTurn-same (Done a) = refl
MayTurn-same Looped = refl

MayTurn-trans : (s t u : State) → MayTurn s t → MayTurn t u → MayTurn s u
MayTurn-trans New New u h k = k
MayTurn-trans New Open u h k = absurd (h refl)
MayTurn-trans New (Done a) u h k = λ e. cc
MayTurn-trans New Looped u h k = λ e. cc
MayTurn-trans Open t u h k = let m : MayTurn Open u = subst (λ x. MayTurn x u) h k in m
MayTurn-trans (Done a) t u h k = let m : MayTurn (Done a) u = subst (λ x. MayTurn x u) h k in m
MayTurn-trans Looped t u h k = let m : MayTurn Looped u = subst (λ x. MayTurn x u) h k in m

pub Turned-refl : (states : List State) → Turned states states
Turned-refl states i s t a b = let e : s ≡ t = cc in subst (λ x. MayTurn s x) e (MayTurn-same s)

pub Turned-trans : (a b c : List State) → length b ≡ length a → Turned a b → Turned b c → Turned a c
Turned-trans a b c long h k i s u at_a at_c =
    let inside = within_get a i s at_a in
    let m = get_within b i (omega (arith, inside, long)) in
    MayTurn-trans s m.0 u (h i s m.0 at_a m.1) (k i m.0 u m.1 at_c)

-- what is open was open
MayTurn-open : (s : State) → MayTurn s Open → s ≡ Open
MayTurn-open New h = absurd (h refl)
MayTurn-open Open h = refl
MayTurn-open (Done a) h = cc
MayTurn-open Looped h = cc

pub Turned-open : (old new : List State) (i : ℕ) → length new ≡ length old → Turned old new
    → slice_get new i ≡ Some Open → slice_get old i ≡ Some Open
Turned-open old new i long h at_new =
    let inside = within_get new i Open at_new in
    let s = get_within old i (omega (arith, inside, long)) in
    s.1 ∙ ap Some (MayTurn-open s.0 (h i s.0 Open s.1 at_new))

-- what is known of an alias while its links are visited, from the last one down to those of `rest`
abbrev pub Known : Links → ℕ → List (Option ℕ) → Option Measure → Type 0
Known g node rest None = ReachesCycle g node
Known g node rest (Some a) = RowMeasures g rest a

pub record Visiting (g : Links) (start : List State) (node : ℕ) (states : List State) (rest : List (Option ℕ))
    (measure : Option Measure) : Type 0 where
  pub held : StatesHold g states
  pub turned : Turned (set start node Open) states
  pub same_length : length states ≡ length start
  pub known : Known g node rest measure

-- the state that an alias gets when its links were visited
abbrev pub settled_as : Option Measure → State
settled_as None = Looped
settled_as (Some a) = Done a

pub known_none : (g : Links) (node : ℕ) (row : List (Option ℕ)) → Known g node (drop (length row) row) (Some measure_of_none)
known_none g node row = subst (λ (r : List (Option ℕ)). RowMeasures g r measure_of_none) (sym (drop-length row)) (RowMeasures-none g)

known_alone : (g : Links) (node : ℕ) (rest : List (Option ℕ)) (m : Option Measure) → Known g node rest m
    → Known g node (None ∷ rest) (option_join measure_of_both (Some measure_of_one) m)
known_alone g node rest None h = h
known_alone g node rest (Some a) h = RowMeasures-alone g rest a h

known_link : (g : Links) (node next : ℕ) (rest : List (Option ℕ)) (s : State) (m : Option Measure) → (s ≡ New → ⊥)
    → StateHolds g next s → (s ≡ Open → (next ≡ node) ⊎ Path g next node) → Edge g node next → Known g node rest m
    → Known g node (Some next ∷ rest) (option_join measure_of_both (option_map deeper (measure_of_state s)) m)
known_link g node next rest New m seen held near e h = absurd (seen refl)
known_link g node next rest Open m seen held near e h = ReachesCycle-back g node next e (near refl)
known_link g node next rest (Done b) None seen held near e h = h
known_link g node next rest (Done b) (Some a) seen held near e h = RowMeasures-link g next rest a b held h
known_link g node next rest Looped m seen held near e h = ReachesCycle-edge g node next e held

-- which aliases are open while the links of `node` are visited
pub near_open : (g : Links) (start states : List State) (node : ℕ) → length states ≡ length start
    → slice_get start node ≡ Some New → OpenLead g start node → Turned (set start node Open) states → OpenNear g states node
near_open g start states node long at lead turned j open_j =
    let before = Turned-open (set start node Open) states j (long ∙ sym (length-set start node Open)) turned open_j in
    elim (same_or_not j node) [
      | inl same ↦ inl same
      | inr apart ↦ inr (lead j (sym (get_set_other start node j Open apart) ∙ before))
    ]

-- one more link was visited
pub known_next : (g : Links) (states : List State) (node : ℕ) (rest : List (Option ℕ)) (m : Option Measure)
    (link : Option ℕ) → IsClosed g → length states ≡ length g → StatesHold g states → OpenNear g states node
    → ((next : ℕ) → link ≡ Some next → slice_get states next ≡ Some New → ⊥)
    → ((next : ℕ) → link ≡ Some next → Edge g node next) → Known g node rest m
    → Known g node (link ∷ rest) (option_join measure_of_both (link_measure (done_measure states) link) m)
known_next g states node rest m None closed long held near seen edge h = known_alone g node rest m h
known_next g states node rest m (Some next) closed long held near seen edge h =
    let e = edge next refl in
    let inside = closed node next e in
    let s = get_within states next (omega (arith, inside, long)) in
    let is : done_measure states next ≡ measure_of_state s.0 = ap (option_and_then measure_of_state) s.1 in
    subst (λ (o : Option Measure). Known g node (Some next ∷ rest) (option_join measure_of_both (option_map deeper o) m)) (sym is)
    (known_link g node next rest s.0 m
    (λ new. seen next refl (s.1 ∙ ap Some new))
    (held next s.0 s.1)
    (λ open_next. near next (s.1 ∙ ap Some open_next))
    e h)

-- an element of a list after one was written
pub get_set_cases : {X : Type 0} (xs : List X) (i j : ℕ) (v x : X) → i < length xs → slice_get (set xs i v) j ≡ Some x
    → ((j ≡ i) × (x ≡ v)) ⊎ ((j ≢ i) × (slice_get xs j ≡ Some x))
get_set_cases xs i j v x inside h =
    elim (same_or_not j i) [
      | inl same ↦ inl (
        same,
        (let at : slice_get (set xs i v) i ≡ Some x = subst
            (λ (k : ℕ). slice_get (set xs i v) k ≡ Some x) same h in let here = get_set_same xs i v inside in cc),
      )
      | inr apart ↦ inr (apart, sym (get_set_other xs i j v apart) ∙ h)
    ]

-- the alias is open at the start
pub start-holds : (g : Links) (start : List State) (node : ℕ) → node < length start → StatesHold g start
    → StatesHold g (set start node Open)
start-holds g start node inside held i s at =
    elim (get_set_cases start node i Open s inside at) [
      | inl here ↦ subst (λ (x : State). StateHolds g i x) (sym here.1) tt
      | inr other ↦ held i s other.1
    ]

settled_holds : (g : Links) (node : ℕ) (row : List (Option ℕ)) (m : Option Measure) → slice_get g node ≡ Some row
    → Known g node row m → StateHolds g node (settled_as m)
settled_holds g node row None at h = h
settled_holds g node row (Some a) at h = Measures-row g node row a at h

-- the alias is settled at the end
pub end_holds : (g : Links) (states : List State) (node : ℕ) (row : List (Option ℕ)) (m : Option Measure)
    → node < length states → StatesHold g states → slice_get g node ≡ Some row → Known g node row m
    → StatesHold g (set states node (settled_as m))
end_holds g states node row m inside held at h i s at_i =
    elim (get_set_cases states node i (settled_as m) s inside at_i) [
      | inl here ↦ subst (λ (x : State). StateHolds g i x) (sym here.1)
          (subst (λ (k : ℕ). StateHolds g k (settled_as m)) (sym here.0) (settled_holds g node row m at h))
      | inr other ↦ held i s other.1
    ]

settled_not_open : (m : Option Measure) → settled_as m ≡ Open → ⊥
settled_not_open None e = cc
settled_not_open (Some a) e = cc

pub end_turned : (start states : List State) (node : ℕ) (m : Option Measure) → length states ≡ length start
    → slice_get start node ≡ Some New → Turned (set start node Open) states → Turned start (set states node (settled_as m))
end_turned start states node m long new turned i s t at_start at_end =
    let inside = within_get start node New new in
    elim (get_set_cases states node i (settled_as m) t (omega (arith, inside, long)) at_end) [
      | inl here ↦
          (let was : s ≡ New = (let a : slice_get start node ≡ Some s = subst (λ (k : ℕ). slice_get start k ≡ Some s)
          here.0 at_start in cc) in
          subst (λ (x : State). MayTurn x t) (sym was) (λ e. settled_not_open m (sym here.1 ∙ e)))
      | inr other ↦ turned i s t (get_set_other start node i Open other.0 ∙ at_start) other.1
    ]

IsSettled-as : (m : Option Measure) → IsSettled (settled_as m)
IsSettled-as None = tt
IsSettled-as (Some a) = tt

pub end_settled : (states : List State) (node : ℕ) (m : Option Measure) → node < length states → (s : State)
    → slice_get (set states node (settled_as m)) node ≡ Some s → IsSettled s
end_settled states node m inside s at =
    let here = get_set_same states node (settled_as m) inside in
    let e : settled_as m ≡ s = cc in
    subst IsSettled e (IsSettled-as m)

-- a link of a row is an edge
pub row-edge : (g : Links) (node at next : ℕ) (row : List (Option ℕ)) (link : Option ℕ) → slice_get g node ≡ Some row
    → at < length row → link ≡ get_or row at None → link ≡ Some next → Edge g node next
row-edge g node at next row link is inside link_is named =
    record {
      row = row;
      row_is = is;
      has = subst (λ (l : Option ℕ). Contains row l) (sym link_is ∙ named) (Contains-get_or row at None inside);
    }

-- the number of new aliases falls when one is opened, and with what is visited
pub new_count-below : (start states : List State) (node : ℕ) → slice_get start node ≡ Some New
    → length states ≡ length start → Turned (set start node Open) states → new_count states + 1 ≤ new_count start
new_count-below start states node new long turned =
    let opened = new_count-set start node new in
    let less = new_count-turned (set start node Open) states (long ∙ sym (length-set start node Open)) turned in
    omega (arith, opened, less)

-- a settled state stays settled
settled_stays : (s t : State) → IsSettled s → MayTurn s t → IsSettled t
settled_stays New t h m = absurd h
settled_stays Open t h m = absurd h
settled_stays (Done a) t h m = subst IsSettled (sym m) tt
settled_stays Looped t h m = subst IsSettled (sym m) tt

-- the aliases before `at` are visited, and none is open
pub record VisitedTo (g : Links) (states : List State) (at : ℕ) : Type 0 where
  pub held : StatesHold g states
  pub calm : (i : ℕ) → slice_get states i ≡ Some Open → ⊥
  pub settled : (i : ℕ) (s : State) → i < at → slice_get states i ≡ Some s → IsSettled s

pub VisitedTo-next : (g : Links) (old new : List State) (at : ℕ) → length new ≡ length old → VisitedTo g old at
    → StatesHold g new → Turned old new → ((s : State) → slice_get new at ≡ Some s → IsSettled s) → VisitedTo g new (at + 1)
VisitedTo-next g old new at long before held turned here = record {
  held = held;
  calm = λ i is. before.calm i (Turned-open old new i long turned is);
  settled = λ i s less is. elim (same_or_not i at) [
    | inl same ↦ here s (subst (λ (k : ℕ). slice_get new k ≡ Some s) same is)
    | inr apart ↦
        (let inside = within_get new i s is in
        let was = get_within old i (omega (arith, inside, long)) in
        settled_stays was.0 s (before.settled i was.0 (omega (arith, apart)) was.1) (turned i was.0 s was.1 is))
  ];
}
