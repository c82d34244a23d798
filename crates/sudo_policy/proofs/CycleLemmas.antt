-- An alias that has a measure reaches no cycle.
use Rattle.std.proofs.Common.{◌≡◌, ℕ, zero, suc, ◌<◌, Bool, true, false, ◌||◌, not, List, [], ◌∷◌, length, map, set}
use Rattle.std.proofs.Common.{Option, None, Some, refl, sym, ◌∙◌, ap, subst, arith, inl, inr, ◌⊎◌}
use Rattle.std.specs.Prelude.{slice_get, Contains, option_map, option_and_then}
use Rattle.std.specs.List.{list_any}
use Rattle.std.proofs.lemmas.List.{length-map, length-set}
use Rattle.std.proofs.lemmas.List.Elements.{Contains-append_cases}
use Rattle.sudo_policy.specs.declared.graph.Measure.{Measure}
use Rattle.sudo_policy.specs.declared.graph.State.{State}
use Rattle.sudo_policy.specs.declared.graph.State.TheVariants.{New, Open, Done, Looped}
use Rattle.sudo_policy.specs.Body.Graph.{Links, Edge, Path, step, more, ReachesCycle, measure_of_both, deeper}
use Rattle.sudo_policy.specs.Body.Graph.{link_measure, row_measure, measure_within, MarksOf, StateHolds, StatesHold}
use Rattle.sudo_policy.specs.Body.Graph.{IsSettled, is_looped}
use Rattle.sudo_policy.specs.Body.Marking.{IsMarked, IsUnmarked, AreSet, PathPast, ReversesUpTo, IsClosedOverCycles, DecidesCycles}
use Rattle.sudo_policy.proofs.FollowingLemmas.{option_join-parts, option_map-some}
use Rattle.sudo_policy.proofs.GraphLemmas.{Path-edge, Path-path}
use Rattle.sudo_policy.proofs.MarkingLemmas.{one_in, none_in, marked_or_not, marked_more, AreSet-kept, AreSet-cases}
use Rattle.sudo_policy.proofs.PastLemmas.{PathPast-path, PathPast-end, path_past}
use Rattle.sudo_policy.proofs.StateLemmas.{get_set_cases, get_within, within_get}

-- the first edge of a path
path_first : (g : Links) (i j : ℕ) → Path g i j → (k : ℕ) × Edge g i k × ((k ≡ j) ⊎ Path g k j)
path_first g i j (step e) = (j, e, inl refl)
path_first g i j (more e path) = (_, e, inr path)

-- an alias that reaches a cycle names one that does
pub ReachesCycle-next : (g : Links) (i : ℕ) → ReachesCycle g i → (j : ℕ) × Edge g i j × ReachesCycle g j
ReachesCycle-next g i r = by r.way
  where
    from : Path g i r.on → (j : ℕ) × Edge g i j × ReachesCycle g j
    from path = let k = path_first g i r.on path in (k.0, k.1, record { on = r.on; cycle = r.cycle; way = k.2 })

    by : (i ≡ r.on) ⊎ Path g i r.on → (j : ℕ) × Edge g i j × ReachesCycle g j
    by (inl same) = from (subst (λ (k : ℕ). Path g k r.on) (sym same) r.cycle)
    by (inr path) = from path

-- each link of a row with a measure leads to an alias with one
link_has : (inner : ℕ → Option Measure) (row : List (Option ℕ)) (a : Measure) (j : ℕ) → row_measure inner row ≡ Some a
    → Contains row (Some j) → (b : Measure) × (inner j ≡ Some b)
link_has inner [] a j is has = absurd (none_in (Some j) has)
link_has inner (l ∷ ls) a j is has =
    let k = option_join-parts measure_of_both (link_measure inner l) (row_measure inner ls) a is in
    elim (Contains-append_cases (l ∷ []) ls (Some j) has) [
      | inl first ↦
          (let same : l ≡ Some j = one_in l (Some j) first in
          let at : option_map deeper (inner j) ≡ Some k.first =
          subst (λ (x : Option ℕ). link_measure inner x ≡ Some k.first) same k.first_is in
          let m = option_map-some deeper (inner j) k.first at in
          (m.0, m.1))
      | inr rest ↦ link_has inner ls k.second j k.second_is rest
    ]

row_lacks : (g : Links) (inner : ℕ → Option Measure) (i j : ℕ) (a : Measure) → Edge g i j
    → option_and_then (row_measure inner) (slice_get g i) ≡ Some a → (b : Measure) × (inner j ≡ Some b)
row_lacks g inner i j a e is =
    let at : row_measure inner e.row ≡ Some a =
    subst (λ (o : Option (List (Option ℕ))). option_and_then (row_measure inner) o ≡ Some a) e.row_is is in
    link_has inner e.row a j at e.has

pub no_measure : (g : Links) (n i : ℕ) (a : Measure) → ReachesCycle g i → measure_within g n i ≡ Some a → ⊥
unfolding measure_within
no_measure g zero i a r is =
    let next = ReachesCycle-next g i r in
    let b = row_lacks g (λ _. None) i next.0 a next.1 is in
    let none : None ≡ Some b.0 = b.1 in
    cc
no_measure g (suc n) i a r is =
    let next = ReachesCycle-next g i r in
    let b = row_lacks g (measure_within g n) i next.0 a next.1 is in
    no_measure g n next.0 b.0 next.2 b.1

-- an alias whose visit is over and that does not reach a cycle is on none
pub not_looped : (g : Links) (i : ℕ) (s : State) → StateHolds g i s → IsSettled s → (s ≡ Looped → ⊥) → Path g i i → ⊥
not_looped g i New held settled apart path = absurd settled
not_looped g i Open held settled apart path = absurd settled
not_looped g i (Done a) held settled apart path = no_measure g held.steps i a (record { on = i; cycle = path; way = inl refl }) held.reads
not_looped g i Looped held settled apart path = absurd (apart refl)

any_at : (states : List State) (i : ℕ) → slice_get states i ≡ Some Looped → list_any is_looped states ≡ true
any_at [] i h = cc
any_at (s ∷ ss) zero h = let e : s ≡ Looped = cc in ap (λ (x : State). is_looped x || list_any is_looped ss) e
any_at (s ∷ ss) (suc i) h = by (is_looped s) (any_at ss i h)
  where
    by : (b : Bool) → list_any is_looped ss ≡ true → (b || list_any is_looped ss) ≡ true
    by true h = refl
    by false h = h

edge_inside : (g : Links) (i j : ℕ) → Edge g i j → i < length g
edge_inside g i j e = within_get g i e.row e.row_is

pub path_inside : (g : Links) (i j : ℕ) → Path g i j → i < length g
path_inside g i j path = let k = path_first g i j path in edge_inside g i k.0 k.1

pub on_cycle_inside : (g : Links) (i : ℕ) → Path g i i → i < length g
on_cycle_inside g i path = path_inside g i i path

-- where no alias reaches a cycle, none is on one
pub cycle_free : (g : Links) (states : List State) → StatesHold g states
    → ((i : ℕ) (s : State) → slice_get states i ≡ Some s → IsSettled s) → length states ≡ length g
    → list_any is_looped states ≡ false → (i : ℕ) → Path g i i → ⊥
cycle_free g states held settled long none i path =
    let less = path_inside g i i path in
    let s = get_within states i (omega (arith, less, long)) in
    not_looped g i s.0 (held i s.0 s.1) (settled i s.0 s.1)
    (λ e. (let some : true ≡ false = sym (any_at states i (s.1 ∙ ap Some e)) ∙ none in cc)) path

-- ---- The marks of cycles

pub no_marks : (g : Links) (marks : List Bool) → length marks ≡ length g
    → ((j : ℕ) (m : Bool) → slice_get marks j ≡ Some m → m ≡ false) → ((i : ℕ) → Path g i i → ⊥)
    → MarksOf (length g) (λ i. Path g i i) marks
no_marks g marks long blank free = record {
  same_length = long;
  exact = λ i mark at. (
    (λ h. (let e : false ≡ true = sym (blank i mark at) ∙ h in cc)),
    (λ path. absurd (free i path)),
  );
}

-- ---- The aliases round an alias

-- a path along links that are turned round
Path-turned : (g back : Links) → ((i j : ℕ) → Edge back j i → Edge g i j) → (i j : ℕ) → Path back j i → Path g i j
Path-turned g back only i j (step e) = step (only i j e)
Path-turned g back only i j (more e path) = Path-edge g i _ j (Path-turned g back only i _ path) (only _ j e)

path_back : (g back : Links) → ReversesUpTo g (length g) back → (i j : ℕ) → Path g i j → Path back j i
path_back g back t i j (step e) = step (t.all i j (edge_inside g i j e) e)
path_back g back t i j (more e path) = Path-edge back j _ i (path_back g back t _ j path) (t.all i _ (edge_inside g i _ e) e)

-- behind an alias that is not done are, past those that are done, all that it leads to and is reached from
in_behind : (g back : Links) (node : ℕ) (done : List Bool) (behind : List ℕ) → ReversesUpTo g (length g) back
    → length done ≡ length g → IsClosedOverCycles g done → IsUnmarked done node
    → ((i : ℕ) → PathPast back done node i → Contains behind i) → (i : ℕ) → Path g node i → Path g i node → Contains behind i
in_behind g back node done behind t long whole new found i there back_path =
    found i (path_past back done node i (path_back g back t i node back_path) free)
  where
    free : (k : ℕ) → Path back node k → (k ≡ i) ⊎ Path back k i → IsUnmarked done k
    free k from on =
        let to_node : Path g k node = Path-turned g back t.only k node from in
        let from_node : Path g node k = elim on [
          | inl same ↦ subst (Path g node) (sym same) there
          | inr path ↦ Path-path g node i k there (Path-turned g back t.only i k path)
        ] in
        let less = path_inside g k node to_node in
        let m = get_within done k (omega (arith, less, long)) in
        elim (marked_or_not done k m.0 m.1) [
          | inl marked ↦ (let was : IsMarked done node = whole k node marked to_node from_node in
              let both : Some false ≡ Some true = sym new ∙ was in cc)
          | inr not ↦ m.1 ∙ ap Some not
        ]

-- of those behind an alias, those that it leads to past the others are the ones on a cycle with it
pub round_is : (g back : Links) (node : ℕ) (done aside mid : List Bool) (behind round : List ℕ)
    → ReversesUpTo g (length g) back → length done ≡ length g → IsClosedOverCycles g done → IsUnmarked done node
    → ((i : ℕ) (m : Bool) → slice_get aside i ≡ Some m → m ≡ true) → AreSet false behind aside mid
    → ((i : ℕ) → (Contains behind i → PathPast back done node i) × (PathPast back done node i → Contains behind i))
    → ((i : ℕ) → (Contains round i → PathPast g mid node i) × (PathPast g mid node i → Contains round i))
    → (i : ℕ) → (Contains round i → Path g node i × Path g i node) × (Path g node i × Path g i node → Contains round i)
round_is g back node done aside mid behind round t long whole new full s behind_is found i = (
  (λ h. (let path = (found i).0 h in (PathPast-path g mid node i path, to_node i (PathPast-end g mid node i path)))),
  (λ both. (found i).1 (path_past g mid node i both.0
      (λ k from on. s.those k (in_behind g back node done behind t long whole new (λ j. (behind_is j).1) k from (onward k on both.1))))),
)
  where
    to_node : (k : ℕ) → IsUnmarked mid k → Path g k node
    to_node k free = elim (s.only k false free) [
      | inl was ↦ (let e : false ≡ true = full k false was in cc)
      | inr here ↦ Path-turned g back t.only k node (PathPast-path back done node k ((behind_is k).0 here.0))
    ]

    onward : (k : ℕ) → (k ≡ i) ⊎ Path g k i → Path g i node → Path g k node
    onward k (inl same) path = subst (λ (j : ℕ). Path g j node) (sym same) path
    onward k (inr on) path = Path-path g k i node on path

-- ---- What is decided

-- the aliases that reach no cycle are done
pub DecidesCycles-begin : (g : Links) (states : List State) (done cyclic : List Bool) → StatesHold g states
    → ((i : ℕ) (s : State) → slice_get states i ≡ Some s → IsSettled s) → length states ≡ length g
    → done ≡ map (λ s. not (is_looped s)) states → length cyclic ≡ length g
    → ((i : ℕ) (m : Bool) → slice_get cyclic i ≡ Some m → m ≡ false) → DecidesCycles g done cyclic
DecidesCycles-begin g states done cyclic held settled long is cyclic_long blank = record {
  done_length = ap length is ∙ length-map states (λ s. not (is_looped s)) ∙ long;
  cyclic_length = cyclic_long;
  whole = λ i j h there back. absurd (free i h (Path-path g i j i there back));
  sound = λ i h. (let e : true ≡ false = blank i true h in cc);
  found = λ i h path. absurd (free i h path);
}
  where
    unlooped : (ss : List State) (i : ℕ) → IsMarked (map (λ s. not (is_looped s)) ss) i
        → (s : State) × (slice_get ss i ≡ Some s) × (s ≡ Looped → ⊥)
    unlooped [] i h = cc
    unlooped (s ∷ ss) zero h = (
      s,
      refl,
      λ e. (let was : Some (not (is_looped s)) ≡ Some true = h in
          let k : not (is_looped s) ≡ false = ap (λ (x : State). not (is_looped x)) e in cc),
    )
    unlooped (s ∷ ss) (suc i) h = unlooped ss i h

    free : (i : ℕ) → IsMarked done i → Path g i i → ⊥
    free i h path =
        let s = unlooped states i (ap (λ (xs : List Bool). slice_get xs i) (sym is) ∙ h) in
        not_looped g i s.0 (held i s.0 s.1) (settled i s.0 s.1) s.2 path

-- an alias and those round it are done
pub DecidesCycles-next : (g : Links) (node : ℕ) (done cyclic : List Bool) (round : List ℕ)
    (new_cyclic mid : List Bool) → node < length g → DecidesCycles g done cyclic
    → ((i : ℕ) → (Contains round i → Path g node i × Path g i node) × (Path g node i × Path g i node
    → Contains round i)) → AreSet true round cyclic new_cyclic → AreSet true round done mid → DecidesCycles g (set mid node true) new_cyclic
DecidesCycles-next g node done cyclic round new_cyclic mid inside d round_are c s = record {
  done_length = length-set mid node true ∙ s.same_length ∙ d.done_length;
  cyclic_length = c.same_length ∙ d.cyclic_length;
  whole = λ i j h there back. elim (cases i h) [
    | inl was ↦ marked_more mid node j mid_inside (AreSet-kept round done mid j s (d.whole i j was there back))
    | inr near ↦ marked_more mid node j mid_inside (s.those j ((round_are j).1 (leads i j near there, returns i j near back)))
  ];
  sound = λ i h. elim (AreSet-cases round cyclic new_cyclic i c h) [
    | inl was ↦ d.sound i was
    | inr here ↦ (let way = (round_are i).0 here in Path-path g i node i way.1 way.0)
  ];
  found = λ i h path. elim (cases i h) [
    | inl was ↦ AreSet-kept round cyclic new_cyclic i c (d.found i was path)
    | inr near ↦ c.those i ((round_are i).1 (leads i i near path, returns i i near path))
  ];
}
  where
    mid_inside : node < length mid
    mid_inside = let long = s.same_length in let sizes = d.done_length in omega (arith, inside, long, sizes)

    -- what is done was done before, or is the alias, or is round it
    cases : (i : ℕ) → IsMarked (set mid node true) i → IsMarked done i ⊎ ((i ≡ node) ⊎ Contains round i)
    cases i h = elim (get_set_cases mid node i true true mid_inside h) [
      | inl here ↦ inr (inl here.0)
      | inr other ↦ (elim (AreSet-cases round done mid i s other.1) [ inl was ↦ inl was | inr here ↦ inr (inr here) ])
    ]

    leads : (i j : ℕ) → (i ≡ node) ⊎ Contains round i → Path g i j → Path g node j
    leads i j (inl same) path = subst (λ (k : ℕ). Path g k j) same path
    leads i j (inr here) path = Path-path g node i j ((round_are i).0 here).0 path

    returns : (i j : ℕ) → (i ≡ node) ⊎ Contains round i → Path g j i → Path g j node
    returns i j (inl same) path = subst (Path g j) same path
    returns i j (inr here) path = Path-path g j i node path ((round_are i).0 here).1
