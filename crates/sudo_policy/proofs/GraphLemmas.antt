-- Laws of visits.
use Rattle.std.proofs.Common.{◌≡◌, ℕ, zero, suc, ◌+◌, List, [], ◌∷◌, Option, None, Some, refl, sym, ◌∙◌, ap, subst, arith, inl, inr, ◌⊎◌}
use Rattle.std.specs.Prelude.{option_and_then, option_map, slice_get}
use Rattle.sudo_policy.specs.declared.graph.Measure.{Measure}
use Rattle.sudo_policy.specs.Body.Graph.{Links, Edge, Path, step, more, ReachesCycle, measure_of_both, deeper}
use Rattle.sudo_policy.specs.Body.Graph.{measure_of_one, measure_of_none, link_measure, row_measure, measure_within}
use Rattle.sudo_policy.specs.Body.Graph.{Measures}
use Rattle.sudo_policy.proofs.FollowingLemmas.{option_join-parts, option_join-from, option_map-some}

-- a measure stays, where definitions have as much and more
link_more : (inner up : ℕ → Option Measure) → ((i : ℕ) (a : Measure) → inner i ≡ Some a → up i ≡ Some a)
    → (l : Option ℕ) (a : Measure) → link_measure inner l ≡ Some a → link_measure up l ≡ Some a
link_more inner up all None a h = h
link_more inner up all (Some j) a h =
    let k = option_map-some deeper (inner j) a h in
    ap (option_map deeper) (all j k.0 k.1) ∙ ap Some (sym k.2)

row_more : (inner up : ℕ → Option Measure) → ((i : ℕ) (a : Measure) → inner i ≡ Some a → up i ≡ Some a)
    → (ls : List (Option ℕ)) (a : Measure) → row_measure inner ls ≡ Some a → row_measure up ls ≡ Some a
row_more inner up all [] a h = h
row_more inner up all (l ∷ ls) a h =
    let k = option_join-parts measure_of_both _ _ a h in
    option_join-from measure_of_both _ _ k.first k.second a (link_more inner up all l k.first k.first_is)
    (row_more inner up all ls k.second k.second_is) k.whole

-- the value that an option leads to is there
pub and_then_some : {A B : Type 0} (f : A → Option B) (o : Option A) (b : B) → option_and_then f o ≡ Some b
    → (a : A) × (o ≡ Some a) × (f a ≡ Some b)
and_then_some f None b h = cc
and_then_some f (Some a) b h = (a, refl, h)

measure_step : (g : Links) (n i : ℕ) (a : Measure) → measure_within g n i ≡ Some a → measure_within g (suc n) i ≡ Some a
unfolding measure_within
measure_step g zero i a h =
    let k = and_then_some (row_measure (λ _. None)) (slice_get g i) a h in
    ap (option_and_then (row_measure (measure_within g zero))) k.1 ∙ row_more (λ _. None) (measure_within g zero) (λ j b e. cc) k.0 a k.2
measure_step g (suc n) i a h =
    let k = and_then_some (row_measure (measure_within g n)) (slice_get g i) a h in
    ap (option_and_then (row_measure (measure_within g (suc n)))) k.1
    ∙ row_more (measure_within g n) (measure_within g (suc n)) (measure_step g n) k.0 a k.2

pub measure_more : (g : Links) (k n i : ℕ) (a : Measure) → measure_within g n i ≡ Some a → measure_within g (k + n) i ≡ Some a
measure_more g zero n i a h = let e : 0 + n ≡ n = omega arith in rw e h
measure_more g (suc k) n i a h = let e : suc k + n ≡ suc (k + n) = omega arith in
    rw e (measure_step g (k + n) i a (measure_more g k n i a h))

-- a row, whose links lead to aliases with measures, has the measure a
pub record RowMeasures (g : Links) (row : List (Option ℕ)) (a : Measure) : Type 0 where
  pub steps : ℕ
  pub reads : row_measure (measure_within g steps) row ≡ Some a

pub RowMeasures-none : (g : Links) → RowMeasures g [] measure_of_none
RowMeasures-none g = record { steps = 0; reads = refl }

pub RowMeasures-alone : (g : Links) (row : List (Option ℕ)) (a : Measure) → RowMeasures g row a
    → RowMeasures g (None ∷ row) (measure_of_both measure_of_one a)
RowMeasures-alone g row a r = record { steps = r.steps; reads = option_join-from measure_of_both _ _ measure_of_one a _ refl r.reads refl }

pub RowMeasures-link : (g : Links) (j : ℕ) (row : List (Option ℕ)) (a b : Measure) → Measures g j b
    → RowMeasures g row a → RowMeasures g (Some j ∷ row) (measure_of_both (deeper b) a)
RowMeasures-link g j row a b one r =
    let here = measure_more g r.steps one.steps j b one.reads in
    let e : one.steps + r.steps ≡ r.steps + one.steps = omega arith in
    let up : (i : ℕ) (x : Measure) → measure_within g r.steps i ≡ Some x → measure_within g (r.steps + one.steps) i ≡ Some x =
    λ i x h. subst (λ (n : ℕ). measure_within g n i ≡ Some x) e (measure_more g one.steps r.steps i x h) in
    record {
      steps = r.steps + one.steps;
      reads = option_join-from measure_of_both _ _ (deeper b) a _ (ap (option_map deeper) here) (row_more _ _ up row a r.reads) refl;
    }

pub Measures-row : (g : Links) (i : ℕ) (row : List (Option ℕ)) (a : Measure) → slice_get g i ≡ Some row
    → RowMeasures g row a → Measures g i a
unfolding measure_within
Measures-row g i row a is r = record {
  steps = suc r.steps;
  reads = ap (option_and_then (row_measure (measure_within g r.steps))) is ∙ r.reads;
}

-- an edge to an alias that reaches a cycle
pub ReachesCycle-edge : (g : Links) (i j : ℕ) → Edge g i j → ReachesCycle g j → ReachesCycle g i
ReachesCycle-edge g i j e r = record { on = r.on; cycle = r.cycle; way = inr (way r.way) }
  where
    way : (j ≡ r.on) ⊎ Path g j r.on → Path g i r.on
    way (inl same) = subst (λ (k : ℕ). Path g i k) same (step e)
    way (inr path) = more e path

-- an edge to an alias that leads back
pub ReachesCycle-back : (g : Links) (i j : ℕ) → Edge g i j → (j ≡ i) ⊎ Path g j i → ReachesCycle g i
ReachesCycle-back g i j e (inl same) = record { on = i; cycle = subst (λ (k : ℕ). Path g i k) same (step e); way = inl refl }
ReachesCycle-back g i j e (inr path) = record { on = i; cycle = more e path; way = inl refl }

-- a path and an edge after it
pub Path-edge : (g : Links) (i j k : ℕ) → Path g i j → Edge g j k → Path g i k
Path-edge g i j k (step e) f = more e (step f)
Path-edge g i j k (more e path) f = more e (Path-edge g _ j k path f)

-- a path and a path after it
pub Path-path : (g : Links) (i j k : ℕ) → Path g i j → Path g j k → Path g i k
Path-path g i j k (step e) p = more e p
Path-path g i j k (more e path) p = more e (Path-path g _ j k path p)
