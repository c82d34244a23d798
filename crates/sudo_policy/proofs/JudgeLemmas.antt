-- The judgement of each alias, by the visit of the graph.
use Rattle.std.proofs.Common.{◌≡◌, ℕ, suc, min, Bool, true, false, not, List, [], ◌∷◌, map, length, Some, refl, sym, ◌∙◌, ap, subst, arith}
use Rattle.std.specs.Prelude.{slice_get}
use Rattle.std.proofs.lemmas.Bool.{lt-ltb, ltb-true}
use Rattle.std.proofs.lemmas.Option.{slice_get-map}
use Rattle.sudo_grammar.specs.declared.kind.Kind.{Kind}
use Rattle.sudo_grammar.specs.declared.policy.Policy.{Policy}
use Rattle.sudo_policy.specs.declared.graph.Measure.{Measure}
use Rattle.sudo_policy.specs.declared.graph.State.{State}
use Rattle.sudo_policy.specs.declared.graph.State.TheVariants.{New, Open, Done, Looped}
use Rattle.sudo_policy.specs.declared.index.Position.{Position}
use Rattle.sudo_policy.specs.Definitions.{AliasDefinition, definitions}
use Rattle.sudo_policy.specs.Following.{ReadsAs, depth, width}
use Rattle.sudo_policy.specs.Found.{Marks, IsCyclic, IsTooDeep, IsTooWide, IsUnused}
use Rattle.sudo_policy.specs.Body.Graph.{Links, Path, ReachesCycle, Measures, StateHolds, StatesHold, IsSettled, MarksOf, IsReached}
use Rattle.sudo_policy.specs.Body.Judgement.{is_deep, is_wide}
use Rattle.sudo_policy.specs.Body.DefinitionRef.{IsIndexed}
use Rattle.sudo_policy.proofs.CycleLemmas.{no_measure, on_cycle_inside}
use Rattle.sudo_policy.proofs.FollowingLemmas.{reading_same, option_map-some}
use Rattle.sudo_policy.proofs.LinkLemmas.{graph, roots, cyclic_is, reached_used, used_reached}
use Rattle.sudo_policy.proofs.MeasureLemmas.{measure_is}
use Rattle.sudo_policy.proofs.ReadingMaps.{depth_measured, width_measured, list_measure-deep, list_measure-wide}
use Rattle.sudo_policy.proofs.StateLemmas.{get_within, within_get}

-- marks that say of each number what T says of the definition there
pub Marks-from : (T : AliasDefinition → Type 0) (U : ℕ → Type 0) (ds : List AliasDefinition) (marks : List Bool)
    → MarksOf (length ds) U marks → ((i : ℕ) (d : AliasDefinition) → slice_get ds i ≡ Some d → (U i → T d) × (T d → U i)) → Marks T ds marks
Marks-from T U ds marks m agree = record {
  same_length = m.same_length;
  exact = λ i d mark at_d at. (
    (λ h. (agree i d at_d).0 ((m.exact i mark at).0 h)),
    (λ t. (m.exact i mark at).1 ((agree i d at_d).1 t)),
  );
}

-- marks by a test of each item
pub Marks-tested : {X : Type 0} (T : AliasDefinition → Type 0) (ds : List AliasDefinition) (xs : List X) (test : X
    → Bool) → length xs ≡ length ds → ((i : ℕ) (d : AliasDefinition) (x : X) → slice_get ds i ≡ Some d
    → slice_get xs i ≡ Some x → (test x ≡ true → T d) × (T d → test x ≡ true)) → Marks T ds (map test xs)
Marks-tested T ds xs test long agree = record {
  same_length = length_mapped test xs ∙ long;
  exact = λ i d mark at_d at. (
      let k = option_map-some test (slice_get xs i) mark (sym (slice_get-map test xs i) ∙ at) in (
        (λ h. (agree i d k.0 at_d k.1).0 (sym k.2 ∙ h)),
        (λ t. k.2 ∙ (agree i d k.0 at_d k.1).1 t),
      ));
}
  where
    length_mapped : {X Y : Type 0} (f : X → Y) (xs : List X) → length (map f xs) ≡ length xs
    length_mapped f [] = refl
    length_mapped f (x ∷ xs) = ap suc (length_mapped f xs)

module _ (p : Policy) (aliases : List AliasDefinition) (names : Kind → List (List ℕ × ℕ)) (positions : List Position)
    (x : IsIndexed p (definitions p) aliases names positions) where
  abbrev g : Links
  g = graph p aliases names positions x

  -- an alias with a measure has a depth and a width
  done_depth : (i : ℕ) (d : AliasDefinition) (a : Measure) → slice_get aliases i ≡ Some d → Measures g i a
      → (n : ℕ) × ReadsAs depth d.kind p d.members n × (a.depth ≡ min n 65)
  done_depth i d a at m =
      let k = depth_measured d.kind p m.steps d.members a (measure_is p aliases names positions x m.steps i d at ∙ m.reads) in
      (k.0, record { steps = m.steps; reads = k.1 }, k.2)

  done_width : (i : ℕ) (d : AliasDefinition) (a : Measure) → slice_get aliases i ≡ Some d → Measures g i a
      → (n : ℕ) × ReadsAs width d.kind p d.members n × (a.width ≡ min n 65537)
  done_width i d a at m =
      let k = width_measured d.kind p m.steps d.members a (measure_is p aliases names positions x m.steps i d at ∙ m.reads) in
      (k.0, record { steps = m.steps; reads = k.1 }, k.2)

  looped_depth : (i : ℕ) (d : AliasDefinition) (n : ℕ) → slice_get aliases i ≡ Some d → ReachesCycle g i
      → ReadsAs depth d.kind p d.members n → ⊥
  looped_depth i d n at r reads =
      let a = list_measure-deep d.kind p reads.steps d.members n reads.reads in
      no_measure g reads.steps i a.0 r (sym (measure_is p aliases names positions x reads.steps i d at) ∙ a.1)

  looped_width : (i : ℕ) (d : AliasDefinition) (n : ℕ) → slice_get aliases i ≡ Some d → ReachesCycle g i
      → ReadsAs width d.kind p d.members n → ⊥
  looped_width i d n at r reads =
      let a = list_measure-wide d.kind p reads.steps d.members n reads.reads in
      no_measure g reads.steps i a.0 r (sym (measure_is p aliases names positions x reads.steps i d at) ∙ a.1)

  pub deep_is : (i : ℕ) (d : AliasDefinition) (s : State) → slice_get aliases i ≡ Some d → StateHolds g i s
      → IsSettled s → (is_deep s ≡ true → IsTooDeep p d) × (IsTooDeep p d → is_deep s ≡ true)
  deep_is i d New at held settled = absurd settled
  deep_is i d Open at held settled = absurd settled
  deep_is i d Looped at held settled = ((λ h. cc), (λ t. absurd (looped_depth i d t.inner at held t.inner_is)))
  deep_is i d (Done a) at held settled =
      let k = done_depth i d a at held in
      let capped : a.depth ≡ min k.0 65 = k.2 in (
        (λ h. (let over = ltb-true 63 a.depth h in record { inner = k.0; inner_is = k.1; over = omega (arith, over, capped) })),
        (λ t. (let same : t.inner ≡ k.0 = reading_same depth d.kind p t.inner_is.steps k.1.steps d.members t.inner k.0
            t.inner_is.reads k.1.reads in
            let over = t.over in
            lt-ltb 63 a.depth (omega (arith, over, same, capped)))),
      )

  pub wide_is : (i : ℕ) (d : AliasDefinition) (s : State) → slice_get aliases i ≡ Some d → StateHolds g i s
      → IsSettled s → (is_wide s ≡ true → IsTooWide p d) × (IsTooWide p d → is_wide s ≡ true)
  wide_is i d New at held settled = absurd settled
  wide_is i d Open at held settled = absurd settled
  wide_is i d Looped at held settled = ((λ h. cc), (λ t. absurd (looped_width i d t.members at held t.members_are)))
  wide_is i d (Done a) at held settled =
      let k = done_width i d a at held in
      let capped : a.width ≡ min k.0 65537 = k.2 in (
        (λ h. (let over = ltb-true 65536 a.width h in record { members = k.0; members_are = k.1; over = omega (arith, over, capped) })),
        (λ t. (let same : t.members ≡ k.0 = reading_same width d.kind p t.members_are.steps k.1.steps d.members
            t.members k.0 t.members_are.reads k.1.reads in
            let over = t.over in
            lt-ltb 65536 a.width (omega (arith, over, same, capped)))),
      )

  known_depth : (i : ℕ) (d : AliasDefinition) (s : State) → slice_get aliases i ≡ Some d → StateHolds g i s
      → IsSettled s → ((j : ℕ) → Path g j j → ⊥) → (n : ℕ) × ReadsAs depth d.kind p d.members n
  known_depth i d New at held settled free = absurd settled
  known_depth i d Open at held settled free = absurd settled
  known_depth i d Looped at held settled free = absurd (free held.on held.cycle)
  known_depth i d (Done a) at held settled free = let k = done_depth i d a at held in (k.0, k.1)

  module _ (states : List State) (long : length states ≡ length aliases) (g_long : length g ≡ length aliases)
      (held : StatesHold g states) (settled : (i : ℕ) (s : State) → slice_get states i ≡ Some s → IsSettled s)
      (cyclic used : List Bool) (cyclic_marks : MarksOf (length g) (λ i. Path g i i) cyclic)
      (used_marks : MarksOf (length g) (IsReached g (roots p aliases names positions x)) used) where
    pub cyclic_are : Marks (IsCyclic p) aliases cyclic
    cyclic_are = Marks-from (IsCyclic p) (λ i. Path g i i) aliases cyclic
        (subst (λ (n : ℕ). MarksOf n (λ i. Path g i i) cyclic) g_long cyclic_marks) (cyclic_is p aliases names positions x)

    pub deep_are : Marks (IsTooDeep p) aliases (map is_deep states)
    deep_are = Marks-tested (IsTooDeep p) aliases states is_deep long (λ i d s at_d at. deep_is i d s at_d (held i s at) (settled i s at))

    pub wide_are : Marks (IsTooWide p) aliases (map is_wide states)
    wide_are = Marks-tested (IsTooWide p) aliases states is_wide long (λ i d s at_d at. wide_is i d s at_d (held i s at) (settled i s at))

    pub unused_are : Marks (IsUnused p) aliases (map not used)
    unused_are =
        let all : length used ≡ length g = used_marks.same_length in
        Marks-tested (IsUnused p) aliases used not (omega (arith, all, g_long))
        (λ i d u at_d at. (
          (λ h. (λ uses. (let is : u ≡ true = (used_marks.exact i u at).1
              (used_reached p aliases names positions x i d at_d uses) in let both : not true ≡ true =
              subst (λ b. not b ≡ true) is h in cc))),
          (λ none. unmarked u (λ h. none (reached_used p aliases names positions x i d at_d ((used_marks.exact i u at).0 h)))),
        ))
      where
        unmarked : (u : Bool) → (u ≡ true → ⊥) → not u ≡ true
        unmarked true h = absurd (h refl)
        unmarked false h = refl

    pub have_depths : ((i : ℕ) → slice_get cyclic i ≡ Some true → ⊥) → (i : ℕ) (d : AliasDefinition)
        → slice_get aliases i ≡ Some d → (n : ℕ) × ReadsAs depth d.kind p d.members n
    have_depths none i d at =
        let inside = within_get aliases i d at in
        let s = get_within states i (omega (arith, inside, long)) in
        known_depth i d s.0 at (held i s.0 s.1) (settled i s.0 s.1) free
      where
        free : (j : ℕ) → Path g j j → ⊥
        free j path =
            let less = on_cycle_inside g j path in
            let all : length cyclic ≡ length g = cyclic_marks.same_length in
            let m = get_within cyclic j (omega (arith, less, all)) in
            none j (m.1 ∙ ap Some ((cyclic_marks.exact j m.0 m.1).1 path))
