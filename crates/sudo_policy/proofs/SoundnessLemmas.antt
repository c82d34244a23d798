-- A policy whose findings have no error: its lists resolve.
use Rattle.std.proofs.Common.{◌≡◌, ℕ, zero, suc, ◌+◌, ◌≤◌, ◌<◌, max, Bool, true, false, cond, ◌&&◌, ◌||◌, List, []}
use Rattle.std.proofs.Common.{◌∷◌, ◌++◌, map, length, Option, None, Some, refl, sym, ◌∙◌, ap, subst, arith, inl, inr}
use Rattle.std.proofs.Common.{◌⊎◌}
use Rattle.std.specs.Prelude.{slice_get, option_map, option_and_then, option_to_list, is_some, is_none, filter, flat_map}
use Rattle.std.specs.List.{list_any, list_all, items_where_true}
use Rattle.std.proofs.lemmas.Bool.{and_parts, and_from}
use Rattle.sudo_grammar.specs.declared.kind.Kind.{Kind}
use Rattle.sudo_grammar.specs.declared.kind.Member.{Member}
use Rattle.sudo_grammar.specs.declared.kind.Signed.{Signed}
use Rattle.sudo_grammar.specs.declared.policy.Policy.{Policy}
use Rattle.sudo_policy.specs.declared.finding.Class.{Class}
use Rattle.sudo_policy.specs.declared.finding.Class.TheVariants.{Redefined, Undefined, Cycle, TooDeep, TooWide, Unused}
use Rattle.sudo_policy.specs.declared.finding.Finding.{Finding}
use Rattle.sudo_policy.specs.Definitions.{AliasDefinition, MemberList, aliases, redefinitions, definitions, in_force}
use Rattle.sudo_policy.specs.Definitions.{lists, alias_named, names_used}
use Rattle.sudo_policy.specs.Following.{ReadsAs, reading_within, list_reading, member_reading, definition_of_member, depth}
use Rattle.sudo_policy.specs.Found.{AreFindings, found_by, finding_on, undefined_in, has_error, is_error, IsTooDeep}
use Rattle.sudo_policy.specs.Resolving.{resolves, IsSound}
use Rattle.sudo_policy.specs.Written.{writing, alone_written}
use Rattle.sudo_policy.proofs.FollowingLemmas.{option_join-parts, option_join-from, reading_more, option_map-some}
use Rattle.sudo_policy.proofs.Laws.{both_there}
use Rattle.sudo_policy.proofs.SoundLemmas.{all_weaker, in_force_passes}
use Rattle.sudo_policy.proofs.StateLemmas.{get_within, within_get}

-- ---- No error among findings

any_append : {X : Type 0} (f : X → Bool) (xs ys : List X) → list_any f (xs ++ ys) ≡ false
    → (list_any f xs ≡ false) × (list_any f ys ≡ false)
any_append f [] ys h = (refl, h)
any_append f (x ∷ xs) ys h = by (f x) h (any_append f xs ys)
  where
    by : (b : Bool) → (b || list_any f (xs ++ ys)) ≡ false
        → (list_any f (xs ++ ys) ≡ false → (list_any f xs ≡ false) × (list_any f ys ≡ false))
        → ((b || list_any f xs) ≡ false) × (list_any f ys ≡ false)
    by true h rest = cc
    by false h rest = rest h

abbrev error_finding : Finding → Bool
error_finding f = is_error f.class

-- findings of a class of errors: there are none
none_of_class : (class : Class) (ds : List AliasDefinition) → is_error class ≡ true
    → has_error (map (finding_on class) ds) ≡ false → ds ≡ []
none_of_class class [] e h = refl
none_of_class class (d ∷ ds) e h = (let one : (is_error class || has_error (map (finding_on class) ds)) ≡ false = h in
    let all : (true || has_error (map (finding_on class) ds)) ≡ false =
    subst (λ b. (b || has_error (map (finding_on class) ds)) ≡ false) e one in cc)

-- no mark is true where nothing is picked
no_pick : (marks : List Bool) (ds : List AliasDefinition) → length marks ≡ length ds → items_where_true marks ds ≡ []
    → (i : ℕ) → slice_get marks i ≡ Some true → ⊥
no_pick [] ds long none i h = cc
no_pick (m ∷ ms) [] long none i h = absurd (omega (arith, long))
no_pick (true ∷ ms) (d ∷ ds) long none i h = cc
no_pick (false ∷ ms) (d ∷ ds) long none zero h = cc
no_pick (false ∷ ms) (d ∷ ds) long none (suc i) h = no_pick ms ds (omega (arith, long)) none i h

-- the uses of a list are of defined names
list_defined : (p : Policy) (l : MemberList) → has_error (undefined_in p l) ≡ false
    → list_all (λ name. is_some (in_force l.kind p name)) (names_used l.members) ≡ true
list_defined p l h = go (names_used l.members) h
  where
    go : (names : List (List ℕ)) → has_error
        (map (λ name. record { class = Undefined; place = l.place; kind = l.kind; name = name })
        (filter (λ name. is_none (in_force l.kind p name)) names)) ≡ false
        → list_all (λ name. is_some (in_force l.kind p name)) names ≡ true
    go [] h = refl
    go (n ∷ ns) h = by (in_force l.kind p n) h (go ns)
      where
        by : (o : Option (List Member))
            → has_error (map (λ name. record { class = Undefined; place = l.place; kind = l.kind; name = name })
            (cond (is_none o) (n ∷ filter (λ name. is_none (in_force l.kind p name)) ns)
            (filter (λ name. is_none (in_force l.kind p name)) ns))) ≡ false
            → (has_error (map (λ name. record { class = Undefined; place = l.place; kind = l.kind; name = name })
            (filter (λ name. is_none (in_force l.kind p name)) ns)) ≡ false
            → list_all (λ name. is_some (in_force l.kind p name)) ns ≡ true)
            → (is_some o && list_all (λ name. is_some (in_force l.kind p name)) ns) ≡ true
        by None h rest = cc
        by (Some ms) h rest = rest h

abbrev names_defined : Policy → Kind → List Member → Bool
names_defined p kind ms = list_all (λ name. is_some (in_force kind p name)) (names_used ms)

lists_defined : (p : Policy) (ls : List MemberList) → has_error (flat_map (undefined_in p) ls) ≡ false
    → list_all (λ (l : MemberList). names_defined p l.kind l.members) ls ≡ true
lists_defined p [] h = refl
lists_defined p (l ∷ ls) h =
    let k = any_append error_finding (undefined_in p l) (flat_map (undefined_in p) ls) h in
    and_from _ _ (list_defined p l k.0) (lists_defined p ls k.1)

-- ---- A depth is a number of steps that serves

less_or_same : (a b : ℕ) → a ≤ b → (k : ℕ) × (k + a ≡ b)
less_or_same zero b h = (b, omega arith)
less_or_same (suc a) zero h = absurd (omega (arith, h))
less_or_same (suc a) (suc b) h = let k = less_or_same a b (omega (arith, h)) in let e = k.1 in (k.0, omega (arith, e))

module _ (kind : Kind) (p : Policy) where
  more_steps : (a b : ℕ) (ms : List Member) (d : ℕ) → a ≤ b → reading_within depth kind p a ms ≡ Some d
      → reading_within depth kind p b ms ≡ Some d
  more_steps a b ms d h is = let k = less_or_same a b h in
      subst (λ (n : ℕ). reading_within depth kind p n ms ≡ Some d) k.1 (reading_more depth kind p k.0 a ms d is)

  -- where definitions need no more steps than their depth, so do the lists over them
  fewer : (inner less : List Member → Option ℕ) (bound : ℕ) → ((ms : List Member) (d : ℕ) → suc d ≤ bound
      → inner ms ≡ Some d → less ms ≡ Some d) → (ms : List Member) (d : ℕ) → d ≤ bound
      → list_reading depth kind p inner ms ≡ Some d → list_reading depth kind p less ms ≡ Some d
  fewer inner less bound agree [] d h is = is
  fewer inner less bound agree (m ∷ ms) d h is =
      let k = option_join-parts max (member_reading depth inner m (definition_of_member kind p m))
      (list_reading depth kind p inner ms) d is in
      let whole : d ≡ max k.first k.second = k.whole in
      option_join-from max (member_reading depth less m (definition_of_member kind p m))
      (list_reading depth kind p less ms) k.first k.second d
      (member (definition_of_member kind p m) k.first (omega (arith, whole, h)) k.first_is)
      (fewer inner less bound agree ms k.second (omega (arith, whole, h)) k.second_is)
      k.whole
    where
      member : (ds : Option (List Member)) (e : ℕ) → e ≤ bound → member_reading depth inner m ds ≡ Some e
          → member_reading depth less m ds ≡ Some e
      member None e le is = is
      member (Some ds) e le is =
          let k = option_map-some suc (inner ds) e is in
          let up : e ≡ suc k.0 = k.2 in
          ap (option_map suc) (agree ds k.0 (omega (arith, up, le)) k.1) ∙ ap Some (sym up)

  depth_serves : (n b : ℕ) (ms : List Member) (d : ℕ) → d ≤ b → reading_within depth kind p n ms ≡ Some d
      → reading_within depth kind p b ms ≡ Some d
  unfolding reading_within
  depth_serves zero b ms d h is = more_steps zero b ms d (omega arith) is
  depth_serves (suc n) zero ms d h is =
      fewer (reading_within depth kind p n) (λ _. None) zero (λ es e le at. absurd (omega (arith, le))) ms d h is
  depth_serves (suc n) (suc b) ms d h is =
      fewer (reading_within depth kind p n) (reading_within depth kind p b) (suc b)
      (λ es e le at. depth_serves n b es e (omega (arith, le)) at) ms d h is

-- ---- From depths to written forms

module _ (kind : Kind) (p : Policy) (known : (name : List ℕ) (ms : List Member) → in_force kind p name ≡ Some ms
    → names_defined p kind ms ≡ true) where
  written_list : (inner : List Member → Option ℕ) (other : List Member → Option (List Signed))
      → ((name : List ℕ) (ms : List Member) → in_force kind p name ≡ Some ms → is_some (inner ms) ≡ true
      → is_some (other ms) ≡ true) → (ms : List Member) → names_defined p kind ms ≡ true
      → is_some (list_reading depth kind p inner ms) ≡ true → is_some (list_reading writing kind p other ms) ≡ true
  written_list inner other agree [] named h = refl
  written_list inner other agree (m ∷ ms) named h =
      let k = and_parts _ _ (sym (both_there max (member_reading depth inner m (definition_of_member kind p m))
      (list_reading depth kind p inner ms)) ∙ h) in
      let n = named_parts (alias_named m.atom) named in
      both_there ◌++◌ (member_reading writing other m (definition_of_member kind p m)) (list_reading writing kind p other ms)
      ∙ and_from _ _ (member (alias_named m.atom) refl n.0 k.0) (written_list inner other agree ms n.1 k.1)
    where
      named_parts : (o : Option (List ℕ))
          → list_all (λ name. is_some (in_force kind p name)) (option_to_list o ++ names_used ms) ≡ true
          → (list_all (λ name. is_some (in_force kind p name)) (option_to_list o) ≡ true) × (names_defined p kind ms ≡ true)
      named_parts None h = (refl, h)
      named_parts (Some name) h = let k = and_parts (is_some (in_force kind p name)) _ h in
          (and_from (is_some (in_force kind p name)) true k.0 refl, k.1)

      mapped : {X Y : Type 0} (f : X → Y) (o : Option X) → is_some (option_map f o) ≡ is_some o
      mapped f None = refl
      mapped f (Some x) = refl

      defined : (name : List ℕ) (o : Option (List Member)) → in_force kind p name ≡ o → is_some o ≡ true
          → is_some (member_reading depth inner m o) ≡ true → is_some (member_reading writing other m o) ≡ true
      defined name None e there h = cc
      defined name (Some ds) e there h = mapped (writing.through m) (other ds) ∙ agree name ds e (sym (mapped suc (inner ds)) ∙ h)

      member : (o : Option (List ℕ)) → alias_named m.atom ≡ o
          → list_all (λ name. is_some (in_force kind p name)) (option_to_list o) ≡ true
          → is_some (member_reading depth inner m (definition_of_member kind p m)) ≡ true
          → is_some (member_reading writing other m (definition_of_member kind p m)) ≡ true
      member None e named h =
          let undefined : definition_of_member kind p m ≡ None = ap (λ (o : Option (List ℕ)). option_and_then (in_force kind p) o) e in
          ap (λ (o : Option (List Member)). is_some (member_reading writing other m o)) undefined
          ∙ ap (λ (o : Option (List ℕ)). is_some (alone_written m o)) e
      member (Some name) e named h =
          let is : definition_of_member kind p m ≡ in_force kind p name =
          ap (λ (o : Option (List ℕ)). option_and_then (in_force kind p) o) e in
          let there = (and_parts (is_some (in_force kind p name)) true named).0 in
          ap (λ (o : Option (List Member)). is_some (member_reading writing other m o)) is
          ∙ defined name (in_force kind p name) refl there
          (ap (λ (o : Option (List Member)). is_some (member_reading depth inner m o)) (sym is) ∙ h)

  written_within_depth : (n : ℕ) (ms : List Member) → names_defined p kind ms ≡ true
      → is_some (reading_within depth kind p n ms) ≡ true → is_some (reading_within writing kind p n ms) ≡ true
  unfolding reading_within
  written_within_depth zero ms named h = written_list (λ _. None) (λ _. None) (λ name ms e k. k) ms named h
  written_within_depth (suc n) ms named h =
      written_list (reading_within depth kind p n) (reading_within writing kind p n)
      (λ name ms e k. written_within_depth n ms (known name ms e) k) ms named h

  -- a list whose names are defined has a depth, where each definition has one below a bound
  deep_list : (n : ℕ) → ((name : List ℕ) (ms : List Member) → in_force kind p name ≡ Some ms
      → is_some (reading_within depth kind p n ms) ≡ true) → (ms : List Member)
      → is_some (list_reading depth kind p (reading_within depth kind p n) ms) ≡ true
  deep_list n deep [] = refl
  deep_list n deep (m ∷ ms) =
      both_there max (member_reading depth (reading_within depth kind p n) m (definition_of_member kind p m))
      (list_reading depth kind p (reading_within depth kind p n) ms)
      ∙ and_from _ _ (member (alias_named m.atom)) (deep_list n deep ms)
    where
      mapped : {X Y : Type 0} (f : X → Y) (o : Option X) → is_some (option_map f o) ≡ is_some o
      mapped f None = refl
      mapped f (Some x) = refl

      there : (o : Option (List Member))
          → ((ds : List Member) → o ≡ Some ds → is_some (reading_within depth kind p n ds) ≡ true)
          → is_some (member_reading depth (reading_within depth kind p n) m o) ≡ true
      there None h = refl
      there (Some ds) h = mapped suc (reading_within depth kind p n ds) ∙ h ds refl

      member : (o : Option (List ℕ))
          → is_some (member_reading depth (reading_within depth kind p n) m (option_and_then (in_force kind p) o)) ≡ true
      member None = refl
      member (Some name) = there (in_force kind p name) (λ ds e. deep name ds e)

  deep_within : (n : ℕ) → ((name : List ℕ) (ms : List Member) → in_force kind p name ≡ Some ms
      → is_some (reading_within depth kind p n ms) ≡ true) → (ms : List Member) → is_some (reading_within depth kind p (suc n) ms) ≡ true
  unfolding reading_within
  deep_within n deep ms = deep_list n deep ms

  list_resolves : ((name : List ℕ) (ms : List Member) → in_force kind p name ≡ Some ms
      → is_some (reading_within depth kind p 63 ms) ≡ true) → (ms : List Member) → names_defined p kind ms ≡ true
      → resolves kind p ms ≡ true
  unfolding resolves
  list_resolves deep ms named = written_within_depth 64 ms named (deep_within 63 deep ms)

-- ---- A policy without errors

module _ (p : Policy) (found : List Finding) (a : AreFindings p found) (none : has_error found ≡ false)
    (depths : ((i : ℕ) → slice_get a.cyclic i ≡ Some true → ⊥) → (i : ℕ) (d : AliasDefinition)
    → slice_get (aliases p) i ≡ Some d → (n : ℕ) × ReadsAs depth d.kind p d.members n)
    (among : (kind : Kind) (name : List ℕ) (ms : List Member) → in_force kind p name ≡ Some ms
    → (i : ℕ) × (d : AliasDefinition) × (slice_get (aliases p) i ≡ Some d) × (d.kind ≡ kind) × (d.members ≡ ms)) where
  parts : has_error (found_by p a.cyclic a.deep a.wide a.unused) ≡ false
  parts = ap has_error (sym a.list) ∙ none

  after_repeats : has_error (flat_map (undefined_in p) (lists p)
      ++ (map (finding_on Cycle) (items_where_true a.cyclic (aliases p))
      ++ (map (finding_on TooDeep) (items_where_true a.deep (aliases p))
      ++ (map (finding_on TooWide) (items_where_true a.wide (aliases p)) ++ map (finding_on Unused)
      (items_where_true a.unused (aliases p)))))) ≡ false
  after_repeats = (any_append error_finding (map (finding_on Redefined) (redefinitions [] (definitions p))) _ parts).1

  after_uses : has_error (map (finding_on Cycle) (items_where_true a.cyclic (aliases p))
      ++ (map (finding_on TooDeep) (items_where_true a.deep (aliases p))
      ++ (map (finding_on TooWide) (items_where_true a.wide (aliases p)) ++ map (finding_on Unused)
      (items_where_true a.unused (aliases p))))) ≡ false
  after_uses = (any_append error_finding (flat_map (undefined_in p) (lists p)) _ after_repeats).1

  after_cycles : has_error (map (finding_on TooDeep) (items_where_true a.deep (aliases p))
      ++ (map (finding_on TooWide) (items_where_true a.wide (aliases p)) ++ map (finding_on Unused)
      (items_where_true a.unused (aliases p)))) ≡ false
  after_cycles = (any_append error_finding (map (finding_on Cycle) (items_where_true a.cyclic (aliases p))) _ after_uses).1

  names_are_defined : list_all (λ (l : MemberList). names_defined p l.kind l.members) (lists p) ≡ true
  names_are_defined = lists_defined p (lists p) (any_append error_finding (flat_map (undefined_in p) (lists p)) _ after_repeats).0

  no_cycle : (i : ℕ) → slice_get a.cyclic i ≡ Some true → ⊥
  no_cycle = no_pick a.cyclic (aliases p) a.cyclic_are.same_length
      (none_of_class Cycle (items_where_true a.cyclic (aliases p)) refl
      (any_append error_finding (map (finding_on Cycle) (items_where_true a.cyclic (aliases p))) _ after_uses).0)

  none_deep : (i : ℕ) → slice_get a.deep i ≡ Some true → ⊥
  none_deep = no_pick a.deep (aliases p) a.deep_are.same_length
      (none_of_class TooDeep (items_where_true a.deep (aliases p)) refl
      (any_append error_finding (map (finding_on TooDeep) (items_where_true a.deep (aliases p))) _ after_cycles).0)

  not_deep : (i : ℕ) (d : AliasDefinition) → slice_get (aliases p) i ≡ Some d → IsTooDeep p d → ⊥
  not_deep i d at t =
      let inside = within_get (aliases p) i d at in
      let long = a.deep_are.same_length in
      let m = get_within a.deep i (omega (arith, inside, long)) in
      none_deep i (m.1 ∙ ap Some ((a.deep_are.exact i d m.0 at m.1).1 t))

  at_most : (n : ℕ) → (64 < suc n → ⊥) → n ≤ 63
  at_most n h = by (ordered 64 (suc n))
    where
      ordered : (a b : ℕ) → (a < b) ⊎ (b ≤ a)
      ordered a zero = inr (omega arith)
      ordered zero (suc b) = inl (omega arith)
      ordered (suc a) (suc b) = elim (ordered a b) [ inl l ↦ inl (omega (arith, l)) | inr r ↦ inr (omega (arith, r)) ]

      by : (64 < suc n) ⊎ (suc n ≤ 64) → n ≤ 63
      by (inl over) = absurd (h over)
      by (inr under) = omega (arith, under)

  definition_deep : (kind : Kind) (name : List ℕ) (ms : List Member) → in_force kind p name ≡ Some ms
      → is_some (reading_within depth kind p 63 ms) ≡ true
  definition_deep kind name ms is =
      let k = among kind name ms is in
      let d = k.1 in
      let n = depths no_cycle k.0 d k.2 in
      let less : n.0 ≤ 63 = at_most n.0 (λ over. not_deep k.0 d k.2 (record { inner = n.0; inner_is = n.1; over = over })) in
      let reads : reading_within depth d.kind p 63 d.members ≡ Some n.0 = depth_serves d.kind p n.1.steps 63 d.members n.0 less n.1.reads in
      subst (λ (k : Kind). is_some (reading_within depth k p 63 ms) ≡ true) k.3
      (subst (λ (xs : List Member). is_some (reading_within depth d.kind p 63 xs) ≡ true) k.4 (ap is_some reads))

  pub sound_from : IsSound p
  unfolding IsSound
  sound_from =
      all_weaker (λ (l : MemberList). names_defined p l.kind l.members) (λ (l : MemberList). resolves l.kind p l.members)
      (λ l named. list_resolves l.kind p (λ name ms is. in_force_passes p (names_defined p) l.kind name ms
      names_are_defined is) (definition_deep l.kind) l.members named)
      (lists p) names_are_defined
