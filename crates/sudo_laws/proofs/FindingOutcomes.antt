-- Each policy has findings.
use Rattle.std.proofs.Common.{◌≡◌, ℕ, zero, suc, ◌+◌, ◌<◌, Bool, true, false, List, [], ◌∷◌, map, find, Option, Some, None}
use Rattle.std.proofs.Common.{Contains, refl, sym, ◌∙◌, ap, subst, inl, inr, ◌⊎◌, arith}
use Rattle.std.specs.Prelude.{IsSome, is_some, option_and_then, option_map, slice_get, ◌↔◌, nat_lt}
use Rattle.std.specs.Cmp.Lexicographic.{bytes_decides}
use Rattle.std.proofs.lemmas.Bool.{and_from, and_parts, lt-ltb, ltb-true, true≢false}
use Rattle.sudo_grammar.specs.Kinds.{same_kind}
use Rattle.sudo_grammar.specs.declared.kind.Kind.{Kind}
use Rattle.sudo_grammar.specs.declared.kind.Member.{Member}
use Rattle.sudo_grammar.specs.declared.policy.Policy.{Policy}
use Rattle.sudo_laws.proofs.AliasLemmas.{find_among, map_in}
use Rattle.sudo_laws.proofs.DecidedLemmas.{Decided, Way, decided_as, decided_both, decided_either, decided_name, decided_not, decided_some}
use Rattle.sudo_laws.proofs.DecidedLemmas.{decided_true, decided_way, edge_way, full_at_last, none_some, some_is, way_way}
use Rattle.sudo_laws.proofs.PassLemmas.{self_kind}
use Rattle.sudo_policy.proofs.FollowingLemmas.{option_map-some, reading_more, reading_same, reading_step}
use Rattle.sudo_policy.proofs.FoundLemmas.{AreFindings-same}
use Rattle.sudo_policy.proofs.Laws.{both_there}
use Rattle.sudo_policy.proofs.SurveyLemmas.{defines-same}
use Rattle.sudo_policy.specs.Checking.{FailsCheck, Passes}
use Rattle.sudo_policy.specs.Definitions.{AliasDefinition, MemberList, Reaches, Refers, alias_named, aliases, defines, definitions}
use Rattle.sudo_policy.specs.Definitions.{in_force, lists, more, names_used, step}
use Rattle.sudo_policy.specs.Following.{Reading, ReadsAs, definition_of_member, depth, list_reading, member_reading}
use Rattle.sudo_policy.specs.Following.{reading_within, width}
use Rattle.sudo_policy.specs.Found.{AreFindings, IsCyclic, IsTooDeep, IsTooWide, IsUnused, IsUsed, Marks, found_by, has_error}
use Rattle.sudo_policy.specs.declared.finding.Finding.{Finding}

-- ---- Names and kinds

decided_in : (names : List (List ℕ)) (name : List ℕ) → Decided (Contains names name)
decided_in names name =
    decided_as (λ h. subst (Contains names) h.2 h.1) (λ h. (name, h, refl)) (decided_some (λ x. x ≡ name) (λ x. decided_name x name) names)

kind_is : (a b : Kind) → same_kind a b ≡ true → a ≡ b
kind_is a b h =
    (defines-same a [] (record { kind = b; place = record { file = 0; line = 0 }; name = []; members = [] })
    (and_from _ _ h ((bytes_decides [] []).1 refl))).0

decided_kind : (a b : Kind) → Decided (a ≡ b)
decided_kind a b =
    decided_as (kind_is a b) (λ e. subst (λ k. same_kind a k ≡ true) e (self_kind a)) (decided_true (same_kind a b))

-- ---- What an alias reaches

module _ (p : Policy) (kind : Kind) where
  abbrev known : List (List ℕ)
  known = map (λ (d : AliasDefinition). d.name) (definitions p)

  -- the definition in force of a name is among the definitions
  in_force_among : (name : List ℕ) (ms : List Member) → in_force kind p name ≡ Some ms
      → (d : AliasDefinition) × Contains (definitions p) d × (name ≡ d.name) × (ms ≡ d.members)
  in_force_among name ms is =
      let found = option_map-some (λ (d : AliasDefinition). d.members) (find (defines kind name) (definitions p)) ms is in
      let among = find_among (defines kind name) (definitions p) found.0 found.1 in
      (found.0, among.0, (defines-same kind name found.0 among.1).1, found.2)

  some_there : {A : Type 0} (o : Option A) → IsSome o → (a : A) × (o ≡ Some a)
  some_there None h = absurd (true≢false (sym h))
  some_there (Some a) h = (a, refl)

  defined_known : (name : List ℕ) → IsSome (in_force kind p name) → Contains known name
  defined_known name h =
      let ms = some_there (in_force kind p name) h in
      let d = in_force_among name ms.0 ms.1 in
      subst (Contains known) (sym d.2) (map_in (λ (x : AliasDefinition). x.name) (definitions p) d.0 d.1)

  decided_refers : (a b : List ℕ) → Decided (Refers p kind a b)
  decided_refers a b = by (in_force kind p a) refl
    where
      by : (o : Option (List Member)) → in_force kind p a ≡ o → Decided (Refers p kind a b)
      by None is = inr (λ r. none_some (sym is ∙ r.defines_a))
      by (Some ms) is =
          decided_as (λ h. record { members = ms; defines_a = is; names_b = h.0; defined_b = h.1 })
          (λ r. (subst (λ xs. Contains (names_used xs) b) (some_is (sym r.defines_a ∙ is)) r.names_b, r.defined_b))
          (decided_both (decided_in (names_used ms) b) (decided_true (is_some (in_force kind p b))))

  reaches_on : (a b c : List ℕ) → Reaches p kind a b → Reaches p kind b c → Reaches p kind a c
  reaches_on a b c (step r) second = more r second
  reaches_on a b c (more r rest) second = more r (reaches_on _ b c rest second)

  way_reaches : (vs : List (List ℕ)) (a b : List ℕ) → Way (Refers p kind) vs a b → Reaches p kind a b
  way_reaches [] a b h = step h
  way_reaches (v ∷ vs) a b (inl h) = way_reaches vs a b h
  way_reaches (v ∷ vs) a b (inr h) = reaches_on a v b (way_reaches vs a v h.0) (way_reaches vs v b h.1)

  reaches_way : (a b : List ℕ) → Reaches p kind a b → Way (Refers p kind) known a b
  reaches_way a b (step r) = edge_way (Refers p kind) known a b r
  reaches_way a b (more r rest) =
      way_way (Refers p kind) known a _ b (defined_known _ r.defined_b) (edge_way (Refers p kind) known a _ r) (reaches_way _ b rest)

  decided_reaches : (a b : List ℕ) → Decided (Reaches p kind a b)
  decided_reaches a b =
      decided_as (way_reaches known a b) (reaches_way a b) (decided_way (Refers p kind) decided_refers known a b)

-- a list of a rule or of a bound `Defaults` line names the alias, or one that reaches it
abbrev UsedBy : Policy → AliasDefinition → MemberList → Type 0
UsedBy p d l =
    ((l.granting ≡ true) × (l.kind ≡ d.kind))
    × ((name : List ℕ) × Contains (names_used l.members) name × ((name ≡ d.name) ⊎ Reaches p d.kind name d.name))

decided_used : (p : Policy) (d : AliasDefinition) → Decided (IsUsed p d)
decided_used p d =
    decided_as
    (λ h. record {
      list = h.0;
      among = h.1;
      grants = h.2.0.0;
      same_kind = h.2.0.1;
      name = h.2.1.0;
      named = h.2.1.1;
      way = h.2.1.2;
    })
    (λ u. (u.list, u.among, ((u.grants, u.same_kind), (u.name, u.named, u.way))))
    (decided_some (UsedBy p d) (λ l. decided_both (decided_both (decided_true l.granting) (decided_kind l.kind d.kind))
    (decided_some (λ name. (name ≡ d.name) ⊎ Reaches p d.kind name d.name)
    (λ name. decided_either (decided_name name d.name) (decided_reaches p d.kind name d.name)) (names_used l.members)))
    (lists p))

-- ---- Depths and widths

mapped_there : {A B : Type 0} (f : A → B) (o : Option A) → is_some (option_map f o) ≡ is_some o
mapped_there f None = refl
mapped_there f (Some a) = refl

module _ {R : Type 0} (g : Reading R) (kind : Kind) (p : Policy) where
  -- what has a value by one reading of definitions has one by another
  abbrev Follows : (List Member → Option R) → (List Member → Option R) → Type 0
  Follows inner other = (name : List ℕ) (ds : List Member) → in_force kind p name ≡ Some ds → is_some (inner ds) ≡ true
      → is_some (other ds) ≡ true

  named_there : (inner other : List Member → Option R) → Follows inner other → (m : Member) (name : List ℕ)
      (o : Option (List Member)) → in_force kind p name ≡ o
      → is_some (member_reading g inner m o) ≡ true → is_some (member_reading g other m o) ≡ true
  named_there inner other follows m name None is h = h
  named_there inner other follows m name (Some ds) is h =
      mapped_there (g.through m) (other ds) ∙ follows name ds is (sym (mapped_there (g.through m) (inner ds)) ∙ h)

  member_there : (inner other : List Member → Option R) → Follows inner other → (m : Member) (o : Option (List ℕ))
      → is_some (member_reading g inner m (option_and_then (in_force kind p) o)) ≡ true
      → is_some (member_reading g other m (option_and_then (in_force kind p) o)) ≡ true
  member_there inner other follows m None h = h
  member_there inner other follows m (Some name) h = named_there inner other follows m name (in_force kind p name) refl h

  list_there : (inner other : List Member → Option R) → Follows inner other → (ms : List Member)
      → is_some (list_reading g kind p inner ms) ≡ true → is_some (list_reading g kind p other ms) ≡ true
  list_there inner other follows [] h = h
  list_there inner other follows (m ∷ ms) h =
      let parts = and_parts _ _ (sym (both_there g.join (member_reading g inner m (definition_of_member kind p m))
      (list_reading g kind p inner ms)) ∙ h) in
      both_there g.join (member_reading g other m (definition_of_member kind p m)) (list_reading g kind p other ms)
      ∙ and_from _ _ (member_there inner other follows m (alias_named m.atom) parts.0) (list_there inner other follows ms parts.1)

  -- a list has a value within so many steps
  abbrev has_value : ℕ → List Member → Bool
  has_value n ms = is_some (reading_within g kind p n ms)

  value_stays : (n : ℕ) (ms : List Member) → has_value n ms ≡ true → has_value (suc n) ms ≡ true
  value_stays n ms h =
      let r = some_there p kind (reading_within g kind p n ms) h in
      ap is_some (reading_step g kind p n ms r.0 r.1)

  -- from some number of steps on no further definition has a value
  abbrev bodies : List (List Member)
  bodies = map (λ (d : AliasDefinition). d.members) (definitions p)

  enough : ℕ
  enough = (full_at_last has_value value_stays bodies).0

  body_among : (name : List ℕ) (ds : List Member) → in_force kind p name ≡ Some ds → Contains bodies ds
  body_among name ds is =
      let d = in_force_among p kind name ds is in
      subst (Contains bodies) (sym d.3) (map_in (λ (x : AliasDefinition). x.members) (definitions p) d.0 d.1)

  definition_enough : (k : ℕ) → Follows (reading_within g kind p (k + enough)) (reading_within g kind p enough)
  unfolding reading_within enough
  definition_enough zero name ds is h =
      let same : 0 + enough ≡ enough = omega arith in
      subst (λ n. has_value n ds ≡ true) same h
  definition_enough (suc k) name ds is h =
      let next : suc k + enough ≡ suc (k + enough) = omega arith in
      (full_at_last has_value value_stays bodies).1 ds (body_among name ds is)
      (list_there (reading_within g kind p (k + enough)) (reading_within g kind p enough) (definition_enough k) ds
      (subst (λ n. has_value n ds ≡ true) next h))

  list_enough : (k : ℕ) (ms : List Member) → has_value (suc (k + enough)) ms ≡ true → has_value (suc enough) ms ≡ true
  unfolding reading_within
  list_enough k ms h =
      list_there (reading_within g kind p (k + enough)) (reading_within g kind p enough) (definition_enough k) ms h

  no_value : (ms : List Member) → reading_within g kind p (suc enough) ms ≡ None → (r : R) → ReadsAs g kind p ms r → ⊥
  no_value ms none r reads =
      let order : suc enough + reads.steps ≡ suc (reads.steps + enough) = omega arith in
      let later : has_value (suc (reads.steps + enough)) ms ≡ true =
      subst (λ n. has_value n ms ≡ true) order (ap is_some (reading_more g kind p (suc enough) reads.steps ms r reads.reads)) in
      true≢false (sym (list_enough reads.steps ms later) ∙ ap is_some none)

  decided_reading : (ms : List Member) → Decided ((r : R) × ReadsAs g kind p ms r)
  decided_reading ms = by (reading_within g kind p (suc enough) ms) refl
    where
      by : (o : Option R) → reading_within g kind p (suc enough) ms ≡ o → Decided ((r : R) × ReadsAs g kind p ms r)
      by None is = inr (λ h. no_value ms is h.0 h.1)
      by (Some r) is = inl (r, record { steps = suc enough; reads = is })

decided_less : (a b : ℕ) → Decided (a < b)
decided_less a b = decided_as (ltb-true a b) (lt-ltb a b) (decided_true (nat_lt a b))

decided_deep : (p : Policy) (d : AliasDefinition) → Decided (IsTooDeep p d)
decided_deep p d = elim (decided_reading depth d.kind p d.members) [
  | inl found ↦
      decided_as (λ over. record { inner = found.0; inner_is = found.1; over = over })
      (λ t. subst (λ n. 64 < suc n) (reading_same depth d.kind p t.inner_is.steps found.1.steps d.members t.inner found.0
      t.inner_is.reads found.1.reads) t.over)
      (decided_less 64 (suc found.0))
  | inr none ↦ inr (λ t. none (t.inner, t.inner_is))
]

decided_wide : (p : Policy) (d : AliasDefinition) → Decided (IsTooWide p d)
decided_wide p d = elim (decided_reading width d.kind p d.members) [
  | inl found ↦
      decided_as (λ over. record { members = found.0; members_are = found.1; over = over })
      (λ t. subst (λ n. 65536 < n) (reading_same width d.kind p t.members_are.steps found.1.steps d.members t.members found.0
      t.members_are.reads found.1.reads) t.over)
      (decided_less 65536 found.0)
  | inr none ↦ inr (λ t. none (t.members, t.members_are))
]

-- ---- Marks

one_mark : {P : Type 0} → Decided P → (mark : Bool) × ((mark ≡ true) ↔ P)
one_mark (inl h) = (true, ((λ e. h), (λ k. refl)))
one_mark (inr none) = (false, ((λ e. absurd (true≢false (sym e))), (λ k. absurd (none k))))

mark_first : (T : AliasDefinition → Type 0) (d : AliasDefinition) (ds : List AliasDefinition) (mark : Bool) (marks : List Bool)
    → (mark ≡ true) ↔ T d → Marks T ds marks → Marks T (d ∷ ds) (mark ∷ marks)
mark_first T d ds mark marks here rest = record { same_length = ap suc rest.same_length; exact = exact }
  where
    exact : (i : ℕ) (e : AliasDefinition) (m : Bool) → slice_get (d ∷ ds) i ≡ Some e → slice_get (mark ∷ marks) i ≡ Some m
        → (m ≡ true) ↔ T e
    exact zero e m at_d at = (
      (λ h. subst T (some_is at_d) (here.0 (some_is at ∙ h))),
      (λ t. sym (some_is at) ∙ here.1 (subst T (sym (some_is at_d)) t)),
    )
    exact (suc i) e m at_d at = rest.exact i e m at_d at

marks_of : (T : AliasDefinition → Type 0) → ((d : AliasDefinition) → Decided (T d)) → (ds : List AliasDefinition)
    → (marks : List Bool) × Marks T ds marks
marks_of T each [] = ([], record { same_length = refl; exact = λ i d mark at_d at. absurd (none_some at) })
marks_of T each (d ∷ ds) =
    let here = one_mark (each d) in
    let rest = marks_of T each ds in
    (here.0 ∷ rest.0, mark_first T d ds here.0 rest.0 here.1 rest.1)

-- each policy has findings
pub policy_findings : (p : Policy) → (found : List Finding) × AreFindings p found
policy_findings p =
    let cyclic = marks_of (IsCyclic p) (λ d. decided_reaches p d.kind d.name d.name) (aliases p) in
    let deep = marks_of (IsTooDeep p) (decided_deep p) (aliases p) in
    let wide = marks_of (IsTooWide p) (decided_wide p) (aliases p) in
    let unused = marks_of (IsUnused p) (λ d. decided_not (decided_used p d)) (aliases p) in (
      found_by p cyclic.0 deep.0 wide.0 unused.0,
      record {
        cyclic = cyclic.0;
        deep = deep.0;
        wide = wide.0;
        unused = unused.0;
        cyclic_are = cyclic.1;
        deep_are = deep.1;
        wide_are = wide.1;
        unused_are = unused.1;
        list = refl;
      },
    )

-- it passes, or it fails with its findings
pub passes_or_fails : (p : Policy) → Passes p ⊎ ((found : List Finding) × FailsCheck p found)
passes_or_fails p =
    let findings = policy_findings p in
    by findings.0 findings.1 (has_error findings.0) refl
  where
    by : (found : List Finding) → AreFindings p found → (b : Bool) → has_error found ≡ b
        → Passes p ⊎ ((found : List Finding) × FailsCheck p found)
    by found are true is = inr (found, record { are = are; some = is })
    by found are false is = inl (record { found = found; are = are; none = is })

pub never_both : (p : Policy) (found : List Finding) → Passes p → FailsCheck p found → ⊥
never_both p found passes fails =
    true≢false (sym fails.some ∙ ap has_error (AreFindings-same p found passes.found fails.are passes.are) ∙ passes.none)
