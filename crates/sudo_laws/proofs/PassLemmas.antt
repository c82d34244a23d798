-- A policy passes if and only if its aliases are sound.
use Rattle.std.proofs.Common.{◌≡◌, ℕ, zero, suc, ◌<◌, ◌≤◌, Bool, true, false, cond, ◌||◌, if◌then◌else◌, List, [], ◌∷◌}
use Rattle.std.proofs.Common.{◌++◌, map, flat_map, filter, find, length, Option, Some, None, refl, sym, ◌∙◌, ap, subst, inl, inr, ◌⊎◌}
use Rattle.std.proofs.Common.{Contains, append_assoc, arith}
use Rattle.std.specs.Prelude.{IsSome, is_none, is_some, slice_get, ◌↔◌}
use Rattle.std.specs.Cmp.Lexicographic.{bytes_decides}
use Rattle.std.specs.List.{items_where_true}
use Rattle.std.proofs.lemmas.Bool.{and_from}
use Rattle.std.proofs.lemmas.List.{append-nil}
use Rattle.std.proofs.lemmas.List.Elements.{Contains-append_cases, Contains-append_left, Contains-append_right}
use Rattle.sudo_grammar.specs.Kinds.{same_kind}
use Rattle.sudo_grammar.specs.declared.kind.Kind.{Kind}
use Rattle.sudo_grammar.specs.declared.kind.Kind.TheVariants as kinds
use Rattle.sudo_grammar.specs.declared.policy.Policy.{Policy}
use Rattle.sudo_laws.proofs.AliasLemmas.{find_among}
use Rattle.sudo_laws.specs.SoundAliases.{HasSoundAliases}
use Rattle.sudo_policy.proofs.MarkingLemmas.{is_one, none_in, one_in, read_at}
use Rattle.sudo_policy.proofs.StateLemmas.{get_within, within_get}
use Rattle.sudo_policy.proofs.SurveyLemmas.{defines-same}
use Rattle.sudo_policy.specs.Checking.{Passes}
use Rattle.sudo_policy.specs.Definitions.{AliasDefinition, MemberList, aliases, defines, definitions, definitions_in_force, in_force}
use Rattle.sudo_policy.specs.Definitions.{is_defined_in, lists, names_used, redefinitions}
use Rattle.sudo_policy.specs.Found.{AreFindings, IsCyclic, IsTooDeep, IsTooWide, Marks, finding_on, has_error, is_error}
use Rattle.sudo_policy.specs.Found.{undefined_in}
use Rattle.sudo_policy.specs.declared.finding.Class.TheVariants.{Cycle, Redefined, TooDeep, TooWide, Undefined, Unused}
use Rattle.sudo_policy.specs.declared.finding.Finding.{Finding}

-- ---- Errors among findings

or_false : (a b : Bool) → a ≡ false → b ≡ false → (a || b) ≡ false
or_false a b e f = ap (λ x. x || b) e ∙ f

or_parts : (a b : Bool) → (a || b) ≡ false → (a ≡ false) × (b ≡ false)
or_parts true b h = cc
or_parts false b h = (refl, h)

error_append : (xs ys : List Finding) → has_error (xs ++ ys) ≡ (has_error xs || has_error ys)
error_append [] ys = refl
error_append (x ∷ xs) ys = ap (λ b. is_error x.class || b) (error_append xs ys) ∙ or_assoc (is_error x.class) (has_error xs) (has_error ys)
  where
    or_assoc : (a b c : Bool) → (a || (b || c)) ≡ ((a || b) || c)
    or_assoc true b c = refl
    or_assoc false b c = refl

error_split : (xs ys : List Finding) → has_error (xs ++ ys) ≡ false → (has_error xs ≡ false) × (has_error ys ≡ false)
error_split xs ys h = or_parts (has_error xs) (has_error ys) (sym (error_append xs ys) ∙ h)

error_join : (xs ys : List Finding) → has_error xs ≡ false → has_error ys ≡ false → has_error (xs ++ ys) ≡ false
error_join xs ys e f = error_append xs ys ∙ or_false (has_error xs) (has_error ys) e f

-- findings of a class of errors: without an error there are none
none_of : {X : Type 0} (finding : X → Finding) → ((x : X) → is_error (finding x).class ≡ true) → (xs : List X)
    → has_error (map finding xs) ≡ false → xs ≡ []
none_of finding errs [] h = refl
none_of finding errs (x ∷ xs) h =
    let first = (or_parts (is_error (finding x).class) (has_error (map finding xs)) h).0 in
    let both : true ≡ false = sym (errs x) ∙ first in cc

unused_fine : (ds : List AliasDefinition) → has_error (map (finding_on Unused) ds) ≡ false
unused_fine [] = refl
unused_fine (d ∷ ds) = unused_fine ds

-- ---- Marks

no_mark : (marks : List Bool) (ds : List AliasDefinition) → length marks ≡ length ds → items_where_true marks ds ≡ []
    → (i : ℕ) → slice_get marks i ≡ Some true → ⊥
no_mark [] ds long none i h = cc
no_mark (m ∷ ms) [] long none i h = absurd (omega (arith, long))
no_mark (true ∷ ms) (d ∷ ds) long none i h = cc
no_mark (false ∷ ms) (d ∷ ds) long none zero h = cc
no_mark (false ∷ ms) (d ∷ ds) long none (suc i) h = no_mark ms ds (omega (arith, long)) none i h

none_marked : (marks : List Bool) (ds : List AliasDefinition) → ((i : ℕ) → slice_get marks i ≡ Some true → ⊥)
    → items_where_true marks ds ≡ []
none_marked [] ds none = refl
none_marked (m ∷ ms) [] none = refl
none_marked (true ∷ ms) (d ∷ ds) none = absurd (none 0 refl)
none_marked (false ∷ ms) (d ∷ ds) none = none_marked ms ds (λ i h. none (suc i) h)

got_in : {X : Type 0} (xs : List X) (i : ℕ) (x : X) → slice_get xs i ≡ Some x → Contains xs x
got_in [] i x h = cc
got_in (y ∷ ys) zero x h = subst (λ z. Contains (y ∷ ys) z) (some_is h) (Contains-append_left (y ∷ []) ys y (is_one y))
  where
    some_is : Some y ≡ Some x → y ≡ x
    some_is e = cc
got_in (y ∷ ys) (suc i) x h = Contains-append_right (y ∷ []) ys x (got_in ys i x h)

-- nothing is picked by marks exactly if the fact holds of none
pub none_holds : (T : AliasDefinition → Type 0) (ds : List AliasDefinition) (marks : List Bool) → Marks T ds marks
    → items_where_true marks ds ≡ [] → (d : AliasDefinition) → Contains ds d → T d → ⊥
none_holds T ds marks are none d among t =
    let at : slice_get ds among.0 ≡ Some d = read_at ds among.0 d d among.1 among.2 in
    let long = are.same_length in
    let inside = among.1 in
    let m = get_within marks among.0 (omega (arith, long, inside)) in
    no_mark marks ds long none among.0 (m.1 ∙ ap Some ((are.exact among.0 d m.0 at m.1).1 t))

pub none_picked : (T : AliasDefinition → Type 0) (ds : List AliasDefinition) (marks : List Bool) → Marks T ds marks
    → ((d : AliasDefinition) → Contains ds d → T d → ⊥) → items_where_true marks ds ≡ []
none_picked T ds marks are none = none_marked marks ds each
  where
    each : (i : ℕ) → slice_get marks i ≡ Some true → ⊥
    each i h =
        let inside = within_get marks i true h in
        let long = are.same_length in
        let d = get_within ds i (omega (arith, long, inside)) in
        none d.0 (got_in ds i d.0 d.1) ((are.exact i d.0 true d.1 h).0 refl)

-- ---- Definitions of a name

pub self_kind : (k : Kind) → same_kind k k ≡ true
self_kind kinds.User = refl
self_kind kinds.Runas = refl
self_kind kinds.Host = refl
self_kind kinds.Cmnd = refl

defines_self : (d : AliasDefinition) → defines d.kind d.name d ≡ true
defines_self d = and_from _ _ (self_kind d.kind) ((bytes_decides d.name d.name).1 refl)

is_found : {X : Type 0} (f : X → Bool) (xs : List X) (x : X) → Contains xs x → f x ≡ true → is_some (find f xs) ≡ true
is_found f [] x among h = absurd (none_in x among)
is_found f (y ∷ ys) x among h = by (f y) refl (is_found f ys x)
  where
    by : (b : Bool) → f y ≡ b → (Contains ys x → f x ≡ true → is_some (find f ys) ≡ true)
        → is_some (cond b (Some y) (find f ys)) ≡ true
    by true here later = refl
    by false here later = elim (Contains-append_cases (y ∷ []) ys x among) [
      | inl first ↦ (let same : y ≡ x = one_in y x first in let both : true ≡ false = sym h ∙ ap f (sym same) ∙ here in cc)
      | inr rest ↦ later rest h
    ]

-- an earlier definition of the same kind and name
abbrev Earlier : List AliasDefinition → AliasDefinition → Type 0
Earlier before d = (e : AliasDefinition) → Contains before e → e.kind ≡ d.kind → e.name ≡ d.name → ⊥

undefined_before : (before : List AliasDefinition) (d : AliasDefinition) → Earlier before d → is_defined_in before d ≡ false
undefined_before before d none = by (find (defines d.kind d.name) before) refl
  where
    by : (o : Option AliasDefinition) → find (defines d.kind d.name) before ≡ o → is_some o ≡ false
    by None h = refl
    by (Some e) h =
        let k = find_among (defines d.kind d.name) before e h in
        let same = defines-same d.kind d.name e k.1 in
        absurd (none e k.0 (sym same.0) (sym same.1))

defined_before : (before : List AliasDefinition) (d e : AliasDefinition) → is_defined_in before d ≡ false → Contains before e
    → e.kind ≡ d.kind → e.name ≡ d.name → ⊥
defined_before before d e none among kind name =
    let own : defines d.kind d.name e ≡ true =
    subst (λ k. defines k d.name e ≡ true) kind (subst (λ n. defines e.kind n e ≡ true) name (defines_self e)) in
    let there = is_found (defines d.kind d.name) before e among own in
    let both : true ≡ false = sym there ∙ none in cc

-- no definition is a further one
first_only : (earlier before : List AliasDefinition) (d : AliasDefinition) (after : List AliasDefinition)
    → redefinitions earlier (before ++ d ∷ after) ≡ [] → is_defined_in (earlier ++ before) d ≡ false
first_only earlier [] d after none =
    ap (λ ds. is_defined_in ds d) (append-nil earlier) ∙ by (is_defined_in earlier d) none
  where
    by : (b : Bool) → (if b then d ∷ redefinitions (earlier ++ d ∷ []) after else redefinitions (earlier ++ d ∷ []) after) ≡ [] → b ≡ false
    by true h = cc
    by false h = refl
first_only earlier (b ∷ before) d after none =
    ap (λ ds. is_defined_in ds d) (sym (append_assoc earlier (b ∷ []) before))
    ∙ first_only (earlier ++ b ∷ []) before d after (by (is_defined_in earlier b) none)
  where
    by : (c : Bool) → (if c then b ∷ redefinitions (earlier ++ b ∷ []) (before ++ d ∷ after)
        else redefinitions (earlier ++ b ∷ []) (before ++ d ∷ after)) ≡ []
        → redefinitions (earlier ++ b ∷ []) (before ++ d ∷ after) ≡ []
    by true h = cc
    by false h = h

none_further : (earlier ds : List AliasDefinition)
    → ((before : List AliasDefinition) (d : AliasDefinition) (after : List AliasDefinition) → ds ≡ before ++ d ∷ after
    → is_defined_in (earlier ++ before) d ≡ false) → redefinitions earlier ds ≡ []
none_further earlier [] first = refl
none_further earlier (d ∷ ds) first =
    ap (λ b. if b then d ∷ redefinitions (earlier ++ d ∷ []) ds else redefinitions (earlier ++ d ∷ []) ds)
    (ap (λ es. is_defined_in es d) (sym (append-nil earlier)) ∙ first [] d ds refl)
    ∙ none_further (earlier ++ d ∷ []) ds (λ before e after is.
    ap (λ es. is_defined_in es e) (append_assoc earlier (d ∷ []) before) ∙ first (d ∷ before) e after (ap (λ es. d ∷ es) is))

-- then each definition is in force
all_in_force : (earlier ds : List AliasDefinition) → redefinitions earlier ds ≡ [] → definitions_in_force earlier ds ≡ ds
all_in_force earlier [] none = refl
all_in_force earlier (d ∷ ds) none = by (is_defined_in earlier d) none (all_in_force (earlier ++ d ∷ []) ds)
  where
    by : (b : Bool) → (if b then d ∷ redefinitions (earlier ++ d ∷ []) ds else redefinitions (earlier ++ d ∷ []) ds) ≡ []
        → (redefinitions (earlier ++ d ∷ []) ds ≡ [] → definitions_in_force (earlier ++ d ∷ []) ds ≡ ds)
        → (if b then definitions_in_force (earlier ++ d ∷ []) ds else d ∷ definitions_in_force (earlier ++ d ∷ []) ds) ≡ d ∷ ds
    by true h later = cc
    by false h later = ap (λ es. d ∷ es) (later h)

-- ---- Uses

abbrev use_finding : MemberList → List ℕ → Finding
use_finding l name = record { class = Undefined; place = l.place; kind = l.kind; name = name }

abbrev missing : Policy → MemberList → List ℕ → Bool
missing p l name = is_none (in_force l.kind p name)

none_missing : {X : Type 0} (f : X → Bool) (xs : List X) → filter f xs ≡ [] → (x : X) → Contains xs x → f x ≡ false
none_missing f [] none x among = absurd (none_in x among)
none_missing {X} f (y ∷ ys) none x among = by (f y) refl none (none_missing f ys)
  where
    by : (b : Bool) → f y ≡ b → cond b (y ∷ filter f ys) (filter f ys) ≡ []
        → (filter f ys ≡ [] → (x : X) → Contains ys x → f x ≡ false) → f x ≡ false
    by true here h later = cc
    by false here h later = elim (Contains-append_cases (y ∷ []) ys x among) [
      | inl first ↦ subst (λ z. f z ≡ false) (one_in y x first) here
      | inr rest ↦ later h x rest
    ]

none_kept : {X : Type 0} (f : X → Bool) (xs : List X) → ((x : X) → Contains xs x → f x ≡ false) → filter f xs ≡ []
none_kept f [] none = refl
none_kept f (y ∷ ys) none =
    ap (λ b. cond b (y ∷ filter f ys) (filter f ys)) (none y (Contains-append_left (y ∷ []) ys y (is_one y)))
    ∙ none_kept f ys (λ x among. none x (Contains-append_right (y ∷ []) ys x among))

some_not_none : {X : Type 0} (o : Option X) → is_none o ≡ false → IsSome o
some_not_none None h = cc
some_not_none (Some x) h = refl

none_not_some : {X : Type 0} (o : Option X) → IsSome o → is_none o ≡ false
none_not_some None h = cc
none_not_some (Some x) h = refl

uses_split : (p : Policy) (ls : List MemberList) → has_error (flat_map (undefined_in p) ls) ≡ false → (l : MemberList) → Contains ls l
    → has_error (undefined_in p l) ≡ false
uses_split p [] h l among = absurd (none_in l among)
uses_split p (m ∷ ls) h l among =
    let parts = error_split (undefined_in p m) (flat_map (undefined_in p) ls) h in
    elim (Contains-append_cases (m ∷ []) ls l among) [
      | inl first ↦ subst (λ x. has_error (undefined_in p x) ≡ false) (one_in m l first) parts.0
      | inr rest ↦ uses_split p ls parts.1 l rest
    ]

uses_join : (p : Policy) (ls : List MemberList) → ((l : MemberList) → Contains ls l → has_error (undefined_in p l) ≡ false)
    → has_error (flat_map (undefined_in p) ls) ≡ false
uses_join p [] each = refl
uses_join p (l ∷ ls) each =
    error_join (undefined_in p l) (flat_map (undefined_in p) ls) (each l (Contains-append_left (l ∷ []) ls l (is_one l)))
    (uses_join p ls (λ m among. each m (Contains-append_right (l ∷ []) ls m among)))

-- ---- Both directions

order : (a b : ℕ) → (a < b) ⊎ (b ≤ a)
order a zero = inr (omega arith)
order zero (suc b) = inl (omega arith)
order (suc a) (suc b) = elim (order a b) [ inl l ↦ inl (omega (arith, l)) | inr r ↦ inr (omega (arith, r)) ]

not_over : (a b : ℕ) → (a < b → ⊥) → b ≤ a
not_over a b h = elim (order a b) [ inl l ↦ absurd (h l) | inr r ↦ r ]

module _ (p : Policy) (found : List Finding) (are : AreFindings p found) where
  abbrev cycles : List Finding
  cycles = map (finding_on Cycle) (items_where_true are.cyclic (aliases p))

  abbrev deeps : List Finding
  deeps = map (finding_on TooDeep) (items_where_true are.deep (aliases p))

  abbrev wides : List Finding
  wides = map (finding_on TooWide) (items_where_true are.wide (aliases p))

  abbrev unuseds : List Finding
  unuseds = map (finding_on Unused) (items_where_true are.unused (aliases p))

  abbrev uses : List Finding
  uses = flat_map (undefined_in p) (lists p)

  abbrev repeats : List Finding
  repeats = map (finding_on Redefined) (redefinitions [] (definitions p))

  pub sound : has_error found ≡ false → HasSoundAliases p
  sound none =
      let whole : has_error (repeats ++ (uses ++ (cycles ++ (deeps ++ (wides ++ unuseds))))) ≡ false =
      ap has_error (sym are.list) ∙ none in
      let a = error_split repeats (uses ++ (cycles ++ (deeps ++ (wides ++ unuseds)))) whole in
      let b = error_split uses (cycles ++ (deeps ++ (wides ++ unuseds))) a.1 in
      let c = error_split cycles (deeps ++ (wides ++ unuseds)) b.1 in
      let d = error_split deeps (wides ++ unuseds) c.1 in
      let e = error_split wides unuseds d.1 in
      let once : redefinitions [] (definitions p) ≡ [] =
      none_of (finding_on Redefined) (λ x. refl) (redefinitions [] (definitions p)) a.0 in
      let all : aliases p ≡ definitions p = all_in_force [] (definitions p) once in
      let among : (x : AliasDefinition) → Contains (definitions p) x → Contains (aliases p) x =
      λ x h. subst (λ ds. Contains ds x) (sym all) h in
      record {
        once = λ before after x y is member kind name.
            defined_before before x y
            (first_only [] before x after (ap (redefinitions []) (sym is) ∙ once)) member kind name;
        defined = λ l name listed used. some_not_none (in_force l.kind p name)
            (none_missing (missing p l) (names_used l.members)
            (none_of (use_finding l) (λ x. refl) (filter (missing p l) (names_used l.members)) (uses_split p (lists p) b.0 l listed))
            name used);
        acyclic = λ x h cycle. none_holds (IsCyclic p) (aliases p) are.cyclic are.cyclic_are
            (none_of (finding_on Cycle) (λ y. refl) (items_where_true are.cyclic (aliases p)) c.0) x (among x h) cycle;
        shallow = λ x n h reads. not_over 64 (suc n) (λ over.
            none_holds (IsTooDeep p) (aliases p) are.deep are.deep_are
            (none_of (finding_on TooDeep) (λ y. refl) (items_where_true are.deep (aliases p)) d.0) x (among x h)
            (record { inner = n; inner_is = reads; over = over }));
        narrow = λ x n h reads. not_over 65536 n (λ over.
            none_holds (IsTooWide p) (aliases p) are.wide are.wide_are
            (none_of (finding_on TooWide) (λ y. refl) (items_where_true are.wide (aliases p)) e.0) x (among x h)
            (record { members = n; members_are = reads; over = over }));
      }

  pub faultless : HasSoundAliases p → has_error found ≡ false
  faultless s =
      let once : redefinitions [] (definitions p) ≡ [] =
      none_further [] (definitions p) (λ before d after is.
      undefined_before before d (λ e member kind name. s.once before after d e is member kind name)) in
      let all : aliases p ≡ definitions p = all_in_force [] (definitions p) once in
      let among : (x : AliasDefinition) → Contains (aliases p) x → Contains (definitions p) x =
      λ x h. subst (λ ds. Contains ds x) all h in
      let no_cycle : items_where_true are.cyclic (aliases p) ≡ [] =
      none_picked (IsCyclic p) (aliases p) are.cyclic are.cyclic_are (λ x h cycle. s.acyclic x (among x h) cycle) in
      let no_deep : items_where_true are.deep (aliases p) ≡ [] =
      none_picked (IsTooDeep p) (aliases p) are.deep are.deep_are (λ x h t.
      under t.inner 64 (s.shallow x t.inner (among x h) t.inner_is) t.over) in
      let no_wide : items_where_true are.wide (aliases p) ≡ [] =
      none_picked (IsTooWide p) (aliases p) are.wide are.wide_are (λ x h t.
      within t.members 65536 (s.narrow x t.members (among x h) t.members_are) t.over) in
      ap has_error are.list
      ∙ error_join repeats (uses ++ (cycles ++ (deeps ++ (wides ++ unuseds))))
      (ap (λ ds. has_error (map (finding_on Redefined) ds)) once)
      (error_join uses (cycles ++ (deeps ++ (wides ++ unuseds)))
      (uses_join p (lists p) (λ l listed. ap (λ names. has_error (map (use_finding l) names))
      (none_kept (missing p l) (names_used l.members) (λ name used.
      none_not_some (in_force l.kind p name) (s.defined l name listed used)))))
      (error_join cycles (deeps ++ (wides ++ unuseds)) (ap (λ ds. has_error (map (finding_on Cycle) ds)) no_cycle)
      (error_join deeps (wides ++ unuseds) (ap (λ ds. has_error (map (finding_on TooDeep) ds)) no_deep)
      (error_join wides unuseds (ap (λ ds. has_error (map (finding_on TooWide) ds)) no_wide)
      (unused_fine (items_where_true are.unused (aliases p)))))))
    where
      under : (a b : ℕ) → a < b → b < suc a → ⊥
      under a b h over = omega (arith, h, over)

      within : (a b : ℕ) → a ≤ b → b < a → ⊥
      within a b h over = omega (arith, h, over)

pub passes_if_sound : (p : Policy) (found : List Finding) → AreFindings p found → Passes p ↔ HasSoundAliases p
passes_if_sound p found are = (
  λ passes. sound p passes.found passes.are passes.none,
  λ s. record { found = found; are = are; none = faultless p found are s },
)
