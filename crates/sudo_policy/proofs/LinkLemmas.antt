-- An alias reaches another exactly if there is a path between their numbers.
use Rattle.std.proofs.Common.{◌≡◌, ℕ, suc, ◌<◌, Bool, true, false, List, [], ◌∷◌, map, length, Option, None, Some}
use Rattle.std.proofs.Common.{refl, sym, ◌∙◌, ap, subst, arith, inl, inr, ◌⊎◌}
use Rattle.std.specs.Prelude.{slice_get, Contains, option_map, option_and_then, option_to_list, find, filter}
use Rattle.std.specs.Prelude.{flat_map, is_some, IsSome, if◌then◌else◌}
use Rattle.std.proofs.lemmas.Option.{slice_get-map}
use Rattle.std.proofs.lemmas.List.Elements.{Contains-append_left, Contains-append_right, Contains-append_cases}
use Rattle.sudo_base.specs.NameIndices.{index_of}
use Rattle.sudo_base.proofs.Lists.{find-holds}
use Rattle.sudo_grammar.specs.declared.kind.Kind.{Kind}
use Rattle.sudo_grammar.specs.declared.kind.Member.{Member}
use Rattle.sudo_grammar.specs.declared.policy.Policy.{Policy}
use Rattle.sudo_policy.specs.declared.index.Position.{Position}
use Rattle.sudo_policy.specs.Definitions.{AliasDefinition, MemberList, defines, definitions, in_force, alias_named}
use Rattle.sudo_policy.specs.Definitions.{names_used, Refers, Reaches, step as one_step, more as more_steps, lists}
use Rattle.sudo_policy.specs.Found.{IsCyclic, IsUsed}
use Rattle.sudo_policy.specs.Body.Graph.{Links, Edge, Path, step, more, IsReached, IsInside}
use Rattle.sudo_policy.specs.Body.DefinitionRef.{IsIndexed, link_among}
use Rattle.sudo_policy.proofs.MarkingLemmas.{none_in, one_in, is_one}
use Rattle.sudo_policy.proofs.StateLemmas.{get_within, within_get}
use Rattle.sudo_policy.proofs.SurveyLemmas.{defines-same}

-- ---- Elements

pub in_map : {X Y : Type 0} (f : X → Y) (xs : List X) (y : Y) → Contains (map f xs) y → (x : X) × Contains xs x × (f x ≡ y)
in_map f [] y h = absurd (none_in y h)
in_map f (x ∷ xs) y h = elim (Contains-append_cases (f x ∷ []) (map f xs) y h) [
  | inl first ↦ (x, Contains-append_left (x ∷ []) xs x (is_one x), one_in (f x) y first)
  | inr rest ↦ (let k = in_map f xs y rest in (k.0, Contains-append_right (x ∷ []) xs k.0 k.1, k.2))
]

map-in : {X Y : Type 0} (f : X → Y) (xs : List X) (x : X) → Contains xs x → Contains (map f xs) (f x)
map-in f [] x h = absurd (none_in x h)
map-in f (y ∷ ys) x h = elim (Contains-append_cases (y ∷ []) ys x h) [
  | inl first ↦ Contains-append_left (f y ∷ []) (map f ys) (f x)
      (subst (λ z. Contains (f z ∷ []) (f x)) (sym (one_in y x first)) (is_one (f x)))
  | inr rest ↦ Contains-append_right (f y ∷ []) (map f ys) (f x) (map-in f ys x rest)
]

pub in_flat : {X Y : Type 0} (f : X → List Y) (xs : List X) (y : Y) → Contains (flat_map f xs) y
    → (x : X) × Contains xs x × Contains (f x) y
in_flat f [] y h = absurd (none_in y h)
in_flat f (x ∷ xs) y h = elim (Contains-append_cases (f x) (flat_map f xs) y h) [
  | inl first ↦ (x, Contains-append_left (x ∷ []) xs x (is_one x), first)
  | inr rest ↦ (let k = in_flat f xs y rest in (k.0, Contains-append_right (x ∷ []) xs k.0 k.1, k.2))
]

flat_in : {X Y : Type 0} (f : X → List Y) (xs : List X) (x : X) (y : Y) → Contains xs x → Contains (f x) y → Contains (flat_map f xs) y
flat_in f [] x y h k = absurd (none_in x h)
flat_in f (z ∷ zs) x y h k = elim (Contains-append_cases (z ∷ []) zs x h) [
  | inl first ↦ Contains-append_left (f z) (flat_map f zs) y (subst (λ w. Contains (f w) y) (sym (one_in z x first)) k)
  | inr rest ↦ Contains-append_right (f z) (flat_map f zs) y (flat_in f zs x y rest k)
]

-- a number is among the links that lead to an alias exactly if it is among all links
pub in_some : (links : List (Option ℕ)) (i : ℕ) → Contains (filter is_some links) (Some i) → Contains links (Some i)
in_some [] i h = h
in_some (None ∷ links) i h = Contains-append_right (None ∷ []) links (Some i) (in_some links i h)
in_some (Some j ∷ links) i h = elim (Contains-append_cases (Some j ∷ []) (filter is_some links) (Some i) h) [
  | inl first ↦ Contains-append_left (Some j ∷ []) links (Some i) first
  | inr rest ↦ Contains-append_right (Some j ∷ []) links (Some i) (in_some links i rest)
]

some_in : (links : List (Option ℕ)) (i : ℕ) → Contains links (Some i) → Contains (filter is_some links) (Some i)
some_in [] i h = h
some_in (None ∷ links) i h = elim (Contains-append_cases (None ∷ []) links (Some i) h) [
  | inl first ↦ absurd (let both : None ≡ Some i = one_in None (Some i) first in cc)
  | inr rest ↦ some_in links i rest
]
some_in (Some j ∷ links) i h = elim (Contains-append_cases (Some j ∷ []) links (Some i) h) [
  | inl first ↦ Contains-append_left (Some j ∷ []) (filter is_some links) (Some i) first
  | inr rest ↦ Contains-append_right (Some j ∷ []) (filter is_some links) (Some i) (some_in links i rest)
]

-- ---- Names among members

used_in : (ms : List Member) (m : Member) (name : List ℕ) → Contains ms m → alias_named m.atom ≡ Some name → Contains (names_used ms) name
used_in [] m name h is = absurd (none_in m h)
used_in (n ∷ ns) m name h is = elim (Contains-append_cases (n ∷ []) ns m h) [
  | inl first ↦ Contains-append_left (option_to_list (alias_named n.atom)) (names_used ns) name
      (subst (λ (o : Option (List ℕ)). Contains (option_to_list o) name)
      (sym (ap (λ (x : Member). alias_named x.atom) (one_in n m first) ∙ is)) (is_one name))
  | inr rest ↦ Contains-append_right (option_to_list (alias_named n.atom)) (names_used ns) name (used_in ns m name rest is)
]

pub of_used : (ms : List Member) (name : List ℕ) → Contains (names_used ms) name → (m : Member) × Contains ms m
    × (alias_named m.atom ≡ Some name)
of_used [] name h = absurd (none_in name h)
of_used (n ∷ ns) name h = elim (Contains-append_cases (option_to_list (alias_named n.atom)) (names_used ns) name h) [
  | inl first ↦ (n, Contains-append_left (n ∷ []) ns n (is_one n), by (alias_named n.atom) first)
  | inr rest ↦ (let k = of_used ns name rest in (k.0, Contains-append_right (n ∷ []) ns k.0 k.1, k.2))
]
  where
    by : (o : Option (List ℕ)) → Contains (option_to_list o) name → o ≡ Some name
    by None h = absurd (none_in name h)
    by (Some x) h = ap Some (one_in x name h)

module _ (p : Policy) (aliases : List AliasDefinition) (names : Kind → List (List ℕ × ℕ)) (positions : List Position)
    (x : IsIndexed p (definitions p) aliases names positions) where
  abbrev row : Kind → List Member → List (Option ℕ)
  row kind ms = map (link_among (names kind)) ms

  abbrev pub graph : Links
  graph = map (λ (d : AliasDefinition). row d.kind d.members) aliases

  graph_at : (i : ℕ) (d : AliasDefinition) → slice_get aliases i ≡ Some d → slice_get graph i ≡ Some (row d.kind d.members)
  graph_at i d at = slice_get-map (λ (d : AliasDefinition). row d.kind d.members) aliases i
      ∙ ap (option_map (λ (d : AliasDefinition). row d.kind d.members)) at

  -- the alias that stands for a name
  pub at_place : (kind : Kind) (name : List ℕ) (i : ℕ) (d : AliasDefinition) → index_of (names kind) name ≡ Some i
      → slice_get aliases i ≡ Some d → (kind ≡ d.kind) × (name ≡ d.name) × (in_force kind p name ≡ Some d.members)
  at_place kind name i d is at =
      let found : find (defines kind name) (definitions p) ≡ Some d = sym (x.lookup kind name)
      ∙ ap (option_and_then (slice_get aliases)) is ∙ at in
      let same = defines-same kind name d (find-holds (defines kind name) (definitions p) d found) in
      (same.0, same.1, ap (option_map (λ (d : AliasDefinition). d.members)) found)

  pub in_force_alias : (i : ℕ) (d : AliasDefinition) → slice_get aliases i ≡ Some d → in_force d.kind p d.name ≡ Some d.members
  in_force_alias i d at = (at_place d.kind d.name i d (x.own i d at) at).2

  -- a name that is defined has a place
  pub place_of_defined : (kind : Kind) (name : List ℕ) → IsSome (in_force kind p name) → (i : ℕ) × (index_of (names kind) name ≡ Some i)
  place_of_defined kind name there = by (index_of (names kind) name) refl
    where
      by : (o : Option ℕ) → index_of (names kind) name ≡ o → (i : ℕ) × (index_of (names kind) name ≡ Some i)
      by None e =
          let none : in_force kind p name ≡ None = ap (option_map (λ (d : AliasDefinition). d.members))
          (sym (x.lookup kind name) ∙ ap (option_and_then (slice_get aliases)) e) in
          absurd (let no : false ≡ true = subst (λ (o : Option (List Member)). IsSome o) none there in cc)
      by (Some i) e = (i, e)

  -- the aliases that a list's row leads to are those that its members name
  pub row_names : (kind : Kind) (ms : List Member) (j : ℕ) → Contains (row kind ms) (Some j)
      → (name : List ℕ) × Contains (names_used ms) name × (index_of (names kind) name ≡ Some j)
  row_names kind ms j h =
      let k = in_map (link_among (names kind)) ms (Some j) h in
      by k.0 k.1 (alias_named k.0.atom) refl k.2
    where
      by : (m : Member) → Contains ms m → (o : Option (List ℕ)) → alias_named m.atom ≡ o
          → option_and_then (λ name. index_of (names kind) name) o ≡ Some j
          → (name : List ℕ) × Contains (names_used ms) name × (index_of (names kind) name ≡ Some j)
      by m among None e is = cc
      by m among (Some name) e is = (name, used_in ms m name among e, is)

  pub names_row : (kind : Kind) (ms : List Member) (name : List ℕ) (j : ℕ) → Contains (names_used ms) name
      → index_of (names kind) name ≡ Some j → Contains (row kind ms) (Some j)
  names_row kind ms name j h is =
      let k = of_used ms name h in
      let link : link_among (names kind) k.0 ≡ Some j = ap (option_and_then (λ n. index_of (names kind) n)) k.2 ∙ is in
      subst (λ (l : Option ℕ). Contains (row kind ms) l) link (map-in (link_among (names kind)) ms k.0 k.1)

  -- every link leads to an alias
  pub row_closed : (kind : Kind) (ms : List Member) → IsInside (row kind ms) (length aliases)
  row_closed kind ms j h = let k = row_names kind ms j h in x.inside kind k.0 j k.2

  edge_row : (i j : ℕ) (d : AliasDefinition) → slice_get aliases i ≡ Some d → Edge graph i j → Contains (row d.kind d.members) (Some j)
  edge_row i j d at e =
      let both : Some e.row ≡ Some (row d.kind d.members) = sym e.row_is ∙ graph_at i d at in
      let is : e.row ≡ row d.kind d.members = cc in
      subst (λ (r : List (Option ℕ)). Contains r (Some j)) is e.has

  edge_inside : (i j : ℕ) → Edge graph i j → (i < length aliases) × (j < length aliases)
  edge_inside i j e =
      let less = within_get graph i e.row e.row_is in
      let long = length_mapped (λ (d : AliasDefinition). row d.kind d.members) aliases in
      let inside : i < length aliases = omega (arith, less, long) in
      let d = get_within aliases i inside in
      (inside, row_closed d.0.kind d.0.members j (edge_row i j d.0 d.1 e))
    where
      length_mapped : {X Y : Type 0} (f : X → Y) (xs : List X) → length (map f xs) ≡ length xs
      length_mapped f [] = refl
      length_mapped f (x ∷ xs) = ap suc (length_mapped f xs)

  edge_refers : (i j : ℕ) (d e : AliasDefinition) → slice_get aliases i ≡ Some d → slice_get aliases j ≡ Some e
      → Edge graph i j → (e.kind ≡ d.kind) × Refers p d.kind d.name e.name
  edge_refers i j d e at_i at_j edge =
      let k = row_names d.kind d.members j (edge_row i j d at_i edge) in
      let there = at_place d.kind k.0 j e k.2 at_j in (
        sym there.0,
        record {
          members = d.members;
          defines_a = in_force_alias i d at_i;
          names_b = subst (λ (n : List ℕ). Contains (names_used d.members) n) there.1 k.1;
          defined_b = subst (λ (n : List ℕ). IsSome (in_force d.kind p n)) there.1
              (subst (λ (o : Option (List Member)). IsSome o) (sym there.2) refl);
        },
      )

  -- a path leads to what the alias reaches
  pub path_reaches : (i j : ℕ) (d e : AliasDefinition) → slice_get aliases i ≡ Some d → slice_get aliases j ≡ Some e
      → Path graph i j → (e.kind ≡ d.kind) × Reaches p d.kind d.name e.name
  path_reaches i j d e at_i at_j (step edge) = let k = edge_refers i j d e at_i at_j edge in (k.0, one_step k.1)
  path_reaches i j d e at_i at_j (more edge path) =
      let m = get_within aliases _ (edge_inside i _ edge).1 in
      let first = edge_refers i _ d m.0 at_i m.1 edge in
      let rest = path_reaches _ j m.0 e m.1 at_j path in
      (rest.0 ∙ first.0, more_steps first.1 (subst (λ (kind : Kind). Reaches p kind m.0.name e.name) first.0 rest.1))

  -- the alias that a name stands for, with a path to it
  record Way (i : ℕ) (kind : Kind) (name : List ℕ) : Type 0 where
    pub to : ℕ
    pub place : index_of (names kind) name ≡ Some to
    pub path : Path graph i to

  refers_edge : (kind : Kind) (a b : List ℕ) (i : ℕ) → index_of (names kind) a ≡ Some i → Refers p kind a b
      → (j : ℕ) × (index_of (names kind) b ≡ Some j) × Edge graph i j
  refers_edge kind a b i is r =
      let d = get_within aliases i (x.inside kind a i is) in
      let there = at_place kind a i d.0 is d.1 in
      let both : Some r.members ≡ Some d.0.members = sym r.defines_a ∙ there.2 in
      let same : r.members ≡ d.0.members = cc in
      let j = place_of_defined kind b r.defined_b in
      let has : Contains (row kind d.0.members) (Some j.0) =
      names_row kind d.0.members b j.0 (subst (λ (ms : List Member). Contains (names_used ms) b) same r.names_b) j.1 in (
        j.0,
        j.1,
        record {
          row = row d.0.kind d.0.members;
          row_is = graph_at i d.0 d.1;
          has = subst (λ (k : Kind). Contains (row k d.0.members) (Some j.0)) there.0 has;
        },
      )

  reaches_path : (kind : Kind) (a b : List ℕ) (i : ℕ) → index_of (names kind) a ≡ Some i → Reaches p kind a b
      → (j : ℕ) × (index_of (names kind) b ≡ Some j) × Path graph i j
  reaches_path kind a b i is (one_step r) = let k = refers_edge kind a b i is r in (k.0, k.1, step k.2)
  reaches_path kind a b i is (more_steps r s) =
      let k = refers_edge kind a _ i is r in
      let l = reaches_path kind _ b k.0 k.1 s in
      (l.0, l.1, more k.2 l.2)

  -- what an alias reaches, a path leads to
  pub reaches_to : (i j : ℕ) (d e : AliasDefinition) → slice_get aliases i ≡ Some d → slice_get aliases j ≡ Some e
      → e.kind ≡ d.kind → Reaches p d.kind d.name e.name → Path graph i j
  reaches_to i j d e at_i at_j same r =
      let k = reaches_path d.kind d.name e.name i (x.own i d at_i) r in
      let own : index_of (names d.kind) e.name ≡ Some j =
      subst (λ (kind : Kind). index_of (names kind) e.name ≡ Some j) same (x.own j e at_j) in
      let both : Some k.0 ≡ Some j = sym k.1 ∙ own in
      let to : k.0 ≡ j = cc in
      subst (Path graph i) to k.2

  pub cyclic_is : (i : ℕ) (d : AliasDefinition) → slice_get aliases i ≡ Some d → (Path graph i i → IsCyclic p d)
      × (IsCyclic p d → Path graph i i)
  cyclic_is i d at = ((λ path. (path_reaches i i d d at at path).1), (λ r. reaches_to i i d d at at refl r))

  -- ---- Use

  abbrev pub roots : List (Option ℕ)
  roots = flat_map (λ (l : MemberList). if l.granting then filter is_some (row l.kind l.members) else []) (lists p)

  granting_has : (l : MemberList) (j : ℕ)
      → Contains (if l.granting then filter is_some (row l.kind l.members) else []) (Some j)
      → (l.granting ≡ true) × Contains (row l.kind l.members) (Some j)
  granting_has l j h = by l.granting refl h
    where
      by : (b : Bool) → l.granting ≡ b → Contains (if b then filter is_some (row l.kind l.members) else []) (Some j)
          → (l.granting ≡ true) × Contains (row l.kind l.members) (Some j)
      by true e h = (e, in_some (row l.kind l.members) j h)
      by false e h = absurd (none_in (Some j) h)

  has_granting : (l : MemberList) (j : ℕ) → l.granting ≡ true → Contains (row l.kind l.members) (Some j)
      → Contains (if l.granting then filter is_some (row l.kind l.members) else []) (Some j)
  has_granting l j e h = subst (λ (b : Bool). Contains (if b then filter is_some (row l.kind l.members) else [])
      (Some j)) (sym e) (some_in (row l.kind l.members) j h)

  pub reached_used : (i : ℕ) (d : AliasDefinition) → slice_get aliases i ≡ Some d → IsReached graph roots i → IsUsed p d
  reached_used i d at r =
      let k = in_flat (λ (l : MemberList). if l.granting then filter is_some (row l.kind l.members) else []) (lists p)
      (Some r.root) r.among in
      let g = granting_has k.0 r.root k.2 in
      let n = row_names k.0.kind k.0.members r.root g.1 in
      let e = get_within aliases r.root (x.inside k.0.kind n.0 r.root n.2) in
      let there = at_place k.0.kind n.0 r.root e.0 n.2 e.1 in
      let way : (d.kind ≡ e.0.kind) × ((e.0.name ≡ d.name) ⊎ Reaches p d.kind e.0.name d.name) = elim r.way [
        | inl same ↦
            (let both : Some e.0 ≡ Some d = sym e.1 ∙ ap (slice_get aliases) same ∙ at in
            let is : e.0 ≡ d = cc in
            (sym (ap (λ (y : AliasDefinition). y.kind) is), inl (ap (λ (y : AliasDefinition). y.name) is)))
        | inr path ↦
            (let reach = path_reaches r.root i e.0 d e.1 at path in
            (reach.0, inr (subst (λ (kind : Kind). Reaches p kind e.0.name d.name) (sym reach.0) reach.1)))
      ] in
      record {
        list = k.0;
        among = k.1;
        grants = g.0;
        same_kind = there.0 ∙ sym way.0;
        name = e.0.name;
        named = subst (λ (n : List ℕ). Contains (names_used k.0.members) n) there.1 n.1;
        way = way.1;
      }

  pub used_reached : (i : ℕ) (d : AliasDefinition) → slice_get aliases i ≡ Some d → IsUsed p d → IsReached graph roots i
  used_reached i d at u =
      let first = place u.way in
      let has : Contains (row u.list.kind u.list.members) (Some first.0) =
      subst (λ (kind : Kind). Contains (row kind u.list.members) (Some first.0)) (sym u.same_kind)
      (names_row d.kind u.list.members u.name first.0 u.named first.1) in
      record {
        root = first.0;
        among = flat_in (λ (l : MemberList). if l.granting then filter is_some (row l.kind l.members) else [])
            (lists p) u.list (Some first.0) u.among (has_granting u.list first.0 u.grants has);
        way = first.2;
      }
    where
      place : (u.name ≡ d.name) ⊎ Reaches p d.kind u.name d.name → (j : ℕ) × (index_of (names d.kind) u.name ≡ Some j)
          × ((j ≡ i) ⊎ Path graph j i)
      place (inl same) = (i, ap (index_of (names d.kind)) same ∙ x.own i d at, inl refl)
      place (inr r) =
          let j = place_of_defined d.kind u.name (start r) in
          let k = reaches_path d.kind u.name d.name j.0 j.1 r in
          let both : Some k.0 ≡ Some i = sym k.1 ∙ x.own i d at in
          let to : k.0 ≡ i = cc in
          (j.0, j.1, inr (subst (Path graph j.0) to k.2))
        where
          start : {a b : List ℕ} → Reaches p d.kind a b → IsSome (in_force d.kind p a)
          start (one_step r) = subst (λ (o : Option (List Member)). IsSome o) (sym r.defines_a) refl
          start (more_steps r s) = subst (λ (o : Option (List Member)). IsSome o) (sym r.defines_a) refl
