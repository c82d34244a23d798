-- Laws of the survey of definitions.
use Rattle.std.proofs.Common.{◌≡◌, ℕ, zero, suc, ◌+◌, ◌≤◌, ◌<◌, Bool, true, false, cond, List, [], ◌∷◌, ◌++◌, length}
use Rattle.std.proofs.Common.{Option, None, Some, map, refl, sym, ◌∙◌, ap, subst, arith, append_assoc, append-nil}
use Rattle.std.proofs.Common.{length-append, take, drop, get_or, inl, inr, ◌⊎◌}
use Rattle.std.specs.Prelude.{slice_get, find, is_some, option_map, option_and_then, bytes_eq, if◌then◌else◌, ◌&&◌}
use Rattle.std.specs.Option.{option_or}
use Rattle.std.proofs.lemmas.List.Folds.{find-append}
use Rattle.std.specs.Cmp.Lexicographic.{bytes_decides}
use Rattle.sudo_grammar.specs.declared.kind.Kind.{Kind}
use Rattle.sudo_grammar.specs.declared.kind.Kind.TheVariants.{User, Runas, Host, Cmnd}
use Rattle.sudo_policy.specs.declared.index.Position.{Position}
use Rattle.sudo_grammar.specs.declared.kind.Member.{Member}
use Rattle.sudo_grammar.specs.declared.policy.Policy.{Policy}
use Rattle.sudo_grammar.specs.Kinds.{same_kind}
use Rattle.sudo_policy.specs.Definitions.{AliasDefinition, defines, is_defined_in, definitions_in_force, redefinitions}
use Rattle.std.proofs.lemmas.List.Elements.{All-push}
use Rattle.std.specs.Prelude.{All, flat_map}
use Rattle.std.proofs.lemmas.List.{map_push, drop_more}
use Rattle.sudo_text.specs.declared.line.Place.{Place}
use Rattle.sudo_policy.specs.declared.survey.DefinitionRef.{DefinitionRef}
use Rattle.sudo_policy.specs.Body.DefinitionRef.{IsIndexed, IsAtItsPosition}
use Rattle.sudo_policy.proofs.StateLemmas.{get_within}
use Rattle.sudo_policy.specs.Positions.{members_at}
use Rattle.sudo_base.specs.NameIndices.{index_of}
use Rattle.std.proofs.lemmas.Bool.{and_parts}
use Rattle.sudo_base.proofs.Options.{option_or-some}
use Rattle.sudo_base.proofs.Lists.{slice_get-append-left}

-- a definition that comes last
definitions_in_force-last : (before ds : List AliasDefinition) (d : AliasDefinition)
    → definitions_in_force before (ds ++ d ∷ []) ≡ definitions_in_force before ds ++ (if is_defined_in (before ++ ds) d then [] else d ∷ [])
definitions_in_force-last before [] d = go (is_defined_in before d) refl
  where
    go : (b : Bool) → is_defined_in before d ≡ b
        → (if is_defined_in before d then [] else d ∷ []) ≡ (if is_defined_in (before ++ []) d then [] else d ∷ [])
    go b e = ap (λ ds. if is_defined_in ds d then [] else d ∷ []) (sym (append-nil before))
definitions_in_force-last before (x ∷ ds) d =
    let rest = definitions_in_force-last (before ++ x ∷ []) ds d in
    let e : (before ++ x ∷ []) ++ ds ≡ before ++ x ∷ ds = append_assoc before (x ∷ []) ds in
    let end : definitions_in_force (before ++ x ∷ []) (ds ++ d ∷ []) ≡ definitions_in_force (before ++ x ∷ []) ds
    ++ (if is_defined_in (before ++ x ∷ ds) d then [] else d ∷ []) =
    rest ∙ ap (λ es. definitions_in_force (before ++ x ∷ []) ds ++ (if is_defined_in es d then [] else d ∷ [])) e in
    by (is_defined_in before x) end
  where
    by : (b : Bool) → definitions_in_force (before ++ x ∷ []) (ds ++ d ∷ []) ≡ definitions_in_force (before ++ x ∷ [])
        ds ++ (if is_defined_in (before ++ x ∷ ds) d then [] else d ∷ [])
        → (if b then definitions_in_force (before ++ x ∷ []) (ds ++ d ∷ []) else x ∷ definitions_in_force
        (before ++ x ∷ []) (ds ++ d ∷ [])) ≡ (if b then definitions_in_force (before ++ x ∷ []) ds else x
        ∷ definitions_in_force (before ++ x ∷ []) ds) ++ (if is_defined_in (before ++ x ∷ ds) d then [] else d ∷ [])
    by true end = end
    by false end = ap (λ es. x ∷ es) end

redefinitions-last : (before ds : List AliasDefinition) (d : AliasDefinition)
    → redefinitions before (ds ++ d ∷ []) ≡ redefinitions before ds ++ (if is_defined_in (before ++ ds) d then d ∷ [] else [])
redefinitions-last before [] d = ap (λ ds. if is_defined_in ds d then d ∷ [] else []) (sym (append-nil before))
redefinitions-last before (x ∷ ds) d =
    let rest = redefinitions-last (before ++ x ∷ []) ds d in
    let e : (before ++ x ∷ []) ++ ds ≡ before ++ x ∷ ds = append_assoc before (x ∷ []) ds in
    let end : redefinitions (before ++ x ∷ []) (ds ++ d ∷ []) ≡ redefinitions (before ++ x ∷ []) ds
    ++ (if is_defined_in (before ++ x ∷ ds) d then d ∷ [] else []) =
    rest ∙ ap (λ es. redefinitions (before ++ x ∷ []) ds ++ (if is_defined_in es d then d ∷ [] else [])) e in
    by (is_defined_in before x) end
  where
    by : (b : Bool) → redefinitions (before ++ x ∷ []) (ds ++ d ∷ []) ≡ redefinitions (before ++ x ∷ []) ds
        ++ (if is_defined_in (before ++ x ∷ ds) d then d ∷ [] else [])
        → (if b then x ∷ redefinitions (before ++ x ∷ []) (ds ++ d ∷ []) else redefinitions (before ++ x ∷ [])
        (ds ++ d ∷ [])) ≡ (if b then x ∷ redefinitions (before ++ x ∷ []) ds else redefinitions (before ++ x ∷ [])
        ds) ++ (if is_defined_in (before ++ x ∷ ds) d then d ∷ [] else [])
    by true end = ap (λ es. x ∷ es) end
    by false end = end

pub definitions_in_force-known : (ds : List AliasDefinition) (d : AliasDefinition) → is_defined_in ds d ≡ true
    → definitions_in_force [] (ds ++ d ∷ []) ≡ definitions_in_force [] ds
definitions_in_force-known ds d is = definitions_in_force-last [] ds d
    ∙ ap (λ b. definitions_in_force [] ds ++ (if b then [] else d ∷ [])) is ∙ append-nil (definitions_in_force [] ds)

pub definitions_in_force-new : (ds : List AliasDefinition) (d : AliasDefinition) → is_defined_in ds d ≡ false
    → definitions_in_force [] (ds ++ d ∷ []) ≡ definitions_in_force [] ds ++ d ∷ []
definitions_in_force-new ds d is = definitions_in_force-last [] ds d ∙ ap (λ b. definitions_in_force [] ds ++ (if b then [] else d ∷ [])) is

pub redefinitions-known : (ds : List AliasDefinition) (d : AliasDefinition) → is_defined_in ds d ≡ true
    → redefinitions [] (ds ++ d ∷ []) ≡ redefinitions [] ds ++ d ∷ []
redefinitions-known ds d is = redefinitions-last [] ds d ∙ ap (λ b. redefinitions [] ds ++ (if b then d ∷ [] else [])) is

pub redefinitions-new : (ds : List AliasDefinition) (d : AliasDefinition) → is_defined_in ds d ≡ false
    → redefinitions [] (ds ++ d ∷ []) ≡ redefinitions [] ds
redefinitions-new ds d is = redefinitions-last [] ds d
    ∙ ap (λ b. redefinitions [] ds ++ (if b then d ∷ [] else [])) is ∙ append-nil (redefinitions [] ds)

pub get_append_end : {X : Type 0} (xs : List X) (y : X) → slice_get (xs ++ y ∷ []) (length xs) ≡ Some y
get_append_end [] y = refl
get_append_end (x ∷ xs) y = get_append_end xs y

get_append_cases : {X : Type 0} (xs : List X) (y : X) (i : ℕ) (x : X) → slice_get (xs ++ y ∷ []) i ≡ Some x
    → (slice_get xs i ≡ Some x) ⊎ ((i ≡ length xs) × (x ≡ y))
get_append_cases [] y zero x h = inr (refl, cc)
get_append_cases [] y (suc i) x h = cc
get_append_cases (z ∷ xs) y zero x h = inl h
get_append_cases (z ∷ xs) y (suc i) x h = elim (get_append_cases xs y i x h) [
  | inl old ↦ inl old
  | inr end ↦ inr (ap suc end.0, end.1)
]

-- a position among names with one more at the end
pub place_of_append : (name other : List ℕ) (v : ℕ) (es : List (List ℕ × ℕ))
    → index_of (es ++ (other, v) ∷ []) name ≡ option_or (index_of es name) (if bytes_eq name other then Some v else None)
place_of_append name other v [] = refl
place_of_append name other v (e ∷ es) = by (bytes_eq name e.0) (place_of_append name other v es)
  where
    by : (b : Bool) → index_of (es ++ (other, v) ∷ []) name ≡ option_or (index_of es name)
        (if bytes_eq name other then Some v else None)
        → cond b (Some e.1) (index_of (es ++ (other, v) ∷ []) name) ≡ option_or (cond b (Some e.1) (index_of es name))
        (if bytes_eq name other then Some v else None)
    by true h = refl
    by false h = h

kind_same : (a b : Kind) → same_kind a b ≡ true → a ≡ b
kind_same User User h = refl
kind_same User Runas h = cc
kind_same User Host h = cc
kind_same User Cmnd h = cc
kind_same Runas User h = cc
kind_same Runas Runas h = refl
kind_same Runas Host h = cc
kind_same Runas Cmnd h = cc
kind_same Host User h = cc
kind_same Host Runas h = cc
kind_same Host Host h = refl
kind_same Host Cmnd h = cc
kind_same Cmnd User h = cc
kind_same Cmnd Runas h = cc
kind_same Cmnd Host h = cc
kind_same Cmnd Cmnd h = refl

true_or_false : (b : Bool) → (b ≡ true) ⊎ (b ≡ false)
true_or_false true = inl refl
true_or_false false = inr refl

-- a definition of this name and kind
pub defines-same : (kind : Kind) (name : List ℕ) (d : AliasDefinition) → defines kind name d ≡ true → (kind ≡ d.kind) × (name ≡ d.name)
defines-same kind name d h =
    let k = and_parts (same_kind kind d.kind) (bytes_eq name d.name) h in
    (kind_same kind d.kind k.0, (bytes_decides name d.name).0 k.1)

-- a look-up among definitions with one more at the end
find-last : (kind : Kind) (name : List ℕ) (ds : List AliasDefinition) (d : AliasDefinition)
    → find (defines kind name) (ds ++ d ∷ []) ≡ option_or (find (defines kind name) ds) (cond (defines kind name d) (Some d) None)
find-last kind name ds d = find-append (defines kind name) ds (d ∷ [])

pub option_or-none : {X : Type 0} (o : Option X) → option_or o None ≡ o
option_or-none None = refl
option_or-none (Some x) = refl

-- a definition whose name is known changes no look-up
pub find-known : (kind : Kind) (name : List ℕ) (ds : List AliasDefinition) (d : AliasDefinition)
    → is_defined_in ds d ≡ true → find (defines kind name) (ds ++ d ∷ []) ≡ find (defines kind name) ds
find-known kind name ds d known = find-last kind name ds d ∙ elim (true_or_false (defines kind name d)) [
  | inl holds ↦
      (let s = defines-same kind name d holds in
      let here : is_some (find (defines kind name) ds) ≡ true =
      subst (λ (n : List ℕ). is_some (find (defines kind n) ds) ≡ true) (sym s.1)
      (subst (λ (k : Kind). is_some (find (defines k d.name) ds) ≡ true) (sym s.0) known) in
      option_or-some (find (defines kind name) ds) (cond (defines kind name d) (Some d) None) here)
  | inr fails ↦ ap (λ b. option_or (find (defines kind name) ds) (cond b (Some d) None)) fails
      ∙ option_or-none (find (defines kind name) ds)
]

-- a name with a position has a definition, and one without has none
pub known-from : (p : Policy) (done aliases : List AliasDefinition) (names : Kind → List (List ℕ × ℕ))
    (positions : List Position) → IsIndexed p done aliases names positions → (kind : Kind) (name : List ℕ) (i : ℕ)
    → index_of (names kind) name ≡ Some i → is_some (find (defines kind name) done) ≡ true
known-from p done aliases names positions x kind name i is =
    let a = get_within aliases i (x.inside kind name i is) in
    let e : find (defines kind name) done ≡ Some a.0 = sym (x.lookup kind name) ∙ ap (option_and_then (slice_get aliases)) is ∙ a.1 in
    ap is_some e

pub unknown_from : (p : Policy) (done aliases : List AliasDefinition) (names : Kind → List (List ℕ × ℕ))
    (positions : List Position) → IsIndexed p done aliases names positions → (kind : Kind) (name : List ℕ)
    → index_of (names kind) name ≡ None → is_some (find (defines kind name) done) ≡ false
unknown_from p done aliases names positions x kind name is =
    let e : find (defines kind name) done ≡ None = sym (x.lookup kind name) ∙ ap (option_and_then (slice_get aliases)) is in
    ap is_some e

pub IsIndexed-known : (p : Policy) (done aliases : List AliasDefinition) (names : Kind → List (List ℕ × ℕ))
    (positions : List Position) (d : AliasDefinition) → is_defined_in done d ≡ true
    → IsIndexed p done aliases names positions → IsIndexed p (done ++ d ∷ []) aliases names positions
IsIndexed-known p done aliases names positions d known i = record {
  lookup = λ kind name. i.lookup kind name ∙ sym (find-known kind name done d known);
  inside = i.inside;
  own = i.own;
  same_length = i.same_length;
  placed = i.placed;
}

-- a look-up by a position that stays
and_then_before : (aliases : List AliasDefinition) (d : AliasDefinition) (o : Option ℕ)
    → ((i : ℕ) → o ≡ Some i → i < length aliases)
    → option_and_then (slice_get (aliases ++ d ∷ [])) o ≡ option_and_then (slice_get aliases) o
and_then_before aliases d None inside = refl
and_then_before aliases d (Some i) inside = slice_get-append-left aliases (d ∷ []) i (inside i refl)

-- a look-up by a position that may be the new one
and_then_new : (aliases : List AliasDefinition) (d : AliasDefinition) (o : Option ℕ) (b : Bool)
    (q : Option AliasDefinition) → ((i : ℕ) → o ≡ Some i → i < length aliases)
    → option_and_then (slice_get aliases) o ≡ q → (b ≡ true → o ≡ None)
    → option_and_then (slice_get (aliases ++ d ∷ [])) (option_or o (if b then Some (length aliases) else None))
    ≡ option_or q (cond b (Some d) None)
and_then_new aliases d None true q inside is new = get_append_end aliases d ∙ ap (λ o. option_or o (Some d)) is
and_then_new aliases d None false q inside is new = ap (λ o. option_or o None) is
and_then_new aliases d (Some i) true q inside is new = let e = new refl in cc
and_then_new aliases d (Some i) false q inside is new = slice_get-append-left aliases (d ∷ []) i (inside i refl) ∙ is
    ∙ sym (option_or-none q)

one_more : (o : Option ℕ) (b : Bool) (i n : ℕ) → ((j : ℕ) → o ≡ Some j → j < n)
    → option_or o (if b then Some n else None) ≡ Some i → i < n + 1
one_more None true i n inside is = let e : n ≡ i = cc in omega (arith, e)
one_more None false i n inside is = cc
one_more (Some j) b i n inside is = let less = inside j refl in let e : j ≡ i = cc in omega (arith, e, less)

placed_append : (f : Position → Option (List Member)) (positions : List Position) (position : Position)
    (aliases : List AliasDefinition) (d : AliasDefinition) (i : ℕ) → length positions ≡ length aliases
    → f position ≡ Some d.members → option_and_then f (slice_get positions i) ≡ option_map
    (λ (x : AliasDefinition). x.members) (slice_get aliases i)
    → option_and_then f (slice_get (positions ++ position ∷ []) i) ≡ option_map (λ (x : AliasDefinition). x.members)
    (slice_get (aliases ++ d ∷ []) i)
placed_append f [] position [] d zero long stands is = stands
placed_append f [] position [] d (suc i) long stands is = refl
placed_append f [] position (a ∷ aliases) d i long stands is = absurd (omega (arith, long))
placed_append f (q ∷ positions) position [] d i long stands is = absurd (omega (arith, long))
placed_append f (q ∷ positions) position (a ∷ aliases) d zero long stands is = is
placed_append f (q ∷ positions) position (a ∷ aliases) d (suc i) long stands is =
    placed_append f positions position aliases d i (omega (arith, long)) stands is

module _ (p : Policy) (done aliases : List AliasDefinition) (names more : Kind → List (List ℕ × ℕ))
    (positions : List Position) (d : AliasDefinition) (position : Position)
    (before : IsIndexed p done aliases names positions)
    (absent : index_of (names d.kind) d.name ≡ None)
    (grown : more d.kind ≡ names d.kind ++ (d.name, length aliases) ∷ [])
    (others : (kind : Kind) → same_kind kind d.kind ≡ false → more kind ≡ names kind)
    (stands : members_at p position ≡ Some d.members) where
  -- the position of a name, with the new one
  more_place : (name : List ℕ) → index_of (more d.kind) name ≡ option_or (index_of (names d.kind) name)
      (if bytes_eq name d.name then Some (length aliases) else None)
  more_place name = ap (λ es. index_of es name) grown ∙ place_of_append name d.name (length aliases) (names d.kind)

  more_lookup : (kind : Kind) (name : List ℕ)
      → option_and_then (slice_get (aliases ++ d ∷ [])) (index_of (more kind) name) ≡ find (defines kind name) (done ++ d ∷ [])
  more_lookup kind name = elim (true_or_false (same_kind kind d.kind)) [
    | inl holds ↦
        (let same = kind_same kind d.kind holds in
        let at_kind : option_and_then (slice_get (aliases ++ d ∷ [])) (index_of (more d.kind) name) ≡ option_or
        (find (defines d.kind name) done) (cond (bytes_eq name d.name) (Some d) None) =
        ap (option_and_then (slice_get (aliases ++ d ∷ []))) (more_place name)
        ∙ and_then_new aliases d (index_of (names d.kind) name) (bytes_eq name d.name)
        (find (defines d.kind name) done) (before.inside d.kind name) (before.lookup d.kind name)
        (λ e. ap (λ n. index_of (names d.kind) n) ((bytes_decides name d.name).0 e) ∙ absent) in
        let whole : option_and_then (slice_get (aliases ++ d ∷ [])) (index_of (more kind) name) ≡ option_or
        (find (defines kind name) done) (cond (bytes_eq name d.name) (Some d) None) =
        subst (λ (k : Kind). option_and_then (slice_get (aliases ++ d ∷ [])) (index_of (more k) name) ≡ option_or
        (find (defines k name) done) (cond (bytes_eq name d.name) (Some d) None)) (sym same) at_kind in
        whole ∙ ap (λ b. option_or (find (defines kind name) done) (cond (b && bytes_eq name d.name) (Some d) None))
        (sym holds) ∙ sym (find-last kind name done d))
    | inr fails ↦
        (ap (λ es. option_and_then (slice_get (aliases ++ d ∷ [])) (index_of es name)) (others kind fails)
        ∙ and_then_before aliases d (index_of (names kind) name) (before.inside kind name)
        ∙ before.lookup kind name
        ∙ sym (option_or-none (find (defines kind name) done))
        ∙ ap (λ b. option_or (find (defines kind name) done) (cond (b && bytes_eq name d.name) (Some d) None)) (sym fails)
        ∙ sym (find-last kind name done d))
  ]

  more_inside : (kind : Kind) (name : List ℕ) (i : ℕ) → index_of (more kind) name ≡ Some i → i < length (aliases ++ d ∷ [])
  more_inside kind name i is =
      let long : length (aliases ++ d ∷ []) ≡ length aliases + 1 = length-append aliases (d ∷ []) in
      elim (true_or_false (same_kind kind d.kind)) [
        | inl holds ↦
            (let at : index_of (more d.kind) name ≡ Some i = subst (λ (k : Kind). index_of (more k) name ≡ Some i)
            (kind_same kind d.kind holds) is in
            let less = one_more (index_of (names d.kind) name) (bytes_eq name d.name) i (length aliases)
            (before.inside d.kind name) (sym (more_place name) ∙ at) in
            omega (arith, long, less))
        | inr fails ↦
            (let less = before.inside kind name i (ap (λ es. index_of es name) (sym (others kind fails)) ∙ is) in
            omega (arith, long, less))
      ]

  more_own : (i : ℕ) (e : AliasDefinition) → slice_get (aliases ++ d ∷ []) i ≡ Some e → index_of (more e.kind) e.name ≡ Some i
  more_own i e at =
      elim (get_append_cases aliases d i e at) [
        | inl old ↦
            (let was : index_of (names e.kind) e.name ≡ Some i = before.own i e old in
            elim (true_or_false (same_kind e.kind d.kind)) [
              | inl holds ↦
                  (let same = kind_same e.kind d.kind holds in
                  let here : index_of (names d.kind) e.name ≡ Some i = subst (λ (k : Kind). index_of (names k) e.name ≡ Some i) same was in
                  subst (λ (k : Kind). index_of (more k) e.name ≡ Some i) (sym same) (more_place e.name
                  ∙ ap (λ o. option_or o (if bytes_eq e.name d.name then Some (length aliases) else None)) here))
              | inr fails ↦ ap (λ es. index_of es e.name) (others e.kind fails) ∙ was
            ])
        | inr end ↦
            (let last : index_of (more d.kind) d.name ≡ Some (length aliases) =
            more_place d.name
            ∙ ap (λ o. option_or o (if bytes_eq d.name d.name then Some (length aliases) else None)) absent
            ∙ ap (λ b. if b then Some (length aliases) else None) ((bytes_decides d.name d.name).1 refl) in
            subst (λ (x : AliasDefinition). index_of (more x.kind) x.name ≡ Some i) (sym end.1) (last ∙ ap Some (sym end.0)))
      ]

  more_placed : (i : ℕ) → option_and_then (members_at p) (slice_get (positions ++ position ∷ []) i) ≡ option_map
      (λ (x : AliasDefinition). x.members) (slice_get (aliases ++ d ∷ []) i)
  more_placed i = placed_append (members_at p) positions position aliases d i before.same_length stands (before.placed i)

  pub IsIndexed-new : IsIndexed p (done ++ d ∷ []) (aliases ++ d ∷ []) more (positions ++ position ∷ [])
  IsIndexed-new =
      let long : length (aliases ++ d ∷ []) ≡ length aliases + 1 = length-append aliases (d ∷ []) in
      let wide : length (positions ++ position ∷ []) ≡ length positions + 1 = length-append positions (position ∷ []) in
      let same = before.same_length in
      record {
        lookup = more_lookup;
        inside = more_inside;
        own = more_own;
        same_length = omega (arith, long, wide, same);
        placed = more_placed;
      }

pub take-whole : {X : Type 0} (xs : List X) (i : ℕ) → length xs ≤ i → take i xs ≡ xs
take-whole [] zero h = refl
take-whole [] (suc i) h = refl
take-whole (x ∷ xs) zero h = absurd (omega arith)
take-whole (x ∷ xs) (suc i) h = ap (λ ys. x ∷ ys) (take-whole xs i (omega arith))

-- one more definition is where it is said to be
pub placed_push : (p : Policy) (olds news : List DefinitionRef) (n : DefinitionRef) → news ≡ olds ++ n ∷ []
    → All (IsAtItsPosition p) olds → IsAtItsPosition p n → All (IsAtItsPosition p) news
placed_push p olds news n is all here = subst (λ (ns : List DefinitionRef). All (IsAtItsPosition p) ns) (sym is)
    (All-push (IsAtItsPosition p) olds n all here)

-- one step of a loop that appends what it goes over
pub push_step : {X Y V : Type 0} (view : Y → V) (of : X → V) (olds news : List Y) (n : Y) (xs : List X) (i : ℕ)
    (x : X) (whole : List V) → news ≡ olds ++ n ∷ [] → i < length xs → x ≡ get_or xs i x → view n ≡ of x
    → map view olds ++ map of (drop i xs) ≡ whole → map view news ++ map of (drop (i + 1) xs) ≡ whole
push_step view of olds news n xs i x whole grown less is same before =
    ap (λ ys. map view ys ++ map of (drop (i + 1) xs)) grown
    ∙ ap (λ ys. ys ++ map of (drop (i + 1) xs)) (map_push view olds n)
    ∙ append_assoc (map view olds) (view n ∷ []) (map of (drop (i + 1) xs))
    ∙ ap (λ v. map view olds ++ v ∷ map of (drop (i + 1) xs)) same
    ∙ ap (λ ys. map view olds ++ map of ys) (sym (drop_more xs i x less ∙ ap (λ y. y ∷ drop (i + 1) xs) (sym is)))
    ∙ before

pub flat_step : {X V : Type 0} (of : X → List V) (olds news : List V) (xs : List X) (i : ℕ) (x : X) (whole : List V)
    → news ≡ olds ++ of x → i < length xs → x ≡ get_or xs i x → olds ++ flat_map of (drop i xs) ≡ whole
    → news ++ flat_map of (drop (i + 1) xs) ≡ whole
flat_step of olds news xs i x whole grown less is before =
    ap (λ ys. ys ++ flat_map of (drop (i + 1) xs)) grown
    ∙ append_assoc olds (of x) (flat_map of (drop (i + 1) xs))
    ∙ ap (λ ys. olds ++ flat_map of ys) (sym (drop_more xs i x less ∙ ap (λ y. y ∷ drop (i + 1) xs) (sym is)))
    ∙ before

abbrev defined : Kind → Place → List ℕ → List Member → AliasDefinition
defined kind place name members = record { kind = kind; place = place; name = name; members = members }

pub same_defined : (kind : Kind) (place : Place) (a b : List ℕ) (x y : List Member) → a ≡ b → x ≡ y
    → defined kind place a x ≡ defined kind place b y
same_defined kind place a b x y e f = ap (λ n. defined kind place n x) e ∙ ap (λ ms. defined kind place b ms) f
