-- The findings of the code are those of the policy.
use Rattle.std.proofs.Common.{◌≡◌, ℕ, suc, ◌<◌, Bool, true, false, not, cond, List, [], ◌∷◌, ◌++◌, map, length}
use Rattle.std.proofs.Common.{Option, None, Some, refl, sym, ◌∙◌, ap, subst, arith}
use Rattle.std.specs.Prelude.{slice_get, option_map, option_and_then, option_to_list, is_none, is_some, find, filter}
use Rattle.std.specs.Prelude.{flat_map, Contains, if◌then◌else◌}
use Rattle.std.specs.List.{items_where_true}
use Rattle.sudo_base.specs.NameIndices.{index_of}
use Rattle.sudo_grammar.specs.declared.kind.Kind.{Kind}
use Rattle.sudo_grammar.specs.declared.kind.Member.{Member}
use Rattle.sudo_grammar.specs.declared.policy.Policy.{Policy}
use Rattle.sudo_policy.specs.declared.examination.AliasMarks.{AliasMarks}
use Rattle.sudo_policy.specs.declared.finding.Class.TheVariants.{Redefined, Undefined, Cycle, TooDeep, TooWide, Unused}
use Rattle.sudo_policy.specs.declared.finding.Finding.{Finding}
use Rattle.sudo_policy.specs.declared.graph.State.{State}
use Rattle.sudo_policy.specs.declared.index.Index.{Index}
use Rattle.sudo_policy.specs.declared.survey.Survey.{Survey}
use Rattle.sudo_policy.specs.Definitions.{AliasDefinition, MemberList, aliases, redefinitions, definitions, lists}
use Rattle.sudo_policy.specs.Definitions.{alias_named, names_used, in_force, defines}
use Rattle.sudo_policy.specs.Found.{Marks, AreFindings, has_error, found_by, finding_on, undefined_in, IsCyclic}
use Rattle.sudo_policy.specs.Found.{IsTooDeep, IsTooWide, IsUnused}
use Rattle.sudo_policy.specs.Body.Graph.{Links, Path, IsClosed, IsInside, IsReached, MarksOf, StatesHold, IsSettled}
use Rattle.sudo_policy.specs.Body.Judgement.{is_deep, is_wide, AreAliasMarks, found_in, missing_in, atom_missing}
use Rattle.sudo_policy.specs.Body.DefinitionRef.{alias_view, row_of, row_of_alias, granting_row, link_of, IsSurvey, LeadsInside}
use Rattle.sudo_policy.specs.Body.Positions.{names_of_kind}
use Rattle.std.proofs.lemmas.Option.{slice_get-map}
use Rattle.sudo_base.proofs.Lists.{find-holds}
use Rattle.std.proofs.lemmas.List.{length-map}
use Rattle.sudo_policy.proofs.FollowingLemmas.{option_map-some}
use Rattle.sudo_policy.proofs.JudgeLemmas.{cyclic_are, deep_are, wide_are, unused_are, have_depths}
use Rattle.sudo_policy.proofs.LinkLemmas.{in_map, in_flat, in_some}
use Rattle.sudo_policy.proofs.MarkingLemmas.{none_in}
use Rattle.sudo_policy.specs.Resolving.{IsSound}
use Rattle.sudo_policy.proofs.SoundnessLemmas.{sound_from}
use Rattle.sudo_policy.proofs.StateLemmas.{get_within}
use Rattle.sudo_policy.proofs.SurveyLemmas.{defines-same}

-- ---- Links lead to aliases

row_leads : (index : Index) (n : ℕ) (kind : Kind) (ms : List Member) → ((kind : Kind) (name : List ℕ) (i : ℕ)
    → index_of (names_of_kind index kind) name ≡ Some i → i < n) → IsInside (row_of index kind ms) n
row_leads index n kind ms inside j h =
    let k = in_map (link_of index kind) ms (Some j) h in
    by (alias_named k.0.atom) k.2
  where
    by : (o : Option (List ℕ)) → option_and_then (λ name. index_of (names_of_kind index kind) name) o ≡ Some j → j < n
    by None e = cc
    by (Some name) e = inside kind name j e

pub links_closed : (index : Index) (ds : List AliasDefinition) → ((kind : Kind) (name : List ℕ) (i : ℕ)
    → index_of (names_of_kind index kind) name ≡ Some i → i < length ds) → IsClosed (map (row_of_alias index) ds)
links_closed index ds inside i j e =
    let k = option_map-some (row_of_alias index) (slice_get ds i) e.row (sym (slice_get-map (row_of_alias index) ds i) ∙ e.row_is) in
    let less = row_leads index (length ds) k.0.kind k.0.members inside j (subst (λ (r : List (Option ℕ)). Contains r (Some j)) k.2 e.has) in
    let long = length-map ds (row_of_alias index) in
    omega (arith, less, long)

pub roots_inside : (index : Index) (n : ℕ) (ls : List MemberList) → ((kind : Kind) (name : List ℕ) (i : ℕ)
    → index_of (names_of_kind index kind) name ≡ Some i → i < n) → IsInside (flat_map (granting_row index) ls) n
roots_inside index n ls inside j h =
    let k = in_flat (granting_row index) ls (Some j) h in
    by k.0 k.0.granting k.2
  where
    by : (l : MemberList) (b : Bool) → Contains (if b then filter is_some (row_of index l.kind l.members) else []) (Some j) → j < n
    by l true h = row_leads index n l.kind l.members inside j (in_some (row_of index l.kind l.members) j h)
    by l false h = absurd (none_in (Some j) h)

pub leads_inside : (p : Policy) (survey : Survey) → IsSurvey p (definitions p) survey → LeadsInside survey
leads_inside p survey s kind name i is =
    let less = s.indexed.inside kind name i is in
    let long = length-map survey.aliases.items alias_view in
    omega (arith, less, long)

pub views_inside : (survey : Survey) → LeadsInside survey → (kind : Kind) (name : List ℕ) (i : ℕ)
    → index_of (names_of_kind survey.index kind) name ≡ Some i → i < length (map alias_view survey.aliases.items)
views_inside survey leads kind name i is =
    let less = leads kind name i is in
    let long = length-map survey.aliases.items alias_view in
    omega (arith, less, long)

-- ---- What was found of each alias

module _ (p : Policy) (survey : Survey) (s : IsSurvey p (definitions p) survey)
    (links : Links) (links_are : links ≡ map (row_of_alias survey.index) (map alias_view survey.aliases.items))
    (states : List State) (sizes : length states ≡ length links) (held : StatesHold links states)
    (settled : (i : ℕ) (t : State) → slice_get states i ≡ Some t → IsSettled t)
    (roots : List (Option ℕ)) (roots_are : roots ≡ flat_map (granting_row survey.index) (lists p)) (used : List Bool)
    (used_marks : MarksOf (length links) (IsReached links roots) used)
    (judged : AliasMarks) (cyclic_marks : MarksOf (length links) (λ i. Path links i i) judged.cyclic.items)
    (deep : judged.deep.items ≡ map is_deep states) (wide : judged.wide.items ≡ map is_wide states)
    (unused : judged.unused.items ≡ map not used) where
  abbrev ds : List AliasDefinition
  ds = map alias_view survey.aliases.items

  abbrev links_of : Links
  links_of = map (row_of_alias survey.index) ds

  long : length links_of ≡ length ds
  long = length-map ds (row_of_alias survey.index)

  states_long : length states ≡ length ds
  states_long = sizes ∙ ap length links_are ∙ long

  used_of : MarksOf (length links_of) (IsReached links_of (flat_map (granting_row survey.index) (lists p))) used
  used_of = subst (λ (rs : List (Option ℕ)). MarksOf (length links_of) (IsReached links_of rs) used) roots_are
      (subst (λ (g : Links). MarksOf (length g) (IsReached g roots) used) links_are used_marks)

  cyclic_of : MarksOf (length links_of) (λ i. Path links_of i i) judged.cyclic.items
  cyclic_of = subst (λ (g : Links). MarksOf (length g) (λ i. Path g i i) judged.cyclic.items) links_are cyclic_marks

  held_of : StatesHold links_of states
  held_of = subst (λ (g : Links). StatesHold g states) links_are held

  pub judged_is : AreAliasMarks p judged
  judged_is = record {
    cyclic_are = subst (λ (xs : List AliasDefinition). Marks (IsCyclic p) xs judged.cyclic.items) s.aliases_are
        (cyclic_are p ds (names_of_kind survey.index) survey.index.positions.items s.indexed states states_long long
        held_of settled judged.cyclic.items used cyclic_of used_of);
    deep_are = subst (λ (xs : List AliasDefinition). Marks (IsTooDeep p) xs judged.deep.items) s.aliases_are
        (subst (λ (marks : List Bool). Marks (IsTooDeep p) ds marks) (sym deep)
        (deep_are p ds (names_of_kind survey.index) survey.index.positions.items s.indexed states states_long long
        held_of settled judged.cyclic.items used cyclic_of used_of));
    wide_are = subst (λ (xs : List AliasDefinition). Marks (IsTooWide p) xs judged.wide.items) s.aliases_are
        (subst (λ (marks : List Bool). Marks (IsTooWide p) ds marks) (sym wide)
        (wide_are p ds (names_of_kind survey.index) survey.index.positions.items s.indexed states states_long long
        held_of settled judged.cyclic.items used cyclic_of used_of));
    unused_are = subst (λ (xs : List AliasDefinition). Marks (IsUnused p) xs judged.unused.items) s.aliases_are
        (subst (λ (marks : List Bool). Marks (IsUnused p) ds marks) (sym unused)
        (unused_are p ds (names_of_kind survey.index) survey.index.positions.items s.indexed states states_long long
        held_of settled judged.cyclic.items used cyclic_of used_of));
    have_depths = λ none i d at.
        have_depths p ds (names_of_kind survey.index) survey.index.positions.items s.indexed states states_long long
        held_of settled judged.cyclic.items used cyclic_of used_of none i d
        (ap (λ (xs : List AliasDefinition). slice_get xs i) s.aliases_are ∙ at);
  }

-- ---- The list of findings

module _ (p : Policy) (survey : Survey) (s : IsSurvey p (definitions p) survey) where
  -- a name has a number exactly where it has a definition
  missing_name : (kind : Kind) (name : List ℕ) → is_none (index_of (names_of_kind survey.index kind) name) ≡ is_none (in_force kind p name)
  missing_name kind name = by (index_of (names_of_kind survey.index kind) name) refl
    where
      by : (o : Option ℕ) → index_of (names_of_kind survey.index kind) name ≡ o
          → is_none (index_of (names_of_kind survey.index kind) name) ≡ is_none (in_force kind p name)
      by None e =
          ap is_none e ∙ ap (λ (o : Option AliasDefinition). is_none
          (option_map (λ (d : AliasDefinition). d.members) o)) (sym (sym (s.indexed.lookup kind name)
          ∙ ap (option_and_then (slice_get (map alias_view survey.aliases.items))) e))
      by (Some i) e =
          let d = get_within (map alias_view survey.aliases.items) i (s.indexed.inside kind name i e) in
          ap is_none e ∙ ap (λ (o : Option AliasDefinition). is_none
          (option_map (λ (d : AliasDefinition). d.members) o)) (sym (sym (s.indexed.lookup kind name)
          ∙ ap (option_and_then (slice_get (map alias_view survey.aliases.items))) e ∙ d.1))

  missing_is : (l : MemberList) → missing_in survey.index l ≡ undefined_in p l
  missing_is l = go l.members
    where
      finding : List ℕ → Finding
      finding name = record { class = Undefined; place = l.place; kind = l.kind; name = name }

      one : (name : List ℕ) (ns : List (List ℕ)) (b c : Bool) → b ≡ c
          → (if b then finding name ∷ [] else []) ++ map finding
          (filter (λ name. is_none (in_force l.kind p name)) ns) ≡ map finding
          (cond c (name ∷ filter (λ name. is_none (in_force l.kind p name)) ns) (filter (λ name. is_none (in_force l.kind p name)) ns))
      one name ns true true e = refl
      one name ns false false e = refl
      one name ns true false e = cc
      one name ns false true e = cc

      atom : (o : Option (List ℕ)) (ns : List (List ℕ)) → atom_missing survey.index l.kind l.place o ++ map finding
          (filter (λ name. is_none (in_force l.kind p name)) ns) ≡ map finding
          (filter (λ name. is_none (in_force l.kind p name)) (option_to_list o ++ ns))
      atom None ns = refl
      atom (Some name) ns = one name ns (is_none (index_of (names_of_kind survey.index l.kind) name))
          (is_none (in_force l.kind p name)) (missing_name l.kind name)

      go : (ms : List Member) → flat_map (λ (m : Member). atom_missing survey.index l.kind l.place
          (alias_named m.atom)) ms ≡ map finding (filter (λ name. is_none (in_force l.kind p name)) (names_used ms))
      go [] = refl
      go (m ∷ ms) = ap (λ fs. atom_missing survey.index l.kind l.place (alias_named m.atom) ++ fs) (go ms)
          ∙ atom (alias_named m.atom) (names_used ms)

  all_missing : (ls : List MemberList) → flat_map (missing_in survey.index) ls ≡ flat_map (undefined_in p) ls
  all_missing [] = refl
  all_missing (l ∷ ls) = ap (λ fs. fs ++ flat_map (missing_in survey.index) ls) (missing_is l)
      ∙ ap (λ fs. undefined_in p l ++ fs) (all_missing ls)

  pub found_is : (missing : List Finding) (judged : AliasMarks)
      → missing ≡ flat_map (missing_in survey.index) (lists p)
      → found_in missing (map alias_view survey.aliases.items) (map alias_view survey.redefinitions.items) judged
      ≡ found_by p judged.cyclic.items judged.deep.items judged.wide.items judged.unused.items
  found_is missing judged missing_are =
      ap (λ (xs : List AliasDefinition). found_in missing xs (map alias_view survey.redefinitions.items) judged) s.aliases_are
      ∙ ap (λ (rs : List AliasDefinition). found_in missing (aliases p) rs judged) s.repeats_are
      ∙ ap (λ (fs : List Finding). found_in fs (aliases p) (redefinitions [] (definitions p)) judged) (missing_are ∙ all_missing (lists p))

  pub are_findings : (found missing : List Finding) (judged : AliasMarks)
      → missing ≡ flat_map (missing_in survey.index) (lists p) → AreAliasMarks p judged
      → found ≡ found_in missing (map alias_view survey.aliases.items) (map alias_view survey.redefinitions.items)
      judged → AreFindings p found
  are_findings found missing judged missing_are j is = record {
    cyclic = judged.cyclic.items;
    deep = judged.deep.items;
    wide = judged.wide.items;
    unused = judged.unused.items;
    cyclic_are = j.cyclic_are;
    deep_are = j.deep_are;
    wide_are = j.wide_are;
    unused_are = j.unused_are;
    list = is ∙ found_is missing judged missing_are;
  }

  -- a definition in force is that of an alias
  pub among_aliases : (kind : Kind) (name : List ℕ) (ms : List Member) → in_force kind p name ≡ Some ms
      → (i : ℕ) × (d : AliasDefinition) × (slice_get (aliases p) i ≡ Some d) × (d.kind ≡ kind) × (d.members ≡ ms)
  among_aliases kind name ms is = by (index_of (names_of_kind survey.index kind) name) refl
    where
      by : (o : Option ℕ) → index_of (names_of_kind survey.index kind) name ≡ o → (i : ℕ) × (d : AliasDefinition)
          × (slice_get (aliases p) i ≡ Some d) × (d.kind ≡ kind) × (d.members ≡ ms)
      by None e =
          let none : in_force kind p name ≡ None = ap (option_map (λ (d : AliasDefinition). d.members))
          (sym (s.indexed.lookup kind name) ∙ ap (option_and_then (slice_get (map alias_view survey.aliases.items))) e) in
          absurd (let both : None ≡ Some ms = sym none ∙ is in cc)
      by (Some i) e =
          let d = get_within (map alias_view survey.aliases.items) i (s.indexed.inside kind name i e) in
          let found : find (defines kind name) (definitions p) ≡ Some d.0 = sym (s.indexed.lookup kind name)
          ∙ ap (option_and_then (slice_get (map alias_view survey.aliases.items))) e ∙ d.1 in
          let same = defines-same kind name d.0 (find-holds (defines kind name) (definitions p) d.0 found) in
          let both : Some d.0.members ≡ Some ms = sym (ap (option_map (λ (d : AliasDefinition). d.members)) found) ∙ is in (
            i,
            d.0,
            sym (ap (λ (xs : List AliasDefinition). slice_get xs i) s.aliases_are)
                ∙ d.1,
            sym same.0,
            (let e : d.0.members ≡ ms = cc in e),
          )

  -- where no finding is an error, every list resolves
  pub sound_is : (found missing : List Finding) (judged : AliasMarks)
      → missing ≡ flat_map (missing_in survey.index) (lists p) → AreAliasMarks p judged
      → found ≡ found_in missing (map alias_view survey.aliases.items) (map alias_view survey.redefinitions.items)
      judged → has_error found ≡ false → IsSound p
  unfolding are_findings
  sound_is found missing judged missing_are j is none =
      sound_from p found (are_findings found missing judged missing_are j is) none j.have_depths among_aliases
