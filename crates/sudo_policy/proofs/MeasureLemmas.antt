-- The measures of the graph are those of the policy.
use Rattle.std.proofs.Common.{◌≡◌, ℕ, zero, suc, List, [], ◌∷◌, Option, None, Some, map, refl, sym, ◌∙◌, ap, subst}
use Rattle.std.specs.Prelude.{slice_get, find, option_map, option_and_then}
use Rattle.std.proofs.lemmas.Option.{slice_get-map}
use Rattle.sudo_grammar.specs.declared.kind.Kind.{Kind}
use Rattle.sudo_policy.specs.declared.graph.Measure.{Measure}
use Rattle.sudo_policy.specs.declared.index.Position.{Position}
use Rattle.sudo_grammar.specs.declared.kind.Member.{Member}
use Rattle.sudo_grammar.specs.declared.policy.Policy.{Policy}
use Rattle.sudo_policy.specs.Definitions.{AliasDefinition, defines, definitions, in_force, alias_named}
use Rattle.sudo_policy.specs.Following.{option_join, member_reading, list_reading, reading_within, definition_of_member}
use Rattle.sudo_policy.specs.Body.Graph.{Links, measure_of_both, deeper, list_measure, link_measure, row_measure, measure_within}
use Rattle.sudo_policy.specs.Body.DefinitionRef.{IsIndexed, link_among}
use Rattle.sudo_base.specs.NameIndices.{index_of}
use Rattle.sudo_base.proofs.Lists.{find-holds}
use Rattle.sudo_policy.proofs.StateLemmas.{get_within}
use Rattle.sudo_policy.proofs.SurveyLemmas.{defines-same}

module _ (p : Policy) (aliases : List AliasDefinition) (names : Kind → List (List ℕ × ℕ)) (positions : List Position)
    (x : IsIndexed p (definitions p) aliases names positions) where
  -- the row of links of an alias
  abbrev row : Kind → List Member → List (Option ℕ)
  row kind ms = map (link_among (names kind)) ms

  abbrev row_of_defined : AliasDefinition → List (Option ℕ)
  row_of_defined d = row d.kind d.members

  abbrev graph : Links
  graph = map row_of_defined aliases

  -- the definition of a member is that of the alias that it links to
  definition_linked : (kind : Kind) (m : Member)
      → definition_of_member kind p m ≡ option_map (λ (d : AliasDefinition). d.members)
      (option_and_then (slice_get aliases) (link_among (names kind) m))
  definition_linked kind m = by (alias_named m.atom)
    where
      by : (o : Option (List ℕ)) → option_and_then (in_force kind p) o ≡ option_map
          (λ (d : AliasDefinition). d.members)
          (option_and_then (slice_get aliases) (option_and_then (λ name. index_of (names kind) name) o))
      by None = refl
      by (Some name) = ap (option_map (λ (d : AliasDefinition). d.members)) (sym (x.lookup kind name))

  -- a link leads to an alias of the list's kind
  pub linked : (kind : Kind) (m : Member) (j : ℕ) → link_among (names kind) m ≡ Some j
      → (d : AliasDefinition) × (slice_get aliases j ≡ Some d) × (d.kind ≡ kind) × (definition_of_member kind p m ≡ Some d.members)
  linked kind m j is = by (alias_named m.atom) refl is
    where
      by : (o : Option (List ℕ)) → alias_named m.atom ≡ o
          → option_and_then (λ name. index_of (names kind) name) o ≡ Some j
          → (d : AliasDefinition) × (slice_get aliases j ≡ Some d) × (d.kind ≡ kind) × (definition_of_member kind p m ≡ Some d.members)
      by None e h = cc
      by (Some name) e h =
          let a = get_within aliases j (x.inside kind name j h) in
          let found : find (defines kind name) (definitions p) ≡ Some a.0 = sym (x.lookup kind name)
          ∙ ap (option_and_then (slice_get aliases)) h ∙ a.1 in
          let same = defines-same kind name a.0 (find-holds (defines kind name) (definitions p) a.0 found) in
          (a.0, a.1, sym same.0, ap (option_and_then (in_force kind p)) e ∙ ap (option_map (λ (d : AliasDefinition). d.members)) found)

  -- a member without a link has no definition
  pub unlinked : (kind : Kind) (m : Member) → link_among (names kind) m ≡ None → definition_of_member kind p m ≡ None
  unlinked kind m is = definition_linked kind m
      ∙ ap (λ o. option_map (λ (d : AliasDefinition). d.members) (option_and_then (slice_get aliases) o)) is

  -- a list comes to what its row comes to, where each definition comes to what its alias does
  list_row : (kind : Kind) (inner : List Member → Option Measure) (up : ℕ → Option Measure)
      → ((j : ℕ) (d : AliasDefinition) → slice_get aliases j ≡ Some d → d.kind ≡ kind → inner d.members ≡ up j)
      → (ms : List Member) → list_reading list_measure kind p inner ms ≡ row_measure up (row kind ms)
  list_row kind inner up agree [] = refl
  list_row kind inner up agree (m ∷ ms) =
      ap (λ o. option_join measure_of_both o (list_reading list_measure kind p inner ms)) (by (link_among (names kind) m) refl)
      ∙ ap (λ o. option_join measure_of_both (link_measure up (link_among (names kind) m)) o) (list_row kind inner up agree ms)
    where
      by : (l : Option ℕ) → link_among (names kind) m ≡ l
          → member_reading list_measure inner m (definition_of_member kind p m) ≡ link_measure up (link_among (names kind) m)
      by None e = ap (member_reading list_measure inner m) (unlinked kind m e) ∙ ap (link_measure up) (sym e)
      by (Some j) e =
          let d = linked kind m j e in
          ap (member_reading list_measure inner m) d.3 ∙ ap (option_map deeper) (agree j d.0 d.1 d.2) ∙ ap (link_measure up) (sym e)

  graph_at : (j : ℕ) (d : AliasDefinition) → slice_get aliases j ≡ Some d → slice_get graph j ≡ Some (row_of_defined d)
  graph_at j d at = slice_get-map row_of_defined aliases j ∙ ap (option_map row_of_defined) at

  -- a definition comes to the measure of its alias
  pub measure_is : (n : ℕ) (j : ℕ) (d : AliasDefinition) → slice_get aliases j ≡ Some d
      → reading_within list_measure d.kind p n d.members ≡ measure_within graph n j
  unfolding reading_within measure_within
  measure_is zero j d at = list_row d.kind (λ _. None) (λ _. None) (λ i e at_i same. refl) d.members
      ∙ ap (option_and_then (row_measure (λ _. None))) (sym (graph_at j d at))
  measure_is (suc n) j d at =
      list_row d.kind (reading_within list_measure d.kind p n) (measure_within graph n)
      (λ i e at_i same. subst (λ (k : Kind). reading_within list_measure k p n e.members ≡ measure_within graph n i)
      same (measure_is n i e at_i)) d.members
      ∙ ap (option_and_then (row_measure (measure_within graph n))) (sym (graph_at j d at))
