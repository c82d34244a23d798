use Rattle.std.proofs.Common.{◌≡◌, ◌++◌, [], ◌∷◌, List, None, true, false, map, ℕ, length, sym, ◌∙◌, ap, subst}
use Rattle.std.proofs.lemmas.List.{map_push}
use Rattle.sudo_policy.specs.declared.index.Position.{Position}
use Rattle.sudo_policy.specs.Definitions.{AliasDefinition, is_defined_in}
use Rattle.sudo_policy.specs.Body.Positions.{names_of_kind}
use Rattle.sudo_base.specs.NameIndices.{index_of}
use Rattle.sudo_policy.specs.Body.DefinitionRef.{alias_view, IsIndexed}
use Rattle.sudo_policy.proofs.SurveyLemmas.{known-from, unknown_from, definitions_in_force-known}
use Rattle.sudo_policy.proofs.SurveyLemmas.{definitions_in_force-new, redefinitions-known, redefinitions-new}
use Rattle.sudo_policy.proofs.SurveyLemmas.{IsIndexed-known, IsIndexed-new}
use Rattle.sudo_policy.proofs.survey.Survey.add.Goals as goal

pub returns-in_ok-push-in-Some : goal.returns-in_ok-push-in-Some
returns-in_ok-push-in-Some c = record {
  kept = λ p done placed s.
      (let d = alias_view c.args.definition in
      let old = c.args.self.now in
      let known : is_defined_in done d ≡ true = known-from p done (map alias_view old.aliases.items)
      (names_of_kind old.index) old.index.positions.items s.indexed d.kind d.name c.in-Some.field-0
      (sym c.number.ensures ∙ c.in-Some.is) in
      record {
        aliases_are = s.aliases_are ∙ sym (definitions_in_force-known done d known);
        repeats_are = ap (map alias_view) c.in_ok-push-in-Some.ensures.items
            ∙ map_push alias_view old.redefinitions.items c.args.definition ∙ ap (λ es. es ++ d ∷ []) s.repeats_are
            ∙ sym (redefinitions-known done d known);
        indexed = IsIndexed-known p done (map alias_view old.aliases.items) (names_of_kind old.index)
            old.index.positions.items d known s.indexed;
      });
}

pub returns-in_ok-push-in-None : goal.returns-in_ok-push-in-None
returns-in_ok-push-in-None c = record {
  kept = λ p done placed s.
      (let d = alias_view c.args.definition in
      let old = c.args.self.now in
      let absent : index_of (names_of_kind old.index d.kind) d.name ≡ None = sym c.number.ensures ∙ c.in-None.is in
      let new : is_defined_in done d ≡ false = unknown_from p done (map alias_view old.aliases.items)
      (names_of_kind old.index) old.index.positions.items s.indexed d.kind d.name absent in
      let pushed : map alias_view c.push-in-None.new.self.items ≡ map alias_view old.aliases.items ++ d ∷ [] =
      ap (map alias_view) c.in_ok-push-in-None.ensures.items ∙ map_push alias_view old.aliases.items c.args.definition in
      let grown : names_of_kind c.insert.new.self d.kind ≡ names_of_kind old.index d.kind
      ++ (d.name, length (map alias_view old.aliases.items)) ∷ [] =
      c.in_ok-insert-in-None.ensures.names ∙ ap (λ (n : ℕ). names_of_kind old.index d.kind ++ (d.name, n) ∷ []) s.indexed.same_length in
      let indexed = IsIndexed-new p done (map alias_view old.aliases.items) (names_of_kind old.index)
      (names_of_kind c.insert.new.self) old.index.positions.items d c.args.definition.position s.indexed absent
      grown c.in_ok-insert-in-None.ensures.others placed in
      record {
        aliases_are = pushed ∙ ap (λ es. es ++ d ∷ []) s.aliases_are ∙ sym (definitions_in_force-new done d new);
        repeats_are = s.repeats_are ∙ sym (redefinitions-new done d new);
        indexed =
            subst (λ (positions : List Position). IsIndexed p (done ++ d ∷ [])
            (map alias_view c.push-in-None.new.self.items) (names_of_kind c.insert.new.self) positions)
            (sym c.in_ok-insert-in-None.ensures.positions)
            (subst (λ (aliases : List AliasDefinition). IsIndexed p (done ++ d ∷ []) aliases
            (names_of_kind c.insert.new.self) (old.index.positions.items ++ c.args.definition.position ∷ [])) (sym pushed) indexed);
      });
}
