-- In a policy that passes the check each definition is in force.
use Rattle.std.proofs.Common.{◌≡◌, Bool, true, false, cond, List, [], ◌∷◌, ◌++◌, map, refl, sym, ◌∙◌, ap}
use Rattle.std.specs.List.{list_any}
use Rattle.std.proofs.lemmas.Bool.{false≢true}
use Rattle.sudo_policy.specs.declared.finding.Finding.{Finding}
use Rattle.sudo_policy.specs.declared.finding.Class.TheVariants.{Redefined}
use Rattle.sudo_policy.specs.Definitions.{AliasDefinition, definitions, definitions_in_force, redefinitions, is_defined_in}
use Rattle.sudo_policy.specs.Found.{finding_on, has_error, is_error}
use Rattle.review_subjects.specs.Laws.{DefinitionsAreInForce}

none_redefined : (earlier ds : List AliasDefinition) → redefinitions earlier ds ≡ [] → definitions_in_force earlier ds ≡ ds
none_redefined earlier [] h = refl
none_redefined earlier (d ∷ ds) h = go (is_defined_in earlier d) h (none_redefined (earlier ++ d ∷ []) ds)
  where
    go : (b : Bool) → cond b (d ∷ redefinitions (earlier ++ d ∷ []) ds) (redefinitions (earlier ++ d ∷ []) ds) ≡ []
        → (redefinitions (earlier ++ d ∷ []) ds ≡ [] → definitions_in_force (earlier ++ d ∷ []) ds ≡ ds)
        → cond b (definitions_in_force (earlier ++ d ∷ []) ds) (d ∷ definitions_in_force (earlier ++ d ∷ []) ds) ≡ d ∷ ds
    go true e rest = cc
    go false e rest = ap (λ (xs : List AliasDefinition). d ∷ xs) (rest e)

-- findings that begin with redefinitions have no error only if there are none
no_redefinition : (ds : List AliasDefinition) (more : List Finding)
    → list_any (λ (f : Finding). is_error f.class) (map (finding_on Redefined) ds ++ more) ≡ false → ds ≡ []
no_redefinition [] more h = refl
no_redefinition (d ∷ ds) more h = absurd (false≢true (sym h))

pub all_in_force : DefinitionsAreInForce
all_in_force p passes =
    none_redefined [] (definitions p)
    (no_redefinition (redefinitions [] (definitions p)) _ (sym (ap has_error passes.are.list) ∙ passes.none))
