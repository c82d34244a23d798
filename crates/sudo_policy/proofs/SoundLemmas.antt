-- Laws of policies whose lists all resolve.
use Rattle.std.proofs.Common.{◌≡◌, ℕ, Bool, true, false, cond, ◌&&◌, List, [], ◌∷◌, ◌++◌, Option, Some, None, Bor}
use Rattle.std.proofs.Common.{refl, sym, ◌∙◌, ap, subst, inl, inr}
use Rattle.std.specs.Prelude.{option_map, option_copied, find, flat_map, IfSome, IsTrue, Contains}
use Rattle.std.specs.List.{list_all}
use Rattle.std.proofs.lemmas.Bool.{and_parts, and_from}
use Rattle.sudo_grammar.specs.declared.kind.Kind.{Kind}
use Rattle.sudo_grammar.specs.declared.kind.Kind.TheVariants.{User, Runas, Host, Cmnd}
use Rattle.sudo_grammar.specs.declared.kind.Member.{Member}
use Rattle.sudo_grammar.specs.declared.policy.CommandSpec.{CommandSpec}
use Rattle.sudo_grammar.specs.declared.policy.Definition.{Definition}
use Rattle.sudo_grammar.specs.declared.policy.Entry.{Entry}
use Rattle.sudo_grammar.specs.declared.policy.EntryBody.{EntryBody}
use Rattle.sudo_grammar.specs.declared.policy.EntryBody.TheVariants.{Aliases, Defaults, Rule, Include}
use Rattle.sudo_grammar.specs.declared.policy.Policy.{Policy}
use Rattle.sudo_grammar.specs.declared.policy.Runas.{Runas as RunasPart}
use Rattle.sudo_grammar.specs.declared.policy.Section.{Section}
use Rattle.sudo_text.specs.declared.line.Place.{Place}
use Rattle.sudo_policy.specs.Definitions.{AliasDefinition, MemberList, definitions, definitions_of}
use Rattle.sudo_policy.specs.Definitions.{definitions_of_body, definitions_of_list, defines, in_force, lists}
use Rattle.sudo_policy.specs.Definitions.{lists_of, lists_of_body, lists_of_list, option_lists, runas_lists}
use Rattle.sudo_policy.specs.Definitions.{command_lists, section_lists}
use Rattle.sudo_policy.specs.Resolving.{resolves, IsSound, AreWritten, list_resolves, runas_resolves}
use Rattle.sudo_policy.specs.Body.Resolving.{command_resolves, section_resolves, rule_resolves}
use Rattle.std.proofs.lemmas.List.Elements.{Contains-append_cases}
use Rattle.sudo_base.proofs.Lists.{find-holds}
use Rattle.sudo_policy.proofs.Laws.{is_written}
use Rattle.sudo_policy.proofs.MarkingLemmas.{none_in, one_in}
use Rattle.sudo_policy.proofs.SurveyLemmas.{defines-same}

abbrev pub holds : Policy → MemberList → Bool
holds p l = resolves l.kind p l.members

pub all_append : {X : Type 0} (f : X → Bool) (xs ys : List X) → list_all f (xs ++ ys) ≡ (list_all f xs && list_all f ys)
all_append f [] ys = refl
all_append f (x ∷ xs) ys = by (f x) (all_append f xs ys)
  where
    by : (b : Bool) → list_all f (xs ++ ys) ≡ (list_all f xs && list_all f ys)
        → (b && list_all f (xs ++ ys)) ≡ ((b && list_all f xs) && list_all f ys)
    by true h = h
    by false h = refl

all_flat : {X Y : Type 0} (f : Y → Bool) (g : X → List Y) (xs : List X) → list_all f (flat_map g xs) ≡ list_all (λ x. list_all f (g x)) xs
all_flat f g [] = refl
all_flat f g (x ∷ xs) = all_append f (g x) (flat_map g xs) ∙ ap (λ b. list_all f (g x) && b) (all_flat f g xs)

-- the lists of each entry resolve
pub entries-resolve : (p : Policy) → IsSound p → list_all (λ (e : Entry). list_all (holds p) (lists_of e)) p.entries ≡ true
unfolding IsSound
entries-resolve p sound = sym (all_flat (holds p) lists_of p.entries) ∙ sound

found_holds : {X : Type 0} (f test : X → Bool) (xs : List X) (x : X) → list_all f xs ≡ true → find test xs ≡ Some x → f x ≡ true
found_holds f test [] x h is = cc
found_holds f test (y ∷ ys) x h is = let k = and_parts (f y) (list_all f ys) h in by (test y) k.0 (λ e. found_holds f test ys x k.1 e) is
  where
    by : (b : Bool) → (f y ≡ true) → (find test ys ≡ Some x → f x ≡ true) → cond b (Some y) (find test ys) ≡ Some x → f x ≡ true
    by true here rest e = let same : y ≡ x = cc in subst (λ z. f z ≡ true) same here
    by false here rest e = rest e

-- ---- What holds of all lists holds of the definition in force of each name

module _ (p : Policy) (test : Kind → List Member → Bool) where
  definitions_pass : (kind : Kind) (place : Place) (ds : List Definition)
      → list_all (λ (l : MemberList). test l.kind l.members) (lists_of_list kind place ds) ≡ list_all
      (λ (d : AliasDefinition). test d.kind d.members) (definitions_of_list kind place ds)
  definitions_pass kind place [] = refl
  definitions_pass kind place (d ∷ ds) = ap (λ b. test kind d.members && b) (definitions_pass kind place ds)

  body_passes : (place : Place) (body : EntryBody) → list_all (λ (l : MemberList). test l.kind l.members)
      (lists_of_body place body) ≡ true → list_all (λ (d : AliasDefinition). test d.kind d.members) (definitions_of_body place body) ≡ true
  body_passes place (Aliases kind ds) h = sym (definitions_pass kind place ds) ∙ h
  body_passes place (Defaults binding parameters) h = refl
  body_passes place (Rule users sections) h = refl
  body_passes place (Include folder hash path) h = refl

  all_definitions : (es : List Entry) → list_all (λ (l : MemberList). test l.kind l.members) (flat_map lists_of es)
      ≡ true → list_all (λ (d : AliasDefinition). test d.kind d.members) (flat_map definitions_of es) ≡ true
  all_definitions [] h = refl
  all_definitions (e ∷ es) h =
      let k = and_parts _ _ (sym (all_append (λ (l : MemberList). test l.kind l.members) (lists_of e) (flat_map lists_of es)) ∙ h) in
      all_append (λ (d : AliasDefinition). test d.kind d.members) (definitions_of e) (flat_map definitions_of es)
      ∙ and_from _ _ (body_passes e.place e.body k.0) (all_definitions es k.1)

  pub in_force_passes : (kind : Kind) (name : List ℕ) (ms : List Member)
      → list_all (λ (l : MemberList). test l.kind l.members) (lists p) ≡ true → in_force kind p name ≡ Some ms → test kind ms ≡ true
  in_force_passes kind name ms all is = by (find (defines kind name) (definitions p)) refl is
    where
      by : (o : Option AliasDefinition) → find (defines kind name) (definitions p) ≡ o
          → option_map (λ (d : AliasDefinition). d.members) o ≡ Some ms → test kind ms ≡ true
      by None e h = cc
      by (Some d) e h =
          let holds_d = found_holds (λ (d : AliasDefinition). test d.kind d.members) (defines kind name)
          (definitions p) d (all_definitions p.entries all) e in
          let same = defines-same kind name d (find-holds (defines kind name) (definitions p) d e) in
          let members : d.members ≡ ms = cc in
          subst (λ (k : Kind). test k ms ≡ true) (sym same.0) (subst (λ (xs : List Member). test d.kind xs ≡ true) members holds_d)

-- the definition in force of a name resolves
pub in_force-resolves : (kind : Kind) (p : Policy) (name : List ℕ) (ms : List Member) → IsSound p
    → in_force kind p name ≡ Some ms → resolves kind p ms ≡ true
unfolding IsSound
in_force-resolves kind p name ms sound is = in_force_passes p (λ k xs. resolves k p xs) kind name ms sound is

pub found_resolves : (kind : Kind) (p : Policy) (name : List ℕ) (o : Option (Bor (List Member))) → IsSound p
    → option_copied o ≡ in_force kind p name → IfSome o (λ members. IsTrue (resolves kind p members.now))
found_resolves kind p name None sound is = tt
found_resolves kind p name (Some members) sound is = in_force-resolves kind p name members.now sound (sym is)

-- ---- The lists of a rule

option_holds : (p : Policy) (place : Place) (o : Option (List Member))
    → list_all (holds p) (option_lists Runas place o) ≡ true → list_resolves p o ≡ true
option_holds p place None h = refl
option_holds p place (Some members) h = (and_parts (resolves Runas p members) true h).0

runas_allows : (p : Policy) (place : Place) (o : Option RunasPart) → list_all (holds p) (runas_lists place o) ≡ true
    → runas_resolves p o ≡ true
runas_allows p place None h = refl
runas_allows p place (Some part) h =
    let k = and_parts _ _ (sym (all_append (holds p) (option_lists Runas place part.users) (option_lists Runas place part.groups)) ∙ h) in
    and_from _ _ (option_holds p place part.users k.0) (option_holds p place part.groups k.1)

command_holds : (p : Policy) (place : Place) (spec : CommandSpec)
    → list_all (holds p) (command_lists place spec) ≡ true → command_resolves p spec ≡ true
command_holds p place spec h =
    let k = and_parts (list_all (holds p) (runas_lists place spec.runas)) _
    (sym (all_append (holds p) (runas_lists place spec.runas) _) ∙ h) in
    and_from _ _ (and_parts (resolves Cmnd p (spec.command ∷ [])) true k.1).0 (runas_allows p place spec.runas k.0)

pub all_weaker : {X : Type 0} (f g : X → Bool) → ((x : X) → f x ≡ true → g x ≡ true) → (xs : List X)
    → list_all f xs ≡ true → list_all g xs ≡ true
all_weaker f g w [] h = refl
all_weaker f g w (x ∷ xs) h = let k = and_parts (f x) (list_all f xs) h in
    and_from (g x) (list_all g xs) (w x k.0) (all_weaker f g w xs k.1)

section-holds : (p : Policy) (place : Place) (section : Section)
    → list_all (holds p) (section_lists place section) ≡ true → section_resolves p section ≡ true
section-holds p place section h =
    let k = and_parts (resolves Host p section.hosts) _ h in
    and_from _ _ k.0 (all_weaker (λ c. list_all (holds p) (command_lists place c)) (command_resolves p)
    (command_holds p place) section.commands (sym (all_flat (holds p) (command_lists place) section.commands) ∙ k.1))

-- the lists of a rule resolve, part by part
pub rule_holds : (p : Policy) (place : Place) (users : List Member) (sections : List Section)
    → list_all (holds p) (lists_of_body place (Rule users sections)) ≡ true → rule_resolves p users sections ≡ true
rule_holds p place users sections h =
    let k = and_parts (resolves User p users) _ h in
    and_from _ _ k.0 (all_weaker (λ s. list_all (holds p) (section_lists place s)) (section_resolves p)
    (section-holds p place) sections (sym (all_flat (holds p) (section_lists place) sections) ∙ k.1))

-- ---- Written forms

all_at : {X : Type 0} (f : X → Bool) (xs : List X) (x : X) → list_all f xs ≡ true → Contains xs x → f x ≡ true
all_at f [] x h among = absurd (none_in x among)
all_at f (y ∷ ys) x h among =
    let k = and_parts (f y) (list_all f ys) h in
    elim (Contains-append_cases (y ∷ []) ys x among) [
      | inl first ↦ subst (λ z. f z ≡ true) (one_in y x first) k.0
      | inr rest ↦ all_at f ys x k.1 rest
    ]

-- each list of the policy resolves
pub list_holds : (p : Policy) (l : MemberList) → IsSound p → Contains (lists p) l → resolves l.kind p l.members ≡ true
unfolding IsSound
list_holds p l sound among = all_at (holds p) (lists p) l sound among

pub are_written : (p : Policy) → IsSound p → AreWritten p
are_written p sound l among = is_written l.kind p l.members (list_holds p l sound among)
