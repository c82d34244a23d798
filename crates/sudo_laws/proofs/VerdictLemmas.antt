-- The verdict by the last grant that applies, and that of a policy with one more rule.
use Rattle.std.proofs.Common.{◌≡◌, ℕ, zero, suc, Bool, true, false, ◌&&◌, List, [], ◌∷◌, ◌++◌, map}
use Rattle.std.proofs.Common.{Option, Some, None, Result, Ok, Err, refl, ◌∙◌, ap, flat_map, find, option_map, option_and_then}
use Rattle.std.specs.Prelude.{is_some, unwrap_or}
use Rattle.std.specs.Option.{option_or}
use Rattle.std.specs.List.{enumerate_from}
use Rattle.std.specs.Prelude.{not}
use Rattle.std.proofs.Math.Path.{fun_ext}
use Rattle.std.proofs.lemmas.List.{append-nil}
use Rattle.std.proofs.lemmas.List.Concat.{flat_map-append}
use Rattle.sudo_grammar.specs.declared.kind.Atom.{Atom}
use Rattle.sudo_grammar.specs.declared.kind.Kind.{Kind}
use Rattle.sudo_grammar.specs.declared.kind.Kind.TheVariants as kind
use Rattle.sudo_grammar.specs.declared.kind.Member.{Member}
use Rattle.sudo_grammar.specs.declared.policy.Entry.{Entry}
use Rattle.sudo_grammar.specs.declared.policy.EntryBody.{EntryBody}
use Rattle.sudo_grammar.specs.declared.policy.EntryBody.TheVariants.{Rule}
use Rattle.sudo_grammar.specs.declared.policy.Policy.{Policy}
use Rattle.sudo_grammar.specs.declared.policy.CommandSpec.{CommandSpec}
use Rattle.sudo_grammar.specs.declared.policy.Runas.{Runas}
use Rattle.sudo_grammar.specs.declared.policy.Section.{Section}
use Rattle.sudo_text.specs.declared.line.Place.{Place}
use Rattle.sudo_laws.proofs.LastLemmas.{last_that-none, last_that-there}
use Rattle.sudo_laws.proofs.TestLemmas.{Each}
use Rattle.sudo_laws.specs.Longer.{AddsRule}
use Rattle.sudo_match.specs.KnownRows.{KnownRows}
use Rattle.sudo_match.specs.Matching.{command_fits, group_fits, host_fits, user_fits}
use Rattle.sudo_match.specs.declared.people.Group.{Group}
use Rattle.sudo_match.specs.declared.people.Person.{Person}
use Rattle.sudo_match.specs.declared.request.Request.{Request}
use Rattle.sudo_match.specs.declared.request.Verdict.TheVariants.{NoMatch}
use Rattle.sudo_match.specs.declared.request.What.{What}
use Rattle.sudo_policy.specs.Definitions.{AliasDefinition, defines, definitions, definitions_of, definitions_of_body, in_force}
use Rattle.sudo_policy.specs.Definitions.{alias_named}
use Rattle.sudo_policy.specs.Following.{Reading, definition_of_member, list_reading, member_reading, option_join, reading_within}
use Rattle.sudo_policy.specs.Written.{written_form, writing}
use Rattle.sudo_verdict.proofs.Lasts.{last_that-append}
use Rattle.sudo_verdict.specs.Grants.{Grant, applies, body_grants, entry_grants, grant_of, grants, place_grants, section_grants}
use Rattle.sudo_verdict.specs.Last.{last_that}
use Rattle.sudo_verdict.specs.Questions.{Question, question_of}
use Rattle.sudo_verdict.specs.RunasForms.{form_allows, group_allowed, has_asked, has_group, is_same_user, runas_allows, target_value}
use Rattle.sudo_verdict.specs.RunasForms.{is_own, users_allow, users_and_groups_allow}
use Rattle.sudo_verdict.specs.Values.{allows, host_listed, user_listed, value}
use Rattle.sudo_verdict.specs.Verdicts.{verdict_by, verdict_if_any, verdict_if_known, verdict_of, verdict_on}

-- ---- The last grant

pub verdict_on-there : (p : Policy) (q : Question) (before after : List Grant) (g : Grant) → grants p ≡ before ++ g ∷ after
    → applies p q g ≡ true → Each (applies p q) false after → verdict_on p q ≡ verdict_by g
unfolding verdict_on
verdict_on-there p q before after g is here none =
    ap (λ gs. verdict_if_any (last_that (applies p q) gs)) is
    ∙ ap verdict_if_any (last_that-there (applies p q) before after g here none)

pub verdict_on-none : (p : Policy) (q : Question) → Each (applies p q) false (grants p) → verdict_on p q ≡ NoMatch
unfolding verdict_on
verdict_on-none p q none = ap verdict_if_any (last_that-none (applies p q) (grants p) none)

-- the verdict on a request whose names are known
pub verdict_of-known : (p : Policy) (d : KnownRows) (r : Request) (q : Question) → question_of d r ≡ Ok q
    → verdict_of p d r ≡ verdict_on p q
unfolding verdict_of
verdict_of-known p d r q known = ap (verdict_if_known p) known

-- ---- Two policies with the same definitions in force

module _ (p longer : Policy) (same : (kind : Kind) (name : List ℕ) → in_force kind longer name ≡ in_force kind p name) where
  defined_same : (kind : Kind) (m : Member) → definition_of_member kind longer m ≡ definition_of_member kind p m
  defined_same kind m = by (alias_named m.atom)
    where
      by : (o : Option (List ℕ)) → option_and_then (in_force kind longer) o ≡ option_and_then (in_force kind p) o
      by None = refl
      by (Some name) = same kind name

  module _ {R : Type 0} (g : Reading R) (kind : Kind) where
    list_same : (inner other : List Member → Option R) → ((ms : List Member) → inner ms ≡ other ms) → (ms : List Member)
        → list_reading g kind longer inner ms ≡ list_reading g kind p other ms
    list_same inner other agree [] = refl
    list_same inner other agree (m ∷ ms) =
        ap (λ d. option_join g.join (member_reading g inner m d) (list_reading g kind longer inner ms)) (defined_same kind m)
        ∙ ap (λ o. option_join g.join o (list_reading g kind longer inner ms)) (member (definition_of_member kind p m))
        ∙ ap (option_join g.join (member_reading g other m (definition_of_member kind p m))) (list_same inner other agree ms)
      where
        member : (d : Option (List Member)) → member_reading g inner m d ≡ member_reading g other m d
        member None = refl
        member (Some ds) = ap (option_map (g.through m)) (agree ds)

    reading_same : (n : ℕ) (ms : List Member) → reading_within g kind longer n ms ≡ reading_within g kind p n ms
    unfolding reading_within
    reading_same zero ms = list_same (λ _. None) (λ _. None) (λ ds. refl) ms
    reading_same (suc n) ms = list_same (reading_within g kind longer n) (reading_within g kind p n) (reading_same n) ms

  written_same : (kind : Kind) (ms : List Member) → written_form kind longer ms ≡ written_form kind p ms
  unfolding written_form
  written_same kind ms =
      ap (λ f. flat_map f ms) (fun_ext (λ m. ap (λ o. unwrap_or o []) (reading_same writing kind 64 (m ∷ []))))

  value_same : (kind : Kind) (ms : List Member) (test : Atom → Bool) → value kind longer ms test ≡ value kind p ms test
  unfolding value
  value_same kind ms test = ap (λ ws. option_map (λ s. not s.negated) (last_that (λ s. test s.atom) ws)) (written_same kind ms)

  group_same : (ms : List Member) (u : Person) (g : Option Group) → group_allowed longer ms u g ≡ group_allowed p ms u g
  group_same ms u None = refl
  group_same ms u (Some g) = ap (λ v. unwrap_or v (has_group u g)) (value_same kind.Runas ms (λ a. group_fits a g))

  users_same : (q : Question) (us : List Member) (t : Option Person) → users_allow longer q us t ≡ users_allow p q us t
  users_same q us None = refl
  users_same q us (Some t) = ap (λ v. allows v && has_asked t q.group) (value_same kind.Runas us (λ a. user_fits a t))

  both_same : (q : Question) (us gs : List Member) (t : Option Person)
      → users_and_groups_allow longer q us gs t ≡ users_and_groups_allow p q us gs t
  both_same q us gs None = refl
  both_same q us gs (Some t) =
      ap (λ v. unwrap_or v (is_some q.group && is_same_user t q.user) && group_allowed longer gs t q.group)
      (value_same kind.Runas us (λ a. user_fits a t))
      ∙ ap (λ b. unwrap_or (target_value p us t) (is_some q.group && is_same_user t q.user) && b) (group_same gs t q.group)

  form_same : (q : Question) (us gs : Option (List Member)) → form_allows longer q us gs ≡ form_allows p q us gs
  unfolding form_allows
  form_same q (Some us) (Some gs) = both_same q us gs q.target
  form_same q (Some us) None = users_same q us q.target
  form_same q None (Some gs) = ap (λ b. is_own q.user q.asked && b) (group_same gs q.user q.group)
  form_same q None None = refl

  runas_same : (q : Question) (r : Option Runas) → runas_allows longer q r ≡ runas_allows p q r
  unfolding runas_allows
  runas_same q None = refl
  runas_same q (Some r) = form_same q r.users r.groups

  applies_same : (q : Question) (g : Grant) → applies longer q g ≡ applies p q g
  unfolding applies
  applies_same q g =
      let users : user_listed longer g.users q ≡ user_listed p g.users q =
      ap allows (value_same kind.User g.users (λ a. user_fits a q.user)) in
      let hosts : host_listed longer g.hosts q ≡ host_listed p g.hosts q =
      ap allows (value_same kind.Host g.hosts (λ a. host_fits a q.host)) in
      let atom : Bool = command_fits g.atom q.command q.arguments in
      ap (λ b. ((b && host_listed longer g.hosts q) && runas_allows longer q g.runas) && atom) users
      ∙ ap (λ b. ((user_listed p g.users q && b) && runas_allows longer q g.runas) && atom) hosts
      ∙ ap (λ b. ((user_listed p g.users q && host_listed p g.hosts q) && b) && atom) (runas_same q g.runas)

  place_same : (place : Place) (users : List Member) (s : Section) (at : ℕ × CommandSpec)
      → place_grants longer place users s at ≡ place_grants p place users s at
  unfolding place_grants
  place_same place users s (i, c) = ap (map (grant_of place users s i)) (written_same kind.Cmnd (c.command ∷ []))

  section_same : (place : Place) (users : List Member) (s : Section)
      → section_grants longer place users s ≡ section_grants p place users s
  unfolding section_grants
  section_same place users s = ap (λ f. flat_map f (enumerate_from 0 s.commands)) (fun_ext (place_same place users s))

  body_same : (place : Place) (body : EntryBody) → body_grants longer place body ≡ body_grants p place body
  body_same place (Rule users sections) = ap (λ f. flat_map f sections) (fun_ext (section_same place users))
  body_same place _ = refl

  entry_same : (e : Entry) → entry_grants longer e ≡ entry_grants p e
  entry_same e = body_same e.place e.body

-- ---- One more rule

module _ (p : Policy) (rule : Entry) (longer : Policy) (adds : AddsRule p rule longer) where
  -- a rule defines nothing
  none_defined : definitions_of rule ≡ []
  none_defined = ap (definitions_of_body rule.place) adds.is_rule

  definitions_same : definitions longer ≡ definitions p
  definitions_same =
      ap (flat_map definitions_of) adds.entries
      ∙ flat_map-append definitions_of p.entries (rule ∷ [])
      ∙ ap (λ ds. definitions p ++ (ds ++ [])) none_defined
      ∙ append-nil (definitions p)

  in_force_same : (kind : Kind) (name : List ℕ) → in_force kind longer name ≡ in_force kind p name
  in_force_same kind name =
      ap (λ ds. option_map (λ (d : AliasDefinition). d.members) (find (defines kind name) ds)) definitions_same

  grants_both : grants longer ≡ grants p ++ entry_grants longer rule
  unfolding grants
  grants_both =
      ap (flat_map (entry_grants longer)) adds.entries
      ∙ flat_map-append (entry_grants longer) p.entries (rule ∷ [])
      ∙ ap (λ f. flat_map f p.entries ++ flat_map (entry_grants longer) (rule ∷ [])) (fun_ext (entry_same p longer in_force_same))
      ∙ ap (λ gs. flat_map (entry_grants p) p.entries ++ gs) (append-nil (entry_grants longer rule))

  last_both : (q : Question) → last_that (applies longer q) (grants longer) ≡ option_or
      (last_that (applies longer q) (entry_grants longer rule)) (last_that (applies longer q) (grants p))
  last_both q =
      ap (last_that (applies longer q)) grants_both ∙ last_that-append (applies longer q) (grants p) (entry_grants longer rule)

  pub rule_there : (q : Question) (before after : List Grant) (g : Grant) → entry_grants longer rule ≡ before ++ g ∷ after
      → applies longer q g ≡ true → Each (applies longer q) false after → verdict_on longer q ≡ verdict_by g
  unfolding verdict_on
  rule_there q before after g is here none =
      ap verdict_if_any (last_both q)
      ∙ ap (λ gs. verdict_if_any (option_or (last_that (applies longer q) gs) (last_that (applies longer q) (grants p)))) is
      ∙ ap (λ o. verdict_if_any (option_or o (last_that (applies longer q) (grants p))))
      (last_that-there (applies longer q) before after g here none)

  pub rule_elsewhere : (q : Question) → Each (applies longer q) false (entry_grants longer rule)
      → verdict_on longer q ≡ verdict_on p q
  unfolding verdict_on
  rule_elsewhere q none =
      ap verdict_if_any (last_both q)
      ∙ ap (λ o. verdict_if_any (option_or o (last_that (applies longer q) (grants p))))
      (last_that-none (applies longer q) (entry_grants longer rule) none)
      ∙ ap (λ f. verdict_if_any (last_that f (grants p))) (fun_ext (applies_same p longer in_force_same q))

  pub rule_unasked : (d : KnownRows) (r : Request)
      → ((q : Question) → question_of d r ≡ Ok q → Each (applies longer q) false (entry_grants longer rule))
      → verdict_of longer d r ≡ verdict_of p d r
  unfolding verdict_of
  rule_unasked d r none = by (question_of d r) none
    where
      by : (asked : Result Question What)
          → ((q : Question) → asked ≡ Ok q → Each (applies longer q) false (entry_grants longer rule))
          → verdict_if_known longer asked ≡ verdict_if_known p asked
      by (Err what) none = refl
      by (Ok q) none = rule_elsewhere q (none q refl)
