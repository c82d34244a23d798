-- What the members of a list decide.
use Rattle.std.proofs.Common.{◌≡◌, ℕ, ◌+◌, ◌%◌, ◌==◌, Bool, true, false, not, cond, if◌then◌else◌, List, [], ◌∷◌}
use Rattle.std.proofs.Common.{◌++◌, map, Option, Some, None, refl, sym, ◌∙◌, ap, inl, inr, Contains, arith}
use Rattle.std.proofs.Common.{option_map, option_and_then}
use Rattle.std.specs.Prelude.{unwrap_or}
use Rattle.std.specs.Option.{option_or}
use Rattle.std.proofs.lemmas.Bool.{cases_Bool, eq-eqb, eqb-false, eqb-true, ne_eqb}
use Rattle.std.proofs.lemmas.List.{append-nil}
use Rattle.sudo_base.proofs.Options.{option_map-map}
use Rattle.sudo_grammar.specs.declared.kind.Atom.{Atom}
use Rattle.sudo_grammar.specs.declared.kind.Atom.TheVariants as atoms
use Rattle.sudo_grammar.specs.declared.kind.Kind.{Kind}
use Rattle.sudo_grammar.specs.declared.kind.Member.{Member}
use Rattle.sudo_grammar.specs.declared.kind.Signed.{Signed}
use Rattle.sudo_grammar.specs.declared.policy.Policy.{Policy}
use Rattle.sudo_laws.proofs.AliasLemmas.{alias_is_written}
use Rattle.sudo_laws.proofs.TestLemmas.{Each, each_first, each_rest}
use Rattle.sudo_policy.proofs.Laws.{alone_stands, negated_never, negated_twice, written_append, written_none}
use Rattle.sudo_policy.specs.Definitions.{MemberList, alias_named, in_force, lists}
use Rattle.sudo_policy.specs.Following.{definition_of_member, member_reading, option_join, reading_within}
use Rattle.sudo_policy.specs.Resolving.{IsSound}
use Rattle.sudo_policy.specs.Written.{alone_written, is_negated, negated_if, writing, written_form}
use Rattle.sudo_verdict.proofs.Lasts.{last_that-append, last_that-map, option_map_or}
use Rattle.sudo_verdict.specs.Last.{last_that}
use Rattle.sudo_verdict.specs.Values.{value}

-- ---- What members decide

module _ (kind : Kind) (p : Policy) (test : Atom → Bool) where
  abbrev decides : List Member → Option Bool
  decides ms = value kind p ms test

  abbrev sign : List Signed → Option Bool
  sign ws = option_map (λ s. not s.negated) (last_that (λ s. test s.atom) ws)

  decides_both : (xs ys : List Member) → decides (xs ++ ys) ≡ option_or (decides ys) (decides xs)
  unfolding value
  decides_both xs ys =
      ap sign (written_append kind p xs ys)
      ∙ ap (option_map (λ s. not s.negated)) (last_that-append (λ s. test s.atom) (written_form kind p xs) (written_form kind p ys))
      ∙ option_map_or (λ s. not s.negated) _ _

  pub none_decides : (ms : List Member) → Each (λ m. value kind p (m ∷ []) test) None ms → value kind p ms test ≡ None
  unfolding value
  none_decides [] none = ap sign (written_none kind p)
  none_decides (m ∷ ms) none =
      decides_both (m ∷ []) ms
      ∙ ap (λ o. option_or o (decides (m ∷ []))) (none_decides ms (each_rest (λ n. decides (n ∷ [])) None m ms none))
      ∙ each_first (λ n. decides (n ∷ [])) None m ms none

  pub last_decides : (before after : List Member) (m : Member) (decision : Bool) → value kind p (m ∷ []) test ≡ Some decision
      → Each (λ n. value kind p (n ∷ []) test) None after → value kind p (before ++ m ∷ after) test ≡ Some decision
  last_decides before after m decision here none =
      decides_both before (m ∷ after)
      ∙ ap (λ o. option_or o (decides before)) (decides_both (m ∷ []) after)
      ∙ ap (λ o. option_or (option_or o (decides (m ∷ []))) (decides before)) (none_decides after none)
      ∙ ap (λ o. option_or o (decides before)) here

  pub atom_decides : (m : Member) → alias_named m.atom ≡ None
      → value kind p (m ∷ []) test ≡ (if test m.atom then Some (not (is_negated m)) else None)
  unfolding value
  atom_decides m alone = ap sign (alone_stands kind p m alone) ∙ by (test m.atom)
    where
      by : (b : Bool) → option_map (λ (s : Signed). not s.negated) (cond b (Some (record { negated = is_negated m; atom = m.atom })) None)
          ≡ (if b then Some (not (is_negated m)) else None)
      by true = refl
      by false = refl

  -- signs that are turned decide the opposite
  pub turned_decides : (ws : List Signed) → sign (map (negated_if true) ws) ≡ option_map not (sign ws)
  turned_decides ws =
      ap (option_map (λ s. not s.negated)) (last_that-map true (λ s. test s.atom) (λ s. test s.atom) (negated_if true) (λ s. refl) ws)
      ∙ option_map-map (λ s. not s.negated) (negated_if true) (last_that (λ s. test s.atom) ws)
      ∙ sym (option_map-map not (λ s. not s.negated) (last_that (λ s. test s.atom) ws))

-- ---- A further `!`

next_parity : (n : ℕ) → ((n + 1) % 2 == 1) ≡ not (n % 2 == 1)
next_parity n = elim (cases_Bool (n % 2 == 1)) [
  | inl odd ↦
      (let is : n % 2 ≡ 1 = eqb-true (n % 2) 1 odd in
      ne_eqb ((n + 1) % 2) 1 (λ other. omega (arith, is, other)) ∙ ap not (sym odd))
  | inr even ↦
      eq-eqb ((n + 1) % 2) 1 (omega (arith, eqb-false (n % 2) 1 even)) ∙ ap not (sym even)
]

module _ (kind : Kind) (p : Policy) (m marked : Member) (same : marked.atom ≡ m.atom) (more : marked.bangs ≡ m.bangs + 1) where
  sign_turned : is_negated marked ≡ not (is_negated m)
  sign_turned = ap (λ n. n % 2 == 1) more ∙ next_parity m.bangs

  abbrev turned : Option (List Signed) → Option (List Signed)
  turned o = option_map (map (negated_if true)) o

  alone_turned : (o : Option (List ℕ)) → alone_written marked o ≡ turned (alone_written m o)
  alone_turned None =
      ap (λ b. Some (record { negated = b; atom = marked.atom } ∷ [])) sign_turned
      ∙ ap (λ a. Some (record { negated = not (is_negated m); atom = a } ∷ [])) same
  alone_turned (Some name) = refl

  member_turned : (inner : List Member → Option (List Signed)) (d : Option (List Member))
      → member_reading writing inner marked d ≡ turned (member_reading writing inner m d)
  member_turned inner None = ap (alone_written marked) (ap alias_named same) ∙ alone_turned (alias_named m.atom)
  member_turned inner (Some ds) = by (inner ds)
    where
      by : (o : Option (List Signed)) → option_map (map (negated_if (is_negated marked))) o ≡ turned
          (option_map (map (negated_if (is_negated m))) o)
      by None = refl
      by (Some ws) =
          ap (λ b. Some (map (negated_if b) ws)) sign_turned ∙ ap Some (sym (negated_twice true (is_negated m) ws))

  joined_turned : (o : Option (List Signed)) → unwrap_or (option_join ◌++◌ (turned o) (Some [])) [] ++ []
      ≡ map (negated_if true) (unwrap_or (option_join ◌++◌ o (Some [])) [] ++ [])
  joined_turned None = refl
  joined_turned (Some ws) =
      append-nil (map (negated_if true) ws ++ []) ∙ append-nil (map (negated_if true) ws)
      ∙ ap (map (negated_if true)) (sym (append-nil (ws ++ []) ∙ append-nil ws))

  written_turned : written_form kind p (marked ∷ []) ≡ map (negated_if true) (written_form kind p (m ∷ []))
  unfolding written_form reading_within
  written_turned =
      let inner : List Member → Option (List Signed) = reading_within writing kind p 63 in
      ap (λ o. unwrap_or (option_join ◌++◌ o (Some [])) [] ++ [])
      (ap (λ a. member_reading writing inner marked (option_and_then (in_force kind p) (alias_named a))) same
      ∙ member_turned inner (definition_of_member kind p m))
      ∙ joined_turned (member_reading writing inner m (definition_of_member kind p m))

  pub mark_turns : (test : Atom → Bool) → value kind p (marked ∷ []) test ≡ option_map not (value kind p (m ∷ []) test)
  unfolding value
  mark_turns test =
      ap (λ ws. option_map (λ (s : Signed). not s.negated) (last_that (λ s. test s.atom) ws)) written_turned
      ∙ turned_decides kind p test (written_form kind p (m ∷ []))

pub alias_decides : (p : Policy) → IsSound p → (l : MemberList) (m : Member) (name : List ℕ) (ds : List Member) (test : Atom → Bool)
    → Contains (lists p) l → Contains l.members m → m.atom ≡ atoms.Alias name → in_force l.kind p name ≡ Some ds
    → value l.kind p (m ∷ []) test
    ≡ (if is_negated m then option_map not (value l.kind p ds test) else value l.kind p ds test)
unfolding value
alias_decides p sound l m name ds test among member is found =
    ap (λ ws. option_map (λ (s : Signed). not s.negated) (last_that (λ s. test s.atom) ws))
    (alias_is_written p sound l m name ds among member is found)
    ∙ by (is_negated m)
  where
    by : (b : Bool) → sign l.kind p test (map (negated_if b) (written_form l.kind p ds))
        ≡ (if b then option_map not (sign l.kind p test (written_form l.kind p ds))
        else sign l.kind p test (written_form l.kind p ds))
    by true = turned_decides l.kind p test (written_form l.kind p ds)
    by false = ap (sign l.kind p test) (negated_never (written_form l.kind p ds))
