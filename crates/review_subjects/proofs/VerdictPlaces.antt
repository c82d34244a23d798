-- A verdict that allows or denies has the place of a rule.
use Rattle.std.proofs.Common.{◌≡◌, ℕ, Bool, true, false, cond, ◌||◌, List, [], ◌∷◌, ◌++◌, map, Option, Some, None, Result, Ok, Err}
use Rattle.std.proofs.Common.{refl, ◌∙◌, ap}
use Rattle.std.specs.Prelude.{flat_map}
use Rattle.std.specs.Option.{option_or}
use Rattle.std.specs.List.{enumerate_from, list_any, list_all}
use Rattle.std.proofs.lemmas.List.Folds.{list_any-append, list_all-append}
use Rattle.std.proofs.lemmas.Bool.{and_from, and_parts}
use Rattle.sudo_text.specs.declared.line.Place.{Place}
use Rattle.sudo_grammar.specs.declared.kind.Member.{Member}
use Rattle.sudo_grammar.specs.declared.policy.Entry.{Entry}
use Rattle.sudo_grammar.specs.declared.policy.EntryBody.{EntryBody}
use Rattle.sudo_grammar.specs.declared.policy.EntryBody.TheVariants.{Aliases, Defaults, Rule, Include}
use Rattle.sudo_grammar.specs.declared.policy.Policy.{Policy}
use Rattle.sudo_match.specs.declared.request.What.{What}
use Rattle.sudo_verdict.specs.Last.{last_that}
use Rattle.sudo_verdict.specs.Grants.{Grant, applies, body_grants, entry_grants, grant_of, grants, place_grants, section_grants}
use Rattle.sudo_verdict.specs.Questions.{Question, question_of}
use Rattle.sudo_verdict.specs.Values.{is_all}
use Rattle.sudo_verdict.specs.Verdicts.{verdict_by, verdict_if_any, verdict_on, verdict_if_known, verdict_of, decided_by}
use Rattle.review_grants.specs.Depends.{same_place}
use Rattle.review_subjects.specs.Counts.{rule_place, rule_places, is_of_rule}
use Rattle.review_subjects.specs.Laws.{VerdictsAreOfRules}
use Rattle.sudo_grammar.specs.declared.kind.Kind.TheVariants as kinds
use Rattle.sudo_grammar.specs.declared.policy.CommandSpec.{CommandSpec}
use Rattle.sudo_grammar.specs.declared.policy.Section.{Section}
use Rattle.sudo_policy.specs.Written.{written_form}
use Rattle.sudo_policy.proofs.SoundLemmas.{all_weaker}
use Rattle.review_subjects.proofs.EqualPlaces.{place_same}

-- each place of the list is that of some rule
among : List Place → Place → Bool
among rules place = list_any (same_place place) rules

-- ---- Lists of grants that all have one place

abbrev has_place : (Place → Bool) → Grant → Bool
has_place f g = f g.place

all_map : {X : Type 0} (f : Grant → Bool) (g : X → Grant) (xs : List X) → ((x : X) → f (g x) ≡ true) → list_all f (map g xs) ≡ true
all_map f g [] h = refl
all_map f g (x ∷ xs) h = and_from (f (g x)) (list_all f (map g xs)) (h x) (all_map f g xs h)

all_flat : {X : Type 0} (f : Grant → Bool) (g : X → List Grant) (xs : List X) → ((x : X) → list_all f (g x) ≡ true)
    → list_all f (flat_map g xs) ≡ true
all_flat f g [] h = refl
all_flat f g (x ∷ xs) h =
    list_all-append f (g x) (flat_map g xs) ∙ and_from (list_all f (g x)) (list_all f (flat_map g xs)) (h x) (all_flat f g xs h)

of_command : (p : Policy) (f : Place → Bool) (place : Place) (users : List Member) (s : Section) → f place ≡ true
    → (at : ℕ × CommandSpec) → list_all (has_place f) (place_grants p place users s at) ≡ true
unfolding place_grants
of_command p f place users s h (i, c) =
    all_map (has_place f) (grant_of place users s i) (written_form kinds.Cmnd p (c.command ∷ [])) (λ w. h)

of_section : (p : Policy) (f : Place → Bool) (place : Place) (users : List Member) (s : Section) → f place ≡ true
    → list_all (has_place f) (section_grants p place users s) ≡ true
unfolding section_grants
of_section p f place users s h =
    all_flat (has_place f) (place_grants p place users s) (enumerate_from 0 s.commands) (of_command p f place users s h)

of_body : (p : Policy) (f : Place → Bool) (place : Place) (body : EntryBody)
    → ((users : List Member) (sections : List Section) → body ≡ Rule users sections → f place ≡ true)
    → list_all (has_place f) (body_grants p place body) ≡ true
of_body p f place (Aliases kind definitions) h = refl
of_body p f place (Defaults binding parameters) h = refl
of_body p f place (Rule users sections) h =
    all_flat (has_place f) (section_grants p place users) sections (λ s. of_section p f place users s (h users sections refl))
of_body p f place (Include folder hash path) h = refl

or_true : (b : Bool) → (b || true) ≡ true
or_true true = refl
or_true false = refl

-- a place of the second list is one of both
later : (rules more : List Place) (x : Place) → among more x ≡ true → among (rules ++ more) x ≡ true
unfolding among
later rules more x h =
    list_any-append (same_place x) rules more ∙ ap (λ b. list_any (same_place x) rules || b) h ∙ or_true (list_any (same_place x) rules)

first : (place : Place) (more : List Place) → among (place ∷ more) place ≡ true
unfolding among
first place more = ap (λ b. b || list_any (same_place place) more) (place_same place)

entries_among : (p : Policy) (es : List Entry)
    → list_all (has_place (among (flat_map (λ (e : Entry). rule_place e.place e.body) es))) (flat_map (entry_grants p) es) ≡ true
entries_among p [] = refl
entries_among p (e ∷ es) =
    let more = flat_map (λ (x : Entry). rule_place x.place x.body) es in
    let rules = rule_place e.place e.body ++ more in
    let grants_of = flat_map (entry_grants p) es in
    let here : list_all (has_place (among rules)) (entry_grants p e) ≡ true =
    of_body p (among rules) e.place e.body (λ users sections is.
    ap (λ (b : EntryBody). among (rule_place e.place b ++ more) e.place) is ∙ first e.place more) in
    let rest : list_all (has_place (among rules)) grants_of ≡ true =
    all_weaker (has_place (among more)) (has_place (among rules))
    (λ (g : Grant). later (rule_place e.place e.body) more g.place) grants_of (entries_among p es) in
    list_all-append (has_place (among rules)) (entry_grants p e) grants_of
    ∙ and_from (list_all (has_place (among rules)) (entry_grants p e)) (list_all (has_place (among rules)) grants_of) here rest

grants_among : (p : Policy) → list_all (has_place (among (rule_places p))) (grants p) ≡ true
unfolding grants
grants_among p = entries_among p p.entries

-- ---- The grant that decides

by_grant : (rules : List Place) (g : Grant) → among rules g.place ≡ true → is_of_rule rules (verdict_by g) ≡ true
unfolding among
by_grant rules g h = go g.negated
  where
    go : (b : Bool) → is_of_rule rules (decided_by g.place g.tags b (is_all g.atom)) ≡ true
    go true = h
    go false = h

last_among : (rules : List Place) (t : Grant → Bool) (gs : List Grant) → list_all (has_place (among rules)) gs ≡ true
    → is_of_rule rules (verdict_if_any (last_that t gs)) ≡ true
last_among rules t [] h = refl
last_among rules t (g ∷ gs) h =
    let parts = and_parts (among rules g.place) (list_all (has_place (among rules)) gs) h in
    go (last_that t gs) (t g) parts.0 (last_among rules t gs parts.1)
  where
    go : (o : Option Grant) (b : Bool) → among rules g.place ≡ true → is_of_rule rules (verdict_if_any o) ≡ true
        → is_of_rule rules (verdict_if_any (option_or o (cond b (Some g) None))) ≡ true
    go (Some x) b here rest = rest
    go None true here rest = by_grant rules g here
    go None false here rest = refl

on_question : (p : Policy) (o : Result Question What) → is_of_rule (rule_places p) (verdict_if_known p o) ≡ true
unfolding verdict_on
on_question p (Err what) = refl
on_question p (Ok q) = last_among (rule_places p) (applies p q) (grants p) (grants_among p)

pub verdicts_of_rules : VerdictsAreOfRules
unfolding verdict_of
verdicts_of_rules p d r = on_question p (question_of d r)
