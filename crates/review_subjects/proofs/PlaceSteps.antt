-- Places of commands and of verdicts, counted.
use Rattle.std.proofs.Common.{◌≡◌, ℕ, ◌+◌, Bool, true, false, cond, ◌&&◌, if◌then◌else◌, List, [], ◌∷◌, ◌++◌, refl, sym, ◌∙◌, ap, arith}
use Rattle.std.specs.Prelude.{flat_map, count_by, not}
use Rattle.std.specs.List.{enumerate_from}
use Rattle.std.proofs.lemmas.List.Sums.{sum_by-cons, sum_by-append}
use Rattle.std.proofs.lemmas.Grind.{flat_map-append}
use Rattle.std.proofs.lemmas.List.Folds.{flat_map-map}
use Rattle.sudo_text.specs.declared.line.Place.{Place}
use Rattle.sudo_grammar.specs.declared.kind.Kind.TheVariants as kinds
use Rattle.sudo_grammar.specs.declared.kind.Member.{Member}
use Rattle.sudo_grammar.specs.declared.policy.CommandSpec.{CommandSpec}
use Rattle.sudo_grammar.specs.declared.policy.Section.{Section}
use Rattle.sudo_grammar.specs.declared.policy.Entry.{Entry}
use Rattle.sudo_grammar.specs.declared.policy.EntryBody.{EntryBody}
use Rattle.sudo_grammar.specs.declared.policy.EntryBody.TheVariants.{Aliases, Defaults, Rule, Include}
use Rattle.sudo_grammar.specs.declared.policy.Policy.{Policy}
use Rattle.sudo_match.specs.declared.request.Verdict.{Verdict}
use Rattle.sudo_match.specs.declared.request.Verdict.TheVariants.{Allow, Deny, NoMatch, Unknown}
use Rattle.sudo_policy.specs.Written.{written_form}
use Rattle.sudo_verdict.specs.Grants.{Grant, grants, grant_of, place_grants, section_grants, body_grants, entry_grants}
use Rattle.review_grants.specs.Depends.{is_note_grant, same_place}
use Rattle.review_subjects.specs.declared.rules.RuleCount.{RuleCount}
use Rattle.review_subjects.specs.Counts.{allows_at, command_at, denies_at}
use Rattle.review_subjects.specs.Body.Places.{command_places, section_places, body_places, granted_places}
use Rattle.review_subjects.specs.Body.Places.{allowed_place, denied_place}

-- ---- A count goes through lists of at most one

count_one : {X : Type 0} (f : X → Bool) (x : X) → count_by f (x ∷ []) ≡ cond (f x) 1 0
count_one f x = let z : cond (f x) 1 0 + 0 ≡ cond (f x) 1 0 = omega arith in sum_by-cons (λ y. cond (f y) 1 0) x [] ∙ z

count_flat : {X Y : Type 0} (f : Y → Bool) (g : X → List Y) (h : X → Bool)
    → ((x : X) → count_by f (g x) ≡ cond (h x) 1 0) → (xs : List X) → count_by f (flat_map g xs) ≡ count_by h xs
count_flat f g h one [] = refl
count_flat f g h one (x ∷ xs) =
    sum_by-append (λ y. cond (f y) 1 0) (g x) (flat_map g xs)
    ∙ ap (λ n. n + count_by f (flat_map g xs)) (one x)
    ∙ ap (λ n. cond (h x) 1 0 + n) (count_flat f g h one xs)
    ∙ sym (sum_by-cons (λ y. cond (h y) 1 0) x xs)

pub allowed_counts : (q : Place) (vs : List Verdict) → count_by (same_place q) (flat_map allowed_place vs) ≡ count_by (allows_at q) vs
allowed_counts q vs = count_flat (same_place q) allowed_place (allows_at q) one vs
  where
    one : (v : Verdict) → count_by (same_place q) (allowed_place v) ≡ cond (allows_at q v) 1 0
    one (Allow at tags) = count_one (same_place q) at
    one (Deny at) = refl
    one NoMatch = refl
    one (Unknown what) = refl

pub denied_counts : (q : Place) (vs : List Verdict) → count_by (same_place q) (flat_map denied_place vs) ≡ count_by (denies_at q) vs
denied_counts q vs = count_flat (same_place q) denied_place (denies_at q) one vs
  where
    one : (v : Verdict) → count_by (same_place q) (denied_place v) ≡ cond (denies_at q v) 1 0
    one (Allow at tags) = refl
    one (Deny at) = count_one (same_place q) at
    one NoMatch = refl
    one (Unknown what) = refl

-- ---- The places of grants but the notes

-- the place of a grant, unless it stands for a note
abbrev grant_place : Grant → List Place
grant_place g = if is_note_grant g then [] else g.place ∷ []

flat_flat : {X Y Z : Type 0} (g : Y → List Z) (f : X → List Y) (h : X → List Z)
    → ((x : X) → flat_map g (f x) ≡ h x) → (xs : List X) → flat_map g (flat_map f xs) ≡ flat_map h xs
flat_flat g f h one [] = refl
flat_flat g f h one (x ∷ xs) =
    flat_map-append g (f x) (flat_map f xs)
    ∙ ap (λ (ys : List _). ys ++ flat_map g (flat_map f xs)) (one x)
    ∙ ap (λ (ys : List _). h x ++ ys) (flat_flat g f h one xs)

of_commands : (p : Policy) (place : Place) (users : List Member) (s : Section) (i : ℕ) (cs : List CommandSpec)
    → flat_map grant_place (flat_map (place_grants p place users s) (enumerate_from i cs)) ≡ flat_map (command_places p place) cs
unfolding place_grants
of_commands p place users s i [] = refl
of_commands p place users s i (c ∷ cs) =
    let rest : List Grant = flat_map (place_grants p place users s) (enumerate_from (i + 1) cs) in
    flat_map-append grant_place (place_grants p place users s (i, c)) rest
    ∙ ap (λ (ps : List Place). ps ++ flat_map grant_place rest)
    (flat_map-map grant_place (grant_of place users s i) (written_form kinds.Cmnd p (c.command ∷ [])))
    ∙ ap (λ (ps : List Place). command_places p place c ++ ps) (of_commands p place users s (i + 1) cs)

of_section : (p : Policy) (place : Place) (users : List Member) (s : Section)
    → flat_map grant_place (section_grants p place users s) ≡ section_places p place s
unfolding section_grants
of_section p place users s = of_commands p place users s 0 s.commands

of_body : (p : Policy) (place : Place) (body : EntryBody)
    → flat_map grant_place (body_grants p place body) ≡ body_places p place body
of_body p place (Aliases kind definitions) = refl
of_body p place (Defaults binding parameters) = refl
of_body p place (Rule users sections) =
    flat_flat grant_place (section_grants p place users) (section_places p place) (of_section p place users) sections
of_body p place (Include folder hash path) = refl

grants_places : (p : Policy) → flat_map grant_place (grants p) ≡ granted_places p p.entries
unfolding grants
grants_places p =
    flat_flat grant_place (entry_grants p) (λ (e : Entry). body_places p e.place e.body)
    (λ (e : Entry). of_body p e.place e.body) p.entries

of_grant : (q place : Place) (note : Bool)
    → count_by (same_place q) (if note then [] else place ∷ []) ≡ cond (same_place q place && not note) 1 0
of_grant q place true = none (same_place q place)
  where
    none : (b : Bool) → ◌≡◌ {A = ℕ} 0 (cond (b && false) 1 0)
    none true = refl
    none false = refl
of_grant q place false = count_one (same_place q) place ∙ own (same_place q place)
  where
    own : (b : Bool) → ◌≡◌ {A = ℕ} (cond b 1 0) (cond (b && true) 1 0)
    own true = refl
    own false = refl

pub granted_counts : (p : Policy) (q : Place)
    → count_by (same_place q) (granted_places p p.entries) ≡ count_by (command_at q) (grants p)
granted_counts p q =
    ap (count_by (same_place q)) (sym (grants_places p))
    ∙ count_flat (same_place q) grant_place (command_at q) (λ g. of_grant q g.place (is_note_grant g)) (grants p)

-- ---- Rows

pub row_is : (q : Place) (a b c d e f : ℕ) → a ≡ d → b ≡ e → c ≡ f
    → (let x : RuleCount = record { place = q; commands = a; allowed = b; denied = c } in x)
    ≡ (let x : RuleCount = record { place = q; commands = d; allowed = e; denied = f } in x)
row_is q a b c d e f i j k = cc
