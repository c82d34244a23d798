-- Walks stay below the folder.
use Rattle.std.proofs.Common.{◌≡◌, ℕ, zero, suc, ◌+◌, ◌-◌, ◌<◌, ◌≤◌, Bool, true, false, List, [], ◌∷◌, ◌++◌, length, take}
use Rattle.std.proofs.Common.{refl, sym, ap, subst, arith, length-append}
use Rattle.std.specs.Prelude.{◌==◌, ⊤, nat_lt, if◌then◌else◌, All, MatchBool}
use Rattle.std.proofs.lemmas.List.{take-append-le, take_all, length-take-le}
use Rattle.std.proofs.lemmas.List.Elements.{All-append, All-cons, All-nil, All-take}
use Rattle.std.proofs.lemmas.Bool.{ltb-true, ltb-false}
use Rattle.run_base.specs.declared.obstacle.Obstacle.TheVariants as obstacles
use Rattle.review_files.specs.declared.tree.Entry.{Entry}
use Rattle.review_files.specs.declared.tree.Entry.TheVariants as entries
use Rattle.review_files.specs.declared.tree.Kind.{Kind}
use Rattle.review_files.specs.declared.tree.Kind.TheVariants as kinds
use Rattle.review_files.specs.declared.walk.Outcome.{Outcome}
use Rattle.review_files.specs.declared.walk.Outcome.TheVariants as outcomes
use Rattle.review_files.specs.declared.walk.Step.{Step}
use Rattle.review_files.specs.declared.walk.Step.TheVariants as steps
use Rattle.review_files.specs.declared.walk.Walk.{Walk}
use Rattle.review_files.specs.Laws.{HaveNoLink, IsNoLink, PathsStayBelow}
use Rattle.review_files.specs.Paths.{first_name, has_slash, is_absolute, is_parent, is_plain, is_same, path_below}
use Rattle.review_files.specs.Resolving.{Ends, IsStep, IsNameStep, IsLookStep, Leads, Resolves, beginning, entry_step, further}
use Rattle.review_files.specs.Resolving.{kind_step, most_bytes, most_links, most_steps, names_next, step_up}
use Rattle.review_files.proofs.PlainNames.{first_name-plain}

-- names of entries alone, and none of them a link
abbrev AreBelow : (List ℕ → Entry → Type 0) → List ℕ → List (List ℕ) → Type 0
AreBelow shows folder names = All (λ name. is_plain name ≡ true) names × HaveNoLink shows folder names

abbrev EndsBelow : (List ℕ → Entry → Type 0) → List ℕ → Outcome → Type 0
EndsBelow shows folder (outcomes.At names kind) = AreBelow shows folder names
EndsBelow shows folder outcomes.Missing = ⊤
EndsBelow shows folder (outcomes.Stopped why) = ⊤

abbrev StaysBelow : (List ℕ → Entry → Type 0) → List ℕ → Step → Type 0
StaysBelow shows folder (steps.On walk) = AreBelow shows folder walk.names
StaysBelow shows folder (steps.End outcome) = EndsBelow shows folder outcome

-- the cases of a test
by_test : {R : Type 0} (P Q : Type 0) (b : Bool) → MatchBool b P Q → (b ≡ true → P → R) → (b ≡ false → Q → R) → R
by_test P Q true h yes_ no_ = yes_ refl h
by_test P Q false h yes_ no_ = no_ refl h

none_below : (shows : List ℕ → Entry → Type 0) (folder : List ℕ) → AreBelow shows folder []
none_below shows folder = (All-nil (λ name. is_plain name ≡ true), λ k less. absurd (omega (arith, less)))

-- the front of a front
take-take : {A : Type 0} (k count : ℕ) (names : List A) → k ≤ count → take k (take count names) ≡ take k names
take-take zero count names small = refl
take-take (suc k) zero names small = absurd (omega (arith, small))
take-take (suc k) (suc count) [] small = refl
take-take (suc k) (suc count) (name ∷ names) small = ap (λ xs. name ∷ xs) (take-take k count names (omega (arith, small)))

-- the front of names that are below the folder
front_below : (shows : List ℕ → Entry → Type 0) (folder : List ℕ) (names : List (List ℕ)) (count : ℕ) → count ≤ length names
    → AreBelow shows folder names → AreBelow shows folder (take count names)
front_below shows folder names count fits below = (
  All-take (λ name. is_plain name ≡ true) count names below.0,
  λ k less.
      let is : length (take count names) ≡ count = length-take-le count names fits in
      let small : k + 1 ≤ count = omega (arith, less, is) in
      let P : List (List ℕ) → Type 0 = λ xs. (entry : Entry) × shows (path_below folder xs) entry × IsNoLink entry in
      subst P (sym (take-take (k + 1) count names small)) (below.1 k (omega (arith, small, fits))),
)

-- names that are below the folder, and one more
next_below : (shows : List ℕ → Entry → Type 0) (folder : List ℕ) (names : List (List ℕ)) (name : List ℕ) (kind : Kind)
    → AreBelow shows folder names → is_plain name ≡ true → shows (path_below folder (names ++ name ∷ [])) (entries.Is kind)
    → AreBelow shows folder (names ++ name ∷ [])
next_below shows folder names name kind below plain shown = (
  All-append (λ name. is_plain name ≡ true) names (name ∷ []) below.0
      (All-cons (λ name. is_plain name ≡ true) name [] plain (All-nil (λ name. is_plain name ≡ true))),
  λ k less. cases k less (nat_lt k (length names)) refl,
)
  where
    P : List (List ℕ) → Type 0
    P xs = (entry : Entry) × shows (path_below folder xs) entry × IsNoLink entry

    cases : (k : ℕ) → k < length (names ++ name ∷ []) → (t : Bool) → nat_lt k (length names) ≡ t → P (take (k + 1) (names ++ name ∷ []))
    cases k less true e =
        let small : k < length names = ltb-true k (length names) e in
        subst P (sym (take-append-le (k + 1) names (name ∷ []) (omega (arith, small)))) (below.1 k small)
    cases k less false e =
        let big : length names ≤ k = ltb-false k (length names) e in
        let count : length (names ++ name ∷ []) ≡ length names + 1 = length-append names (name ∷ []) in
        subst P (sym (take_all (k + 1) (names ++ name ∷ []) (omega (arith, big, count)))) (entries.Is kind, shown, (kind, refl))

-- one of two values
either : {A : Type 0} (P : A → Type 0) (t : Bool) (a b : A) → P a → P b → P (if t then a else b)
either P true a b p q = p
either P false a b p q = q

up_below : (shows : List ℕ → Entry → Type 0) (folder : List ℕ) (walk : Walk) → AreBelow shows folder walk.names
    → StaysBelow shows folder (step_up folder walk)
up_below shows folder walk below =
    either (StaysBelow shows folder) (length walk.names == 0) _ _ tt
    (front_below shows folder walk.names (length walk.names - 1) (omega arith) below)

kind_below : (shows : List ℕ → Entry → Type 0) (folder : List ℕ) (walk : Walk) (kind : Kind)
    → AreBelow shows folder (names_next walk) → StaysBelow shows folder (kind_step walk kind)
kind_below shows folder walk kinds.Folder below = below
kind_below shows folder walk kinds.File below = either (StaysBelow shows folder) (has_slash walk.left) _ _ tt below
kind_below shows folder walk kinds.Other below = either (StaysBelow shows folder) (has_slash walk.left) _ _ tt below

entry_below : (shows : List ℕ → Entry → Type 0) (folder : List ℕ) (walk : Walk) (entry : Entry)
    → AreBelow shows folder walk.names → is_plain (first_name walk.left) ≡ true
    → shows (path_below folder (names_next walk)) entry → StaysBelow shows folder (entry_step walk entry)
entry_below shows folder walk entries.Absent below plain shown = tt
entry_below shows folder walk (entries.Link target) below plain shown =
    either (StaysBelow shows folder) (nat_lt walk.links most_links) _ _
    (either (AreBelow shows folder) (is_absolute target) [] walk.names (none_below shows folder) below) tt
entry_below shows folder walk (entries.Is kind) below plain shown =
    kind_below shows folder walk kind (next_below shows folder walk.names (first_name walk.left) kind below plain shown)
entry_below shows folder walk (entries.Unseen why) below plain shown = tt

name_below : (shows : List ℕ → Entry → Type 0) (folder : List ℕ) (walk : Walk) (step : Step)
    → AreBelow shows folder walk.names → IsNameStep shows folder walk step → StaysBelow shows folder step
name_below shows folder walk step below is =
    by_test (step ≡ steps.On (further walk.names walk))
    (MatchBool (is_parent (first_name walk.left)) (step ≡ step_up folder walk) (IsLookStep shows folder walk step))
    (is_same (first_name walk.left)) is
    (λ same e. subst (StaysBelow shows folder) (sym e) below)
    (λ other is. by_test (step ≡ step_up folder walk) (IsLookStep shows folder walk step) (is_parent (first_name walk.left)) is
    (λ parent e. subst (StaysBelow shows folder) (sym e) (up_below shows folder walk below))
    (λ plain look. subst (StaysBelow shows folder) (sym look.2)
    (entry_below shows folder walk look.0 below (first_name-plain walk.left other plain) look.1)))

step_below : (shows : List ℕ → Entry → Type 0) (folder : List ℕ) (walk : Walk) (step : Step)
    → AreBelow shows folder walk.names → IsStep shows folder walk step → StaysBelow shows folder step
step_below shows folder walk step below is =
    by_test (step ≡ steps.End (outcomes.At walk.names kinds.Folder)) (IsNameStep shows folder walk step)
    (length walk.left == 0) is
    (λ none e. subst (StaysBelow shows folder) (sym e) below)
    (λ some is. name_below shows folder walk step below is)

after_below : (shows : List ℕ → Entry → Type 0) (folder : List ℕ) (leads : Walk → Outcome → Type 0) (step : Step) (outcome : Outcome)
    → ((next : Walk) → AreBelow shows folder next.names → leads next outcome → EndsBelow shows folder outcome)
    → StaysBelow shows folder step → Ends leads step outcome → EndsBelow shows folder outcome
after_below shows folder leads (steps.On next) outcome on below ends = on next below ends
after_below shows folder leads (steps.End end) outcome on below ends = subst (EndsBelow shows folder) (sym ends) below

walk_below : (shows : List ℕ → Entry → Type 0) (folder : List ℕ) (count : ℕ) (walk : Walk) (outcome : Outcome)
    → AreBelow shows folder walk.names → Leads shows folder count walk outcome → EndsBelow shows folder outcome
unfolding Leads
walk_below shows folder zero walk outcome below ends = subst (EndsBelow shows folder) (sym ends) tt
walk_below shows folder (suc count) walk outcome below ends =
    after_below shows folder (Leads shows folder count) ends.0 outcome
    (λ next below more. walk_below shows folder count next outcome below more)
    (step_below shows folder walk ends.0 below ends.1) ends.2

resolved_below : (shows : List ℕ → Entry → Type 0) (folder path : List ℕ) (outcome : Outcome)
    → Resolves shows folder path outcome → EndsBelow shows folder outcome
resolved_below shows folder path outcome is =
    by_test (outcome ≡ outcomes.Missing)
    (MatchBool (nat_lt most_bytes (length path)) (outcome ≡ outcomes.Stopped obstacles.Other)
    (Leads shows folder most_steps (beginning path) outcome))
    (length path == 0) is
    (λ none e. subst (EndsBelow shows folder) (sym e) tt)
    (λ some is. by_test (outcome ≡ outcomes.Stopped obstacles.Other) (Leads shows folder most_steps (beginning path) outcome)
    (nat_lt most_bytes (length path)) is
    (λ long e. subst (EndsBelow shows folder) (sym e) tt)
    (λ fits ends. walk_below shows folder most_steps (beginning path) outcome (none_below shows folder) ends))

-- a path that leads to an entry leads to one below the folder
pub paths_stay_below : (shows : List ℕ → Entry → Type 0) → PathsStayBelow shows
paths_stay_below shows folder path names kind is = resolved_below shows folder path (outcomes.At names kind) is
