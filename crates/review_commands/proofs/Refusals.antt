-- Words that ask for no command.
use Rattle.std.proofs.Common.{◌≡◌, ◌<◌, ◌∙◌, ◌∷◌, ap, ℕ, zero, suc, true, false, List, [], Option, Some, None, Bor, codes}
use Rattle.std.proofs.Common.{get_or, inl, inr, length, map}
use Rattle.std.proofs.Common.{refl, sym, arith}
use Rattle.std.specs.Prelude.{◌≢◌, bytes_eq, unwrap_or}
use Rattle.clap.specs.Words.{Row, Text, all_of, first_of}
use Rattle.run_base.specs.Arguments.{HasNoWorkers}
use Rattle.review_cautions.specs.Classes.{class_name}
use Rattle.review_cautions.specs.declared.class.CautionClass.{CautionClass}
use Rattle.review_commands.specs.declared.request.PairPaths.{PairPaths}
use Rattle.review_commands.specs.declared.request.Paths.{Paths}
use Rattle.review_commands.specs.declared.request.Asked.TheVariants.{Cautions, Changes, Check, Compare, Expand, Grants, Report}
use Rattle.review_commands.specs.declared.request.Asked.TheVariants.{Roots, Rules, Subjects, Who}
use Rattle.sudo_grammar.specs.declared.kind.Kind.{Kind}
use Rattle.std.proofs.lemmas.Bool.{true≢false}
use Rattle.audit_files.specs.Requests.{is_command}
use Rattle.review_commands.specs.Body.Paths.{LackCommand, LackPair, LackPaths}
use Rattle.review_commands.specs.Words.{AsksNothing, HavePair, HavePaths, fits_hostname, kind_word}

-- names that differ
apart : (a b : Text) → bytes_eq a a ≡ true → bytes_eq a b ≡ false → a ≡ b → ⊥
apart a b self differ e = true≢false (sym self ∙ (ap (bytes_eq a) e ∙ differ))

none_there : (o : Option Text) (text : Text) → o ≡ None → o ≡ Some text → ⊥
none_there o text none there = cc

pub no_name : (name : Text) (rows : List Row) → name ≢ codes "check" → name ≢ codes "expand" → name ≢ codes "cautions"
    → name ≢ codes "report" → name ≢ codes "grants" → name ≢ codes "compare" → name ≢ codes "roots" → name ≢ codes "subjects"
    → name ≢ codes "rules" → name ≢ codes "who" → AsksNothing (name, rows)
no_name name rows check expand cautions report grants compare roots subjects rules who (Check policy) stated fit = check stated.0
no_name name rows check expand cautions report grants compare roots subjects rules who (Expand policy kind alias) stated fit =
    expand stated.0
no_name name rows check expand cautions report grants compare roots subjects rules who (Cautions policy links without) stated fit =
    cautions stated.0
no_name name rows check expand cautions report grants compare roots subjects rules who (Report paths workers senders) stated fit =
    report stated.0
no_name name rows check expand cautions report grants compare roots subjects rules who (Grants paths user host) stated fit =
    grants stated.0
no_name name rows check expand cautions report grants compare roots subjects rules who (Who paths command arguments runas) stated fit =
    who stated.0
no_name name rows check expand cautions report grants compare roots subjects rules who (Compare paths user host) stated fit =
    compare stated.0
no_name name rows check expand cautions report grants compare roots subjects rules who (Changes paths senders) stated fit =
    compare stated.0
no_name name rows check expand cautions report grants compare roots subjects rules who (Roots paths all) stated fit = roots stated.0
no_name name rows check expand cautions report grants compare roots subjects rules who (Subjects paths) stated fit = subjects stated.0
no_name name rows check expand cautions report grants compare roots subjects rules who (Rules paths workers senders) stated fit =
    rules stated.0

-- the host name is invalid
pub of_bad_hostname : (name : Text) (rows : List Row) → fits_hostname (first_of (codes "hostname") rows) ≡ false → AsksNothing (name, rows)
of_bad_hostname name rows bad (Check policy) stated fit = true≢false (sym stated.1.hostname_fits ∙ bad)
of_bad_hostname name rows bad (Expand policy kind alias) stated fit = true≢false (sym stated.1.hostname_fits ∙ bad)
of_bad_hostname name rows bad (Cautions policy links without) stated fit = true≢false (sym stated.1.hostname_fits ∙ bad)
of_bad_hostname name rows bad (Report paths workers senders) stated fit = true≢false (sym stated.1.policy_is.hostname_fits ∙ bad)
of_bad_hostname name rows bad (Grants paths user host) stated fit = true≢false (sym stated.1.policy_is.hostname_fits ∙ bad)
of_bad_hostname name rows bad (Who paths command arguments runas) stated fit = true≢false (sym stated.1.policy_is.hostname_fits ∙ bad)
of_bad_hostname name rows bad (Compare paths user host) stated fit = true≢false (sym stated.1.hostname_fits ∙ bad)
of_bad_hostname name rows bad (Changes paths senders) stated fit = true≢false (sym stated.1.hostname_fits ∙ bad)
of_bad_hostname name rows bad (Roots paths all) stated fit = true≢false (sym stated.1.policy_is.hostname_fits ∙ bad)
of_bad_hostname name rows bad (Subjects paths) stated fit = true≢false (sym stated.1.policy_is.hostname_fits ∙ bad)
of_bad_hostname name rows bad (Rules paths workers senders) stated fit = true≢false (sym stated.1.policy_is.hostname_fits ∙ bad)

pub check_without_file : (rows : List Row) → first_of (codes "file") rows ≡ None → AsksNothing (codes "check", rows)
check_without_file rows none (Check policy) stated fit = none_there _ _ none stated.1.file_is
check_without_file rows none _ stated fit = apart _ _ refl refl stated.0

pub expand_without_file : (rows : List Row) → first_of (codes "file") rows ≡ None → AsksNothing (codes "expand", rows)
expand_without_file rows none (Expand policy kind name) stated fit = none_there _ _ none stated.1.file_is
expand_without_file rows none _ stated fit = apart _ _ refl refl stated.0

pub expand_without_kind : (rows : List Row) → first_of (codes "kind") rows ≡ None → AsksNothing (codes "expand", rows)
expand_without_kind rows none (Expand policy kind name) stated fit = none_there _ _ none stated.2
expand_without_kind rows none _ stated fit = apart _ _ refl refl stated.0

pub expand_without_name : (rows : List Row) → first_of (codes "name") rows ≡ None → AsksNothing (codes "expand", rows)
expand_without_name rows none (Expand policy kind name) stated fit = none_there _ _ none stated.3
expand_without_name rows none _ stated fit = apart _ _ refl refl stated.0

some_word : (a b : Text) → Some a ≡ Some b → a ≡ b
some_word a b e = cc

-- a word names no kind of alias
pub expand_of_bad_kind : (rows : List Row) (word : Text) → first_of (codes "kind") rows ≡ Some word
    → ((k : Kind) → word ≢ kind_word k) → AsksNothing (codes "expand", rows)
expand_of_bad_kind rows word is bad (Expand policy kind name) stated fit = bad kind (some_word _ _ (sym is ∙ stated.2))
expand_of_bad_kind rows word is bad _ stated fit = apart _ _ refl refl stated.0

pub cautions_without_file : (rows : List Row) → first_of (codes "file") rows ≡ None → AsksNothing (codes "cautions", rows)
cautions_without_file rows none (Cautions policy links without) stated fit = none_there _ _ none stated.1.file_is
cautions_without_file rows none _ stated fit = apart _ _ refl refl stated.0

have_or_lack : (rows : List Row) (paths : Paths) → LackPaths rows → HavePaths rows paths → ⊥
have_or_lack rows paths lack have = elim lack [
  | inl none ↦ none_there _ _ none have.policy_is.file_is
  | inr rest ↦ elim rest [
    | inl none ↦ none_there _ _ none have.users_is
    | inr none ↦ none_there _ _ none have.hosts_is
  ]
]

pub report_without_paths : (rows : List Row) → LackPaths rows → AsksNothing (codes "report", rows)
report_without_paths rows lack (Report paths workers senders) stated fit = have_or_lack _ _ lack stated.1
report_without_paths rows lack _ stated fit = apart _ _ refl refl stated.0

pub grants_without_paths : (rows : List Row) → LackPaths rows → AsksNothing (codes "grants", rows)
grants_without_paths rows lack (Grants paths user host) stated fit = have_or_lack _ _ lack stated.1
grants_without_paths rows lack _ stated fit = apart _ _ refl refl stated.0

pub roots_without_paths : (rows : List Row) → LackPaths rows → AsksNothing (codes "roots", rows)
roots_without_paths rows lack (Roots paths all) stated fit = have_or_lack _ _ lack stated.1
roots_without_paths rows lack _ stated fit = apart _ _ refl refl stated.0

pub subjects_without_paths : (rows : List Row) → LackPaths rows → AsksNothing (codes "subjects", rows)
subjects_without_paths rows lack (Subjects paths) stated fit = have_or_lack _ _ lack stated.1
subjects_without_paths rows lack _ stated fit = apart _ _ refl refl stated.0

pub rules_without_paths : (rows : List Row) → LackPaths rows → AsksNothing (codes "rules", rows)
rules_without_paths rows lack (Rules paths workers senders) stated fit = have_or_lack _ _ lack stated.1
rules_without_paths rows lack _ stated fit = apart _ _ refl refl stated.0

same_text_of : (a b : Text) → Some a ≡ Some b → a ≡ b
same_text_of a b e = cc

no_command : (a b : Text) → Some a ≡ Some b → is_command a ≡ false → is_command b ≡ true → ⊥
no_command a b same bad good = true≢false (sym good ∙ (sym (ap is_command (same_text_of a b same)) ∙ bad))

pub who_without_words : (rows : List Row) → LackCommand rows → AsksNothing (codes "who", rows)
who_without_words rows lack (Who paths command arguments runas) stated fit = elim lack [
  | inl paths_lack ↦ have_or_lack _ _ paths_lack stated.1
  | inr none ↦ none_there _ _ none stated.2
]
who_without_words rows lack _ stated fit = apart _ _ refl refl stated.0

-- PATH is neither a path from the root nor `sudoedit`
pub who_of_bad_command : (rows : List Row) (text : Text) → first_of (codes "command") rows ≡ Some text → is_command text ≡ false
    → AsksNothing (codes "who", rows)
who_of_bad_command rows text is bad (Who paths command arguments runas) stated fit = no_command text _ (sym is ∙ stated.2) bad stated.3
who_of_bad_command rows text is bad _ stated fit = apart _ _ refl refl stated.0

have_or_lack_pair : (rows : List Row) (paths : PairPaths) → LackPair rows → HavePair rows paths → ⊥
have_or_lack_pair rows paths lack have = elim lack [
  | inl none ↦ none_there _ _ none have.old_is
  | inr rest ↦ elim rest [
    | inl none ↦ none_there _ _ none have.new_is
    | inr more ↦ elim more [
      | inl none ↦ none_there _ _ none have.users_is
      | inr none ↦ none_there _ _ none have.hosts_is
    ]
  ]
]

pub compare_without_paths : (rows : List Row) → LackPair rows → AsksNothing (codes "compare", rows)
compare_without_paths rows lack (Compare paths user host) stated fit = have_or_lack_pair _ _ lack stated.1
compare_without_paths rows lack (Changes paths senders) stated fit = have_or_lack_pair _ _ lack stated.1
compare_without_paths rows lack _ stated fit = apart _ _ refl refl stated.0

no_words : (words : List (Bor (List ℕ))) → map (λ b. b.now) words ≡ [] → words ≡ []
no_words [] e = refl
no_words (w ∷ ws) e = cc

-- a user or a host is named beside requests
pub requests_in_scope : (rows : List Row) (words : List (Bor (List ℕ)))
    → unwrap_or (all_of (codes "requests") rows) [] ≡ map (λ b. b.now) words → words ≢ []
    → (first_of (codes "user") rows ≡ None → first_of (codes "host") rows ≡ None → ⊥) → AsksNothing (codes "compare", rows)
requests_in_scope rows words are some scoped (Compare paths user host) stated fit = some (no_words words (sym are ∙ stated.4))
requests_in_scope rows words are some scoped (Changes paths senders) stated fit = scoped stated.2 stated.3
requests_in_scope rows words are some scoped _ stated fit = apart _ _ refl refl stated.0

pub rules_without_workers : (rows : List Row) → HasNoWorkers rows → AsksNothing (codes "rules", rows)
rules_without_workers rows none (Rules paths workers senders) stated fit = none workers stated.2 fit.0 fit.1
rules_without_workers rows none _ stated fit = apart _ _ refl refl stated.0

pub report_without_workers : (rows : List Row) → HasNoWorkers rows → AsksNothing (codes "report", rows)
report_without_workers rows none (Report paths workers senders) stated fit = none workers stated.2 fit.0 fit.1
report_without_workers rows none _ stated fit = apart _ _ refl refl stated.0

-- a word for `--without` names no class
pub cautions_of_bad_class : (rows : List Row) (words : List Text) → unwrap_or (all_of (codes "without") rows) [] ≡ words
    → ((classes : List CautionClass) → map class_name classes ≢ words) → AsksNothing (codes "cautions", rows)
cautions_of_bad_class rows words are bad (Cautions policy links without) stated fit = bad without.items (sym stated.3 ∙ are)
cautions_of_bad_class rows words are bad _ stated fit = apart _ _ refl refl stated.0

-- a word that names no class is no name of a class in a list of such names
pub no_classes : (words : List (Bor (List ℕ))) (at : ℕ) → at < length words
    → ((class : CautionClass) → (get_or words at (record { ref_ptr = (0, 0); now = [] })).now ≡ class_name class → ⊥)
    → (classes : List CautionClass) → map class_name classes ≡ map (λ b. b.now) words → ⊥
no_classes [] at within bad classes same = absurd (omega (arith, within))
no_classes (w ∷ ws) zero within bad [] same = absurd cc
no_classes (w ∷ ws) zero within bad (c ∷ cs) same = bad c (let e : w.now ≡ class_name c = cc in e)
no_classes (w ∷ ws) (suc at) within bad [] same = absurd cc
no_classes (w ∷ ws) (suc at) within bad (c ∷ cs) same =
    no_classes ws at (omega (arith, within)) bad cs (let e : map class_name cs ≡ map (λ b. b.now) ws = cc in e)
