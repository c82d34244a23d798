-- Cases are what a policy says, and the same ones say the same.
use Rattle.std.proofs.Common.{◌≡◌, ◌∙◌, ℕ, Bool, true, false, cond, ◌&&◌, List, [], ◌∷◌, ◌++◌, Option, Some, None, ap, refl, sym}
use Rattle.std.specs.Prelude.{option_map}
use Rattle.std.specs.Option.{option_or}
use Rattle.std.proofs.lemmas.Bool.{and_parts}
use Rattle.sudo_match.specs.declared.request.Tags.{Tags}
use Rattle.sudo_match.specs.Matching.{command_fits}
use Rattle.sudo_policy.proofs.SurveyLemmas.{option_or-none}
use Rattle.sudo_verdict.specs.Last.{last_that}
use Rattle.sudo_verdict.proofs.Lasts.{last_that-append, option_map_or}
use Rattle.review_compare.specs.Cases.{Cases, CasesAreSaid, SameCasesSaySame, adds_nothing, cases_on, is_empty, no_cases, said_where}
use Rattle.review_compare.specs.Cases.{same_cases, same_row, same_rows, with_noted, with_row, with_row_if, with_rows}
use Rattle.review_compare.specs.Cells.{Decider, answered_if_any, deciders, lined_of, same_lined, same_said}
use Rattle.review_compare.specs.Compared.{said, same_answer}
use Rattle.review_compare.specs.Lines.{Choice, fits_where, is_met, is_unnoted}
use Rattle.review_compare.specs.Body.Asked.{settled}
use Rattle.review_compare.proofs.CellLemmas.{lined-same, said-answered}
use Rattle.review_compare.proofs.ComparedLemmas.{answer_same}

pub said-same : (a b : Option (Option Tags)) → same_said a b ≡ true → a ≡ b
said-same None None e = refl
said-same None (Some b) e = cc
said-same (Some a) None e = cc
said-same (Some a) (Some b) e = ap (λ x. Some x) (answer_same a b e)

abbrev answer_by : Decider → Option Tags
answer_by d = d.answer

-- with a further row behind the others
abbrev pub with_one : Cases → Decider → Cases
with_one k d = record { otherwise = k.otherwise; noted = k.noted ++ d ∷ [] }

module _ (met : Choice) where
  abbrev applies_to : Decider → Bool
  applies_to d = is_met met (lined_of d)

  -- ---- One row more

  one-said : (k : Cases) (d : Decider) (b : Bool) → applies_to d ≡ b →
      said_where met (with_one k d) ≡ cond b (Some d.answer) (said_where met k)
  one-said k d b is =
      ap (λ o. option_or (option_map answer_by o) k.otherwise) (last_that-append applies_to k.noted (d ∷ []))
      ∙ ap (λ v. option_or (option_map answer_by (option_or (option_or None (cond v (Some d) None)) (last_that applies_to k.noted)))
      k.otherwise) is
      ∙ go b
    where
      go : (b : Bool) →
          option_or (option_map answer_by (option_or (option_or None (cond b (Some d) None)) (last_that applies_to k.noted))) k.otherwise
          ≡ cond b (Some d.answer) (said_where met k)
      go true = refl
      go false = refl

  -- where no row stands and the row answers what is said, nothing changes
  nothing-said : (k : Cases) (d : Decider) (b : Bool) → adds_nothing k d ≡ true →
      said_where met k ≡ cond b (Some d.answer) (said_where met k)
  nothing-said k d false adds = refl
  nothing-said k d true adds =
      let both = and_parts (is_empty k.noted) (same_said k.otherwise (Some d.answer)) adds in
      none k.noted both.0 ∙ said-same k.otherwise (Some d.answer) both.1
    where
      none : (ds : List Decider) → is_empty ds ≡ true → option_or (option_map answer_by (last_that applies_to ds)) k.otherwise ≡ k.otherwise
      none [] e = refl
      none (x ∷ xs) e = cc

  noted-said : (k : Cases) (d : Decider) (b : Bool) → applies_to d ≡ b →
      said_where met (with_noted k d) ≡ cond b (Some d.answer) (said_where met k)
  noted-said k d b is = by (adds_nothing k d) refl
    where
      by : (a : Bool) → adds_nothing k d ≡ a → said_where met (with_noted k d) ≡ cond b (Some d.answer) (said_where met k)
      by true adds = ap (λ v. said_where met (cond v k (with_one k d))) adds ∙ nothing-said k d b adds
      by false adds = ap (λ v. said_where met (cond v k (with_one k d))) adds ∙ one-said k d b is

  -- a further row that fits answers if it applies; otherwise what was said is said
  row-said : (k : Cases) (d : Decider) → said_where met (with_row k d) ≡ cond (applies_to d) (Some d.answer) (said_where met k)
  row-said k d = by (is_unnoted d.before) refl
    where
      by : (u : Bool) → is_unnoted d.before ≡ u →
          said_where met (with_row k d) ≡ cond (applies_to d) (Some d.answer) (said_where met k)
      by true is =
          ap (λ v. said_where met (cond v (settled (Some d.answer)) (with_noted k d))) is
          ∙ sym (ap (λ v. cond (cond v true (met d.before d.atom)) (Some d.answer) (said_where met k)) is)
      by false is =
          ap (λ v. said_where met (cond v (settled (Some d.answer)) (with_noted k d))) is
          ∙ noted-said k d (applies_to d) refl

  module _ (c x : List ℕ) where
    abbrev fits : Decider → Bool
    fits d = fits_where met c x (lined_of d)

    row-if-said : (k : Cases) (d : Decider) → said_where met (with_row_if c x k d) ≡ cond (fits d) (Some d.answer) (said_where met k)
    row-if-said k d = by (command_fits d.atom c x) refl
      where
        by : (f : Bool) → command_fits d.atom c x ≡ f →
            said_where met (with_row_if c x k d) ≡ cond (fits d) (Some d.answer) (said_where met k)
        by true is =
            ap (λ v. said_where met (cond v (with_row k d) k)) is ∙ row-said k d
            ∙ sym (ap (λ v. cond (v && applies_to d) (Some d.answer) (said_where met k)) is)
        by false is =
            ap (λ v. said_where met (cond v (with_row k d) k)) is
            ∙ sym (ap (λ v. cond (v && applies_to d) (Some d.answer) (said_where met k)) is)

    -- the last of the rows that applies answers
    rows-said : (k : Cases) (ds : List Decider) →
        said_where met (with_rows c x k ds) ≡ option_or (option_map answer_by (last_that fits ds)) (said_where met k)
    rows-said k [] = refl
    rows-said k (d ∷ ds) =
        rows-said (with_row_if c x k d) ds
        ∙ ap (option_or (option_map answer_by (last_that fits ds))) (row-if-said k d)
        ∙ go (last_that fits ds) (fits d)
      where
        go : (o : Option Decider) (b : Bool) →
            option_or (option_map answer_by o) (cond b (Some d.answer) (said_where met k))
            ≡ option_or (option_map answer_by (option_or o (cond b (Some d) None))) (said_where met k)
        go (Some e) b = refl
        go None true = refl
        go None false = refl

  said-any : (o : Option Decider) → said (answered_if_any o) ≡ option_map answer_by o
  said-any None = refl
  said-any (Some d) = said-answered d.place d.answer

  pub cases-said : (ds : List Decider) (c x : List ℕ) →
      said (answered_if_any (last_that (λ d. fits_where met c x (lined_of d)) ds)) ≡ said_where met (with_rows c x no_cases ds)
  cases-said ds c x =
      said-any (last_that (fits c x) ds) ∙ sym (option_or-none (option_map answer_by (last_that (fits c x) ds)))
      ∙ sym (rows-said c x no_cases ds)

  -- ---- The same rows

  same-last : (ds es : List Decider) → same_rows ds es ≡ true →
      option_map answer_by (last_that applies_to ds) ≡ option_map answer_by (last_that applies_to es)
  same-last [] [] e = refl
  same-last [] (y ∷ es) e = cc
  same-last (d ∷ ds) [] e = cc
  same-last (d ∷ ds) (y ∷ es) e =
      let both = and_parts (same_row d y) (same_rows ds es) e in
      let row = and_parts (same_answer d.answer y.answer) (same_lined (lined_of d) (lined_of y)) both.0 in
      option_map_or answer_by (last_that applies_to ds) (cond (applies_to d) (Some d) None)
      ∙ ap (λ o. option_or o (option_map answer_by (cond (applies_to d) (Some d) None))) (same-last ds es both.1)
      ∙ ap (option_or (option_map answer_by (last_that applies_to es)))
      (go d (applies_to d) ∙ ap (λ a. cond (applies_to d) (Some a) None) (answer_same d.answer y.answer row.0)
      ∙ ap (λ l. cond (is_met met l) (Some y.answer) None) (lined-same (lined_of d) (lined_of y) row.1) ∙ sym (go y (applies_to y)))
      ∙ sym (option_map_or answer_by (last_that applies_to es) (cond (applies_to y) (Some y) None))
    where
      go : (z : Decider) (b : Bool) → option_map answer_by (cond b (Some z) None) ≡ cond b (Some z.answer) None
      go z true = refl
      go z false = refl

  same-said : (k l : Cases) → same_cases k l ≡ true → said_where met k ≡ said_where met l
  same-said k l e =
      let both = and_parts (same_said k.otherwise l.otherwise) (same_rows k.noted l.noted) e in
      ap (λ o. option_or o k.otherwise) (same-last k.noted l.noted both.1)
      ∙ ap (option_or (option_map answer_by (last_that applies_to l.noted))) (said-same k.otherwise l.otherwise both.0)

pub cases_said : CasesAreSaid
cases_said p q met = cases-said met (deciders p q) q.command q.arguments

pub same_cases_say_same : SameCasesSaySame
same_cases_say_same old new q e met =
    cases_said old q met ∙ same-said met (cases_on old q) (cases_on new q) e ∙ sym (cases_said new q met)
