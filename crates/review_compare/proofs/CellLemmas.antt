-- The rows for a target decide, and rows that agree say the same.
use Rattle.std.proofs.Common.{◌≡◌, ℕ, Bool, true, false, cond, ◌&&◌, ◌||◌, ◌⊎◌, inl, inr, List, [], ◌∷◌, ◌++◌}
use Rattle.std.proofs.Common.{map, Option, Some, None, refl, sym, ◌∙◌, ap}
use Rattle.std.specs.Prelude.{filter, option_map}
use Rattle.std.specs.Option.{option_or}
use Rattle.std.proofs.lemmas.Bool.{and_from, and_parts, or_cases}
use Rattle.sudo_text.specs.declared.line.Place.{Place}
use Rattle.sudo_grammar.specs.declared.kind.Atom.{Atom}
use Rattle.sudo_grammar.specs.declared.policy.Policy.{Policy}
use Rattle.sudo_match.specs.declared.request.Tags.{Tags}
use Rattle.sudo_match.specs.declared.request.Verdict.{Verdict}
use Rattle.sudo_match.specs.declared.request.Verdict.TheVariants.{NoMatch}
use Rattle.sudo_match.specs.Matching.{command_fits}
use Rattle.sudo_policy.proofs.SurveyLemmas.{option_or-none}
use Rattle.sudo_verdict.specs.Last.{last_that}
use Rattle.sudo_verdict.specs.Tagged.{tags_given}
use Rattle.sudo_verdict.specs.Values.{host_allowed, is_all, user_allowed}
use Rattle.sudo_verdict.specs.Questions.{Question}
use Rattle.sudo_verdict.specs.Grants.{Grant, applies, grants}
use Rattle.sudo_verdict.specs.Verdicts.{decided_by, verdict_by, verdict_if_any, verdict_on}
use Rattle.sudo_verdict.proofs.Lasts.{last_that-map, option_map_or}
use Rattle.review_grants.specs.Targets.{with_command}
use Rattle.review_grants.proofs.RowLemmas.{last_that-filter}
use Rattle.review_grants.proofs.TargetLemmas.{runas_same, verdict_is_where}
use Rattle.review_grants.proofs.NoteTests.{holds-of-no-note}
use Rattle.review_compare.specs.Agreement.{AreSound, answer_of}
use Rattle.review_compare.specs.Compared.{said}
use Rattle.review_compare.specs.Lines.{Choice, Line, Lined, all_met, at_line, fits_where, is_met, is_note_atom, is_unnoted, noted, nowhere}
use Rattle.review_compare.specs.Cells.{AgreeingRowsSaySame, Decider, RequestsAnsweredSame, RowsDecide, Wide, answered_by}
use Rattle.review_compare.specs.Cells.{answered_if_any, covers_where, same_lined}
use Rattle.review_compare.specs.Cells.{deciders, line_after, lined, lined_of, policy_rows, rows_agree, ruling_by, simple_tests}
use Rattle.review_compare.specs.Cells.{verdict_among, verdict_where, wide_of, wide_stands, with_before}
use Rattle.review_compare.specs.Simply.{covers_simply, same_command, same_commands}
use Rattle.review_compare.specs.Witnesses.{RowsSaySame}
use Rattle.review_compare.proofs.AgreementLemmas.{agreement}
use Rattle.review_compare.proofs.ComparedLemmas.{answer_same}
use Rattle.review_compare.proofs.SimplyLemmas.{command-same, commands-same, covers_simply_sound, disjoint_simply_sound}

-- ---- The rows decide

decided : (place : Place) (t : Tags) (n a : Bool) → decided_by place t n a ≡ answered_by place (cond n None (Some (tags_given a t)))
decided place t true a = refl
decided place t false a = refl

-- what a row answers
abbrev says : Wide → Verdict
says w = answered_by w.decider.place w.decider.answer

abbrev verdict_if : Option Verdict → Verdict
verdict_if None = NoMatch
verdict_if (Some v) = v

by-grant : (o : Option Grant) → verdict_if_any o ≡ verdict_if (option_map verdict_by o)
by-grant None = refl
by-grant (Some g) = refl

by-row : (o : Option Wide) → answered_if_any (option_map (λ w. w.decider) o) ≡ verdict_if (option_map says o)
by-row None = refl
by-row (Some w) = refl

module _ (p : Policy) (q : Question) (c x : List ℕ) where
  abbrev row_applies : Wide → Bool
  row_applies w = wide_stands p q w && command_fits w.decider.atom c x

  same-applies : (g : Grant) → applies p (with_command q c x) g ≡ row_applies (wide_of g)
  unfolding applies
  same-applies g =
      ap (λ r. ((user_allowed p g.users q.user && host_allowed p g.hosts q.host) && r) && command_fits g.atom c x)
      (runas_same p q c x g.runas)

  -- no grant that stands for a note applies
  note-fails : (g : Grant) → is_note_atom g.atom ≡ true → applies p (with_command q c x) g ≡ false
  note-fails g note = holds-of-no-note p q c x (applies p (with_command q c x)) (verdict_is_where p (with_command q c x)).0 g note

  one-says : (g : Grant) (before : List Atom) (b : Bool) →
      option_map says (cond b (Some (with_before before (wide_of g))) None) ≡ option_map verdict_by (cond b (Some g) None)
  one-says g before true = ap (λ v. Some v) (sym (decided g.place g.tags g.negated (is_all g.atom)))
  one-says g before false = refl

  -- the last row that applies says what the last grant that applies does
  last-lined : (l : Line) (gs : List Grant) → option_map says (last_that row_applies (lined l (map wide_of gs)))
      ≡ option_map verdict_by (last_that (applies p (with_command q c x)) gs)
  last-lined l [] = refl
  last-lined l (g ∷ gs) = by (is_note_atom g.atom) refl (last-lined (line_after l (wide_of g)) gs)
    where
      by : (n : Bool) → is_note_atom g.atom ≡ n →
          option_map says (last_that row_applies (lined (line_after l (wide_of g)) (map wide_of gs)))
          ≡ option_map verdict_by (last_that (applies p (with_command q c x)) gs) →
          option_map says (last_that row_applies (lined l (wide_of g ∷ map wide_of gs)))
          ≡ option_map verdict_by (last_that (applies p (with_command q c x)) (g ∷ gs))
      by true is rest =
          ap (λ b. option_map says (last_that row_applies (cond b [] (with_before (noted (at_line l g.place)) (wide_of g) ∷ [])
          ++ lined (line_after l (wide_of g)) (map wide_of gs)))) is
          ∙ rest
          ∙ ap (option_map verdict_by)
          (sym (ap (λ b. option_or (last_that (applies p (with_command q c x)) gs) (cond b (Some g) None)) (note-fails g is)
          ∙ option_or-none (last_that (applies p (with_command q c x)) gs)))
      by false is rest =
          let w : Wide = with_before (noted (at_line l g.place)) (wide_of g) in
          let more : List Wide = lined (line_after l (wide_of g)) (map wide_of gs) in
          ap (λ b. option_map says (last_that row_applies (cond b [] (w ∷ []) ++ more))) is
          ∙ option_map_or says (last_that row_applies more) (cond (row_applies w) (Some w) None)
          ∙ ap (λ o. option_or o (option_map says (cond (row_applies w) (Some w) None))) rest
          ∙ ap (λ o. option_or (option_map verdict_by (last_that (applies p (with_command q c x)) gs)) o)
          (ap (λ b. option_map says (cond b (Some w) None)) (sym (same-applies g))
          ∙ one-says g (noted (at_line l g.place)) (applies p (with_command q c x) g))
          ∙ sym (option_map_or verdict_by (last_that (applies p (with_command q c x)) gs)
          (cond (applies p (with_command q c x) g) (Some g) None))

  all-fits : (w : Wide) → (wide_stands p q w && command_fits w.decider.atom c x)
      ≡ (wide_stands p q w && fits_where all_met c x (lined_of w.decider))
  all-fits w = ap (λ b. wide_stands p q w && b) (sym (go (command_fits w.decider.atom c x) (is_unnoted w.decider.before)))
    where
      go : (f u : Bool) → (f && cond u true true) ≡ f
      go true true = refl
      go true false = refl
      go false u = refl

  pub rows-decide : verdict_on p (with_command q c x) ≡ verdict_where all_met p q c x
  unfolding verdict_on
  rows-decide =
      by-grant (last_that (applies p (with_command q c x)) (grants p))
      ∙ ap verdict_if (sym (last-lined nowhere (grants p)))
      ∙ sym (by-row (last_that row_applies (policy_rows p)))
      ∙ ap (λ o. answered_if_any (option_map (λ w. w.decider) o))
      (last_that-filter row_applies (wide_stands p q) (λ w. fits_where all_met c x (lined_of w.decider)) all-fits (policy_rows p))
      ∙ ap answered_if_any
      (sym (last_that-map true (λ w. fits_where all_met c x (lined_of w.decider)) (λ d. fits_where all_met c x (lined_of d))
      (λ w. w.decider) (λ w. refl) (filter (wide_stands p q) (policy_rows p))))

pub rows_decide : RowsDecide
rows_decide p q c x = rows-decide p q c x

pub answered_same : RequestsAnsweredSame
answered_same old new q same c x = ap said (rows-decide old q c x) ∙ same all_met c x ∙ sym (ap said (rows-decide new q c x))

-- ---- Rows that agree

pub said-answered : (place : Place) (a : Option Tags) → said (answered_by place a) ≡ Some a
said-answered place None = refl
said-answered place (Some t) = refl

said-if_any : (o : Option Decider) → said (answered_if_any o) ≡ option_map (λ r. r.answer) (option_map ruling_by o)
said-if_any None = refl
said-if_any (Some d) = said-answered d.place d.answer

pub said-among : (met : Choice) (ds : List Decider) (c x : List ℕ) →
    said (verdict_among met ds c x) ≡ answer_of (fits_where met c x) (map ruling_by ds)
said-among met ds c x =
    said-if_any (last_that (λ d. fits_where met c x (lined_of d)) ds)
    ∙ ap (option_map (λ r. r.answer))
    (sym (last_that-map true (λ d. fits_where met c x (lined_of d)) (λ r. fits_where met c x r.atom) ruling_by (λ d. refl) ds))

-- rows with the same rulings say the same
pub rulings-say-same : (ds es : List Decider) → map ruling_by ds ≡ map ruling_by es → RowsSaySame ds es
rulings-say-same ds es e met c x =
    said-among met ds c x ∙ ap (answer_of (fits_where met c x)) e ∙ sym (said-among met es c x)

-- commands that are written alike, behind others that are, are the same
pub lined-same : (k a : Lined) → same_lined k a ≡ true → k ≡ a
lined-same k a e =
    let both = and_parts (same_command k.atom a.atom) (same_commands k.before a.before) e in
    ap (λ (atom : Atom). let l : Lined = record { before = k.before; atom = atom } in l) (command-same k.atom a.atom both.0)
    ∙ ap (λ (before : List Atom). let l : Lined = record { before = before; atom = a.atom } in l)
    (commands-same k.before a.before both.1)

-- the tests are sound, whichever conditions hold
pub simple-sound : (met : Choice) (c x : List ℕ) → AreSound simple_tests (fits_where met c x)
simple-sound met c x = record {
  covers = covers;
  disjoint = λ a b apart h.
      ap (λ v. v && is_met met b)
      (disjoint_simply_sound a.atom b.atom c x apart (and_parts (command_fits a.atom c x) (is_met met a) h).0);
  same = answer_same;
}
  where
    -- what applies to the second applies to the first, where it fits: nothing is noted before it, or it is the second
    by : (k a : Lined) → command_fits k.atom c x ≡ true → fits_where met c x a ≡ true →
        (is_unnoted k.before ≡ true) ⊎ (same_lined k a ≡ true) → fits_where met c x k ≡ true
    by k a fits h (inl none) =
        and_from (command_fits k.atom c x) (is_met met k) fits (ap (λ b. cond b true (met k.before k.atom)) none)
    by k a fits h (inr same) = ap (fits_where met c x) (lined-same k a same) ∙ h

    covers : (k a : Lined) → covers_where k a ≡ true → fits_where met c x a ≡ true → fits_where met c x k ≡ true
    covers k a cover h =
        let both = and_parts (covers_simply k.atom a.atom) (is_unnoted k.before || same_lined k a) cover in
        let fits = (and_parts (command_fits a.atom c x) (is_met met a) h).0 in
        by k a (covers_simply_sound k.atom a.atom c x both.0 fits) h (or_cases (is_unnoted k.before) (same_lined k a) both.1)

pub agreeing-among : (ds es : List Decider) → rows_agree ds es ≡ true → RowsSaySame ds es
agreeing-among ds es e met c x =
    said-among met ds c x
    ∙ (agreement Lined (Option Tags)).holds simple_tests (fits_where met c x) (map ruling_by ds) (map ruling_by es)
    (simple-sound met c x) e
    ∙ sym (said-among met es c x)

pub agreeing_rows : AgreeingRowsSaySame
agreeing_rows old new q e = agreeing-among (deciders old q) (deciders new q) e
