-- Rows behind notes are at places with notes; where the last row that fits is at a place without a note, nothing depends.
use Rattle.std.proofs.Common.{◌≡◌, ◌<◌, ◌+◌, ◌∙◌, ℕ, Bool, true, false, cond, ◌&&◌, ◌||◌, ◌⊎◌, inl, inr, List, [], ◌∷◌, map}
use Rattle.std.proofs.Common.{Option, Some, None, Result, Ok, Err, ap, get_or, length, refl, sym, take}
use Rattle.std.specs.Prelude.{◌==◌, filter, is_some, not}
use Rattle.std.specs.List.{list_all, list_any}
use Rattle.std.specs.Option.{option_or}
use Rattle.std.proofs.lemmas.Bool.{and_from, and_parts, or_cases}
use Rattle.std.proofs.lemmas.List.{map-append}
use Rattle.std.proofs.lemmas.List.Folds.{list_all-append, list_all-map, list_any-append}
use Rattle.sudo_text.specs.declared.line.Place.{Place}
use Rattle.sudo_grammar.specs.declared.policy.Policy.{Policy}
use Rattle.sudo_match.specs.KnownRows.{KnownRows}
use Rattle.sudo_match.specs.declared.request.Request.{Request}
use Rattle.sudo_match.specs.declared.request.Tags.{Tags}
use Rattle.sudo_match.specs.declared.request.What.{What}
use Rattle.sudo_match.specs.declared.request.Verdict.{Verdict}
use Rattle.sudo_match.specs.declared.request.Verdict.TheVariants as verdict
use Rattle.sudo_match.specs.Matching.{command_fits}
use Rattle.sudo_verdict.specs.Last.{last_that}
use Rattle.sudo_verdict.specs.Questions.{Question, question_of}
use Rattle.sudo_verdict.specs.Grants.{Grant, grants}
use Rattle.sudo_verdict.specs.Verdicts.{verdict_if_known, verdict_of, verdict_on}
use Rattle.review_texts.specs.declared.note.Note.{Note}
use Rattle.review_texts.specs.declared.note.Note.TheVariants.{Digest, Time, Chroot, Regex}
use Rattle.review_texts.specs.Notes.{note_in, notes}
use Rattle.review_grants.specs.declared.marks.Marks.{Marks}
use Rattle.review_grants.specs.Depends.{has_mark, has_note, is_note, is_note_grant, is_noted_at, is_unmarked, joined_marks, marks_at}
use Rattle.review_grants.specs.Depends.{same_note, same_place}
use Rattle.review_grants.proofs.ListSteps.{take-more}
use Rattle.review_compare.specs.declared.ruling.Ruled.{Ruled}
use Rattle.review_compare.specs.Cases.{Cases, UnnotedCasesHold, adds_nothing, bears, cases_if_known, cases_of, cases_on, no_cases}
use Rattle.review_compare.specs.Cases.{notes_of, said_where, with_noted, with_row, with_row_if, with_rows}
use Rattle.review_compare.specs.Cells.{Decider, Wide, answered_by, answered_if_any, deciders, line_after, lined, lined_of, lined_one}
use Rattle.review_compare.specs.Cells.{policy_rows, wide_of, wide_stands, with_before}
use Rattle.review_compare.specs.Compared.{said}
use Rattle.review_compare.specs.Lines.{Line, all_met, at_line, fits_where, is_note_atom, is_unnoted, noted, nowhere}
use Rattle.review_compare.specs.Body.Asked.{is_unnoted_at, settled}
use Rattle.review_compare.specs.Body.Commands.{is_noted}
use Rattle.review_compare.specs.Body.Shown.{all_shown, shown}
use Rattle.review_compare.proofs.CaseLemmas.{cases_said, with_one}
use Rattle.review_compare.proofs.ClassLemmas.{same-self}
use Rattle.review_compare.proofs.CellLemmas.{rows_decide, said-answered}
use Rattle.review_compare.proofs.LineLemmas.{same-line}
use Rattle.review_compare.proofs.UnnotedLemmas.{no-notes}

or-true : (b : Bool) → (b || true) ≡ true
or-true true = refl
or-true false = refl

-- ---- Places with notes

-- one of the grants is at the place and stands for a note
abbrev pub noted_there : List Grant → Place → Bool
noted_there gs at = list_any (λ g. same_place g.place at && is_note_grant g) gs

one-note : (at : Place) (g : Grant) → (same_place g.place at && is_note_grant g) ≡ true →
    (note : Note) × ((same_place g.place at && has_note note g) ≡ true)
one-note at g e =
    let both = and_parts (same_place g.place at) (is_note_grant g) e in
    by (note_in g.atom) refl both.0 both.1
  where
    own : (note : Note) → same_note note note ≡ true
    own Digest = refl
    own Time = refl
    own Chroot = refl
    own Regex = refl

    by : (o : Option Note) → note_in g.atom ≡ o → same_place g.place at ≡ true → is_some (note_in g.atom) ≡ true →
        (note : Note) × ((same_place g.place at && has_note note g) ≡ true)
    by None is here some = absurd (let bad : false ≡ true = sym (ap is_some is) ∙ some in cc)
    by (Some note) is here some =
        (note, and_from (same_place g.place at) (has_note note g) here (ap (is_note note) is ∙ own note))

-- there is a note at such a place
some-note : (gs : List Grant) (at : Place) → noted_there gs at ≡ true →
    (note : Note) × (list_any (λ g. same_place g.place at && has_note note g) gs ≡ true)
some-note [] at e = cc
some-note (g ∷ gs) at e = by (or_cases (same_place g.place at && is_note_grant g) (noted_there gs at) e) (λ there. some-note gs at there)
  where
    by : ((same_place g.place at && is_note_grant g) ≡ true) ⊎ (noted_there gs at ≡ true) →
        (noted_there gs at ≡ true → (note : Note) × (list_any (λ h. same_place h.place at && has_note note h) gs ≡ true)) →
        (note : Note) × (list_any (λ h. same_place h.place at && has_note note h) (g ∷ gs) ≡ true)
    by (inl here) rest =
        let found = one-note at g here in
        (found.0, ap (λ b. b || list_any (λ h. same_place h.place at && has_note found.0 h) gs) found.1)
    by (inr there) rest =
        let found = rest there in
        let here = same_place g.place at && has_note found.0 g in
        (found.0, ap (λ b. here || b) found.1 ∙ or-true here)

-- ---- Rows behind notes

-- nothing is noted before the row, or its place has a note
abbrev pub is_right : List Grant → Decider → Bool
is_right all d = is_unnoted d.before || noted_there all d.place

own-place : (at : Place) → same_place at at ≡ true
own-place at = and_from (at.file == at.file) (at.line == at.line) (same-self at.file) (same-self at.line)

module _ (all : List Grant) where
  -- each of these grants is one of all
  abbrev AreOf : List Grant → Type 0
  AreOf gs = (f : Grant → Bool) → list_any f gs ≡ true → list_any f all ≡ true

  -- where a note is among what stands in the line so far, its place has a note
  abbrev IsNotedLine : Line → Type 0
  IsNotedLine l = list_any is_note_atom l.atoms ≡ true → noted_there all l.place ≡ true

  here-noted : (l : Line) (at : Place) → IsNotedLine l → list_any is_note_atom (at_line l at) ≡ true → noted_there all at ≡ true
  here-noted l at line e = by (same_place l.place at) refl e
    where
      by : (b : Bool) → same_place l.place at ≡ b → list_any is_note_atom (cond b l.atoms []) ≡ true → noted_there all at ≡ true
      by true same some = ap (noted_there all) (sym (same-line l.place at same)) ∙ line some
      by false other some = cc

  after-noted : (l : Line) (g : Grant) (gs : List Grant) → AreOf (g ∷ gs) → IsNotedLine l → IsNotedLine (line_after l (wide_of g))
  after-noted l g gs of line e =
      by (or_cases (list_any is_note_atom (at_line l g.place)) (is_note_atom g.atom || false)
      (sym (list_any-append is_note_atom (at_line l g.place) (g.atom ∷ [])) ∙ e))
    where
      or-false : (b : Bool) → (b || false) ≡ b
      or-false true = refl
      or-false false = refl

      by : (list_any is_note_atom (at_line l g.place) ≡ true) ⊎ ((is_note_atom g.atom || false) ≡ true) →
          noted_there all g.place ≡ true
      by (inl before) = here-noted l g.place line before
      by (inr own) =
          of (λ h. same_place h.place g.place && is_note_grant h)
          (ap (λ b. b || list_any (λ h. same_place h.place g.place && is_note_grant h) gs)
          (and_from (same_place g.place g.place) (is_note_grant g) (own-place g.place) (sym (or-false (is_note_atom g.atom)) ∙ own)))

  row-right : (l : Line) (g : Grant) → IsNotedLine l →
      is_right all (with_before (noted (at_line l g.place)) (wide_of g)).decider ≡ true
  row-right l g line = by (list_any is_note_atom (at_line l g.place)) refl
    where
      by : (b : Bool) → list_any is_note_atom (at_line l g.place) ≡ b →
          (is_unnoted (noted (at_line l g.place)) || noted_there all g.place) ≡ true
      by true some = ap (λ b. is_unnoted (noted (at_line l g.place)) || b) (here-noted l g.place line some)
          ∙ or-true (is_unnoted (noted (at_line l g.place)))
      by false none = ap (λ b. is_unnoted (cond b (at_line l g.place) []) || noted_there all g.place) none

  lined-right : (l : Line) (gs : List Grant) → AreOf gs → IsNotedLine l →
      list_all (λ w. is_right all w.decider) (lined l (map wide_of gs)) ≡ true
  lined-right l [] of line = refl
  lined-right l (g ∷ gs) of line =
      list_all-append (λ (w : Wide). is_right all w.decider) (lined_one l (wide_of g)) (lined (line_after l (wide_of g)) (map wide_of gs))
      ∙ and_from (list_all (λ w. is_right all w.decider) (lined_one l (wide_of g)))
      (list_all (λ w. is_right all w.decider) (lined (line_after l (wide_of g)) (map wide_of gs)))
      (by (is_note_atom g.atom))
      (lined-right (line_after l (wide_of g)) gs
      (λ f some. of f (ap (λ b. f g || b) some ∙ or-true (f g))) (after-noted l g gs of line))
    where
      by : (n : Bool) →
          list_all (λ w. is_right all w.decider) (cond n [] (with_before (noted (at_line l g.place)) (wide_of g) ∷ [])) ≡ true
      by true = refl
      by false = ap (λ b. b && true) (row-right l g line)

all-filter : {X : Type 0} (f g : X → Bool) (xs : List X) → list_all f xs ≡ true → list_all f (filter g xs) ≡ true
all-filter f g [] e = refl
all-filter {X} f g (x ∷ xs) e =
    let both = and_parts (f x) (list_all f xs) e in
    by both.0 (all-filter f g xs both.1) (g x)
  where
    by : f x ≡ true → list_all f (filter g xs) ≡ true → (b : Bool) → list_all f (cond b (x ∷ filter g xs) (filter g xs)) ≡ true
    by own rest true = and_from (f x) (list_all f (filter g xs)) own rest
    by own rest false = rest

-- the rows of a question are right
pub rows-right : (p : Policy) (q : Question) → list_all (is_right (grants p)) (deciders p q) ≡ true
rows-right p q =
    list_all-map (is_right (grants p)) (λ (w : Wide). w.decider) (filter (wide_stands p q) (policy_rows p))
    ∙ all-filter (λ (w : Wide). is_right (grants p) w.decider) (wide_stands p q) (policy_rows p)
    (lined-right (grants p) nowhere (grants p) (λ f some. some) (λ some. cc))

-- ---- The rows of the cases

abbrev at_noted : List Grant → Decider → Bool
at_noted all d = noted_there all d.place

module _ (all : List Grant) where
  noted-kept : (k : Cases) (d : Decider) → noted_there all d.place ≡ true → list_all (at_noted all) k.noted ≡ true →
      list_all (at_noted all) (with_noted k d).noted ≡ true
  noted-kept k d own e = by (adds_nothing k d)
    where
      by : (b : Bool) → list_all (at_noted all) (cond b k (with_one k d)).noted ≡ true
      by true = e
      by false =
          list_all-append (at_noted all) k.noted (d ∷ [])
          ∙ and_from (list_all (at_noted all) k.noted) (noted_there all d.place && true) e (ap (λ b. b && true) own)

  row-kept : (k : Cases) (d : Decider) → is_right all d ≡ true → list_all (at_noted all) k.noted ≡ true →
      list_all (at_noted all) (with_row k d).noted ≡ true
  row-kept k d right e = by (is_unnoted d.before) refl
    where
      by : (u : Bool) → is_unnoted d.before ≡ u →
          list_all (at_noted all) (cond u (settled (Some d.answer)) (with_noted k d)).noted ≡ true
      by true is = refl
      by false is = noted-kept k d (sym (ap (λ b. b || noted_there all d.place) is) ∙ right) e

  row-if-kept : (c x : List ℕ) (k : Cases) (d : Decider) → is_right all d ≡ true → list_all (at_noted all) k.noted ≡ true →
      list_all (at_noted all) (with_row_if c x k d).noted ≡ true
  row-if-kept c x k d right e = by (command_fits d.atom c x)
    where
      by : (f : Bool) → list_all (at_noted all) (cond f (with_row k d) k).noted ≡ true
      by true = row-kept k d right e
      by false = e

  rows-kept : (c x : List ℕ) (k : Cases) (ds : List Decider) → list_all (is_right all) ds ≡ true → list_all (at_noted all) k.noted ≡ true →
      list_all (at_noted all) (with_rows c x k ds).noted ≡ true
  rows-kept c x k [] right e = e
  rows-kept c x k (d ∷ ds) right e =
      let both = and_parts (is_right all d) (list_all (is_right all) ds) right in
      rows-kept c x (with_row_if c x k d) ds both.1 (row-if-kept c x k d both.0 e)

-- where no note bears on the request, no row may decide
pub none-bears : (p : Policy) (q : Question) → ((note : Note) → bears p (cases_on p q) note ≡ false) → (cases_on p q).noted ≡ []
none-bears p q none =
    by (cases_on p q).noted (rows-kept (grants p) q.command q.arguments no_cases (deciders p q) (rows-right p q) refl) none
  where
    by : (ds : List Decider) → list_all (at_noted (grants p)) ds ≡ true →
        ((note : Note) → list_any (λ d. is_noted_at p d.place note) ds ≡ false) → ds ≡ []
    by [] e none = refl
    by (d ∷ ds) e none =
        let both = and_parts (noted_there (grants p) d.place) (list_all (at_noted (grants p)) ds) e in
        let found = some-note (grants p) d.place both.0 in
        let bad : true ≡ false =
        sym (ap (λ b. b || list_any (λ d. is_noted_at p d.place found.0) ds) found.1) ∙ none found.0 in
        cc

-- so nothing depends on one
pub unborne : (p : Policy) (q : Question) → ((note : Note) → bears p (cases_on p q) note ≡ false) →
    cases_on p q ≡ settled (said (verdict_on p q))
unborne p q none =
    ap (λ (ds : List Decider). let k : Cases = record { otherwise = (cases_on p q).otherwise; noted = ds } in k) empty
    ∙ ap settled
    (sym (ap (λ (ds : List Decider). said_where all_met (record { otherwise = (cases_on p q).otherwise; noted = ds })) empty)
    ∙ sym (cases_said p q all_met) ∙ sym (ap said (rows_decide p q q.command q.arguments)))
  where
    empty : (cases_on p q).noted ≡ []
    empty = none-bears p q none

pub unnoted_cases_hold : UnnotedCasesHold
unnoted_cases_hold p q none met = cases_said p q met ∙ ap (said_where met) (unborne p q none)

-- ---- Where the last row that fits has no note

abbrev fits_at : List ℕ → List ℕ → Decider → Bool
fits_at c x d = command_fits d.atom c x

settled-none : (c x : List ℕ) (k : Cases) (ds : List Decider) → last_that (fits_at c x) ds ≡ None → with_rows c x k ds ≡ k
settled-none c x k [] e = refl
settled-none c x k (y ∷ ds) e =
    by (last_that (fits_at c x) ds) refl (command_fits y.atom c x) refl e (λ none. settled-none c x (with_row_if c x k y) ds none)
  where
    by : (o : Option Decider) → last_that (fits_at c x) ds ≡ o → (f : Bool) → command_fits y.atom c x ≡ f →
        option_or o (cond f (Some y) None) ≡ None →
        (last_that (fits_at c x) ds ≡ None → with_rows c x (with_row_if c x k y) ds ≡ with_row_if c x k y) →
        with_rows c x (with_row_if c x k y) ds ≡ k
    by (Some z) is f fits e rest = cc
    by None is true fits e rest = cc
    by None is false fits e rest = rest is ∙ ap (λ b. cond b (with_row k y) k) fits

settled-by : (c x : List ℕ) (k : Cases) (ds : List Decider) (d : Decider) → last_that (fits_at c x) ds ≡ Some d →
    is_unnoted d.before ≡ true → with_rows c x k ds ≡ settled (Some d.answer)
settled-by c x k [] d e free = cc
settled-by c x k (y ∷ ds) d e free =
    by (last_that (fits_at c x) ds) refl (command_fits y.atom c x) refl e
    (λ last. settled-by c x (with_row_if c x k y) ds d last free)
  where
    by : (o : Option Decider) → last_that (fits_at c x) ds ≡ o → (f : Bool) → command_fits y.atom c x ≡ f →
        option_or o (cond f (Some y) None) ≡ Some d →
        (last_that (fits_at c x) ds ≡ Some d → with_rows c x (with_row_if c x k y) ds ≡ settled (Some d.answer)) →
        with_rows c x (with_row_if c x k y) ds ≡ settled (Some d.answer)
    by (Some z) is f fits e rest = rest (is ∙ e)
    by None is false fits e rest = cc
    by None is true fits e rest =
        let same : y ≡ d = cc in
        settled-none c x (with_row_if c x k y) ds is
        ∙ ap (λ b. cond b (with_row k y) k) fits
        ∙ ap (with_row k) same
        ∙ ap (λ b. cond b (settled (Some d.answer)) (with_noted k d)) free

last-passes : {X : Type 0} (f g : X → Bool) (xs : List X) (x : X) → list_all f xs ≡ true → last_that g xs ≡ Some x → f x ≡ true
last-passes f g [] x all e = cc
last-passes {X} f g (y ∷ ys) x all e =
    let both = and_parts (f y) (list_all f ys) all in
    by both.0 (last_that g ys) refl (g y) e (λ last. last-passes f g ys x both.1 last)
  where
    by : f y ≡ true → (o : Option X) → last_that g ys ≡ o → (b : Bool) → option_or o (cond b (Some y) None) ≡ Some x →
        (last_that g ys ≡ Some x → f x ≡ true) → f x ≡ true
    by own (Some z) is b e rest = rest (is ∙ e)
    by own None is true e rest = let same : y ≡ x = cc in ap f (sym same) ∙ own
    by own None is false e rest = cc

-- a place without a mark has no note
unmarked-none : (p : Policy) (at : Place) → is_unmarked (marks_at p at) ≡ true → noted_there (grants p) at ≡ false
unmarked-none p at free = by (noted_there (grants p) at) refl
  where
    D : Bool
    D = is_noted_at p at Digest

    T : Bool
    T = is_noted_at p at Time

    C : Bool
    C = is_noted_at p at Chroot

    R : Bool
    R = is_noted_at p at Regex

    second : (a b : Bool) → (not a && (not true && b)) ≡ false
    second true b = refl
    second false b = refl

    third : (a b c : Bool) → (not a && (not b && (not true && c))) ≡ false
    third true b c = refl
    third false b c = second b c

    fourth : (a b c : Bool) → (not a && (not b && (not c && not true))) ≡ false
    fourth true b c = refl
    fourth false true c = refl
    fourth false false true = refl
    fourth false false false = refl

    marked : (note : Note) → is_noted_at p at note ≡ true → is_unmarked (marks_at p at) ≡ false
    marked Digest e = ap (λ b. not b && (not T && (not C && not R))) e
    marked Time e = ap (λ b. not D && (not b && (not C && not R))) e ∙ second D (not C && not R)
    marked Chroot e = ap (λ b. not D && (not T && (not b && not R))) e ∙ third D T (not R)
    marked Regex e = ap (λ b. not D && (not T && (not C && not b))) e ∙ fourth D T C

    by : (b : Bool) → noted_there (grants p) at ≡ b → b ≡ false
    by false e = refl
    by true e =
        let found = some-note (grants p) at e in
        let bad : true ≡ false = sym free ∙ marked found.0 found.1 in
        cc

-- whatever noted conditions hold, the verdict is said where the grants at its place depend on nothing
pub settled-verdict : (p : Policy) (q : Question) → is_unnoted_at p (verdict_on p q) ≡ true →
    cases_on p q ≡ settled (said (verdict_on p q))
settled-verdict p q free =
    by (last_that (fits_at q.command q.arguments) (deciders p q)) refl
  where
    all-fit : (d : Decider) → fits_where all_met q.command q.arguments (lined_of d) ≡ fits_at q.command q.arguments d
    all-fit d = go (command_fits d.atom q.command q.arguments) (is_unnoted d.before)
      where
        go : (f u : Bool) → (f && cond u true true) ≡ f
        go true true = refl
        go true false = refl
        go false u = refl

    same-last : (ds : List Decider) →
        last_that (λ d. fits_where all_met q.command q.arguments (lined_of d)) ds ≡ last_that (fits_at q.command q.arguments) ds
    same-last [] = refl
    same-last (d ∷ ds) =
        ap (λ o. option_or o (cond (fits_where all_met q.command q.arguments (lined_of d)) (Some d) None)) (same-last ds)
        ∙ ap (λ b. option_or (last_that (fits_at q.command q.arguments) ds) (cond b (Some d) None)) (all-fit d)

    is-verdict : verdict_on p q ≡ answered_if_any (last_that (fits_at q.command q.arguments) (deciders p q))
    is-verdict = rows_decide p q q.command q.arguments ∙ ap answered_if_any (same-last (deciders p q))

    by : (o : Option Decider) → last_that (fits_at q.command q.arguments) (deciders p q) ≡ o →
        cases_on p q ≡ settled (said (verdict_on p q))
    by None is =
        settled-none q.command q.arguments no_cases (deciders p q) is
        ∙ sym (ap (λ v. settled (said v)) (is-verdict ∙ ap answered_if_any is))
    by (Some d) is =
        settled-by q.command q.arguments no_cases (deciders p q) d is unnoted
        ∙ sym (ap (λ v. settled (said v)) (is-verdict ∙ ap answered_if_any is) ∙ ap settled (said-answered d.place d.answer))
      where
        free-there : (a : Option Tags) → is_unnoted_at p (answered_by d.place a) ≡ true → is_unmarked (marks_at p d.place) ≡ true
        free-there None e = e
        free-there (Some t) e = e

        nothing : noted_there (grants p) d.place ≡ false
        nothing = unmarked-none p d.place
            (free-there d.answer (sym (ap (is_unnoted_at p) (is-verdict ∙ ap answered_if_any is)) ∙ free))

        unnoted : is_unnoted d.before ≡ true
        unnoted =
            sym (or-none (is_unnoted d.before)) ∙ sym (ap (λ b. is_unnoted d.before || b) nothing)
            ∙ last-passes (is_right (grants p)) (fits_at q.command q.arguments) (deciders p q) d (rows-right p q) is
          where
            or-none : (b : Bool) → (b || false) ≡ b
            or-none true = refl
            or-none false = refl

-- ---- Policies without notes

none-there : (gs : List Grant) (at : Place) (note : Note) → list_any is_note_grant gs ≡ false →
    list_any (λ g. same_place g.place at && has_note note g) gs ≡ false
none-there [] at note e = refl
none-there (g ∷ gs) at note e =
    let both = neither (is_note_grant g) (list_any is_note_grant gs) e in
    ap (λ b. (same_place g.place at && b) || list_any (λ h. same_place h.place at && has_note note h) gs) (lacks (note_in g.atom) both.0)
    ∙ ap (λ b. b || list_any (λ h. same_place h.place at && has_note note h) gs) (and-no (same_place g.place at))
    ∙ none-there gs at note both.1
  where
    neither : (a b : Bool) → (a || b) ≡ false → (a ≡ false) × (b ≡ false)
    neither false b h = (refl, h)
    neither true b h = cc

    lacks : (o : Option Note) → is_some o ≡ false → is_note note o ≡ false
    lacks None e = refl
    lacks (Some n) e = cc

    and-no : (b : Bool) → (b && false) ≡ false
    and-no true = refl
    and-no false = refl

-- where no grant stands for a note, no verdict depends on one
pub none-unnoted : (p : Policy) (v : Verdict) → list_any is_note_grant (grants p) ≡ false → is_unnoted_at p v ≡ true
none-unnoted p v none = by v
  where
    free : (at : Place) → is_unmarked (marks_at p at) ≡ true
    free at =
        ap (λ b. not b && (not (is_noted_at p at Time) && (not (is_noted_at p at Chroot) && not (is_noted_at p at Regex))))
        (none-there (grants p) at Digest none)
        ∙ ap (λ b. not b && (not (is_noted_at p at Chroot) && not (is_noted_at p at Regex))) (none-there (grants p) at Time none)
        ∙ ap (λ b. not b && not (is_noted_at p at Regex)) (none-there (grants p) at Chroot none)
        ∙ ap not (none-there (grants p) at Regex none)

    by : (v : Verdict) → is_unnoted_at p v ≡ true
    by (verdict.Allow at tags) = free at
    by (verdict.Deny at) = free at
    by verdict.NoMatch = refl
    by (verdict.Unknown what) = refl

-- ---- Requests

-- the cases of a request whose verdict depends on nothing
pub settled-request : (p : Policy) (d : KnownRows) (r : Request) → is_unnoted_at p (verdict_of p d r) ≡ true →
    cases_of p d r ≡ settled (said (verdict_of p d r))
unfolding verdict_of
settled-request p d r free = by (question_of d r) free
  where
    by : (o : Result Question What) → is_unnoted_at p (verdict_if_known p o) ≡ true →
        cases_if_known p o ≡ settled (said (verdict_if_known p o))
    by (Err what) free = refl
    by (Ok q) free = settled-verdict p q free

-- so where no grant stands for a note
pub unnoted-request : (p : Policy) (d : KnownRows) (r : Request) → list_any is_note_grant (grants p) ≡ false →
    cases_of p d r ≡ settled (said (verdict_of p d r))
unnoted-request p d r none = settled-request p d r (none-unnoted p (verdict_of p d r) none)

-- the same, by a verdict on it
pub settled-cases : (p : Policy) (d : KnownRows) (r : Request) (v : Verdict) (k : Cases) → v ≡ verdict_of p d r →
    is_unnoted_at p v ≡ true → k ≡ settled (said v) → k ≡ cases_of p d r
settled-cases p d r v k right free is =
    is ∙ ap (λ w. settled (said w)) right
    ∙ sym (settled-request p d r (sym (ap (is_unnoted_at p) right) ∙ free))

pub unnoted-cases : (p : Policy) (d : KnownRows) (r : Request) (v : Verdict) (k : Cases) → v ≡ verdict_of p d r → is_noted p ≡ false →
    k ≡ settled (said v) → k ≡ cases_of p d r
unnoted-cases p d r v k right none is =
    is ∙ ap (λ w. settled (said w)) right ∙ sym (unnoted-request p d r (sym (no-notes (grants p)) ∙ none))

-- ---- Marks

mark-joined : (a b : Marks) (note : Note) → has_mark (joined_marks a b) note ≡ (has_mark a note || has_mark b note)
mark-joined a b Digest = refl
mark-joined a b Time = refl
mark-joined a b Chroot = refl
mark-joined a b Regex = refl

mark-there : (p : Policy) (at : Place) (note : Note) → has_mark (marks_at p at) note ≡ is_noted_at p at note
mark-there p at Digest = refl
mark-there p at Time = refl
mark-there p at Chroot = refl
mark-there p at Regex = refl

-- the marks of one row more
pub marks-more : (p : Policy) (rs : List Ruled) (i : ℕ) (r : Ruled) (a b new : Marks) → i < length rs → r ≡ get_or rs i r →
    new ≡ joined_marks a b → b ≡ marks_at p r.place →
    ((note : Note) → has_mark a note ≡ list_any (λ d. is_noted_at p d.place note) (all_shown (take i rs))) → (note : Note) →
    has_mark new note ≡ list_any (λ d. is_noted_at p d.place note) (all_shown (take (i + 1) rs))
marks-more p rs i r a b new less is joined own so_far note =
    ap (λ m. has_mark m note) joined ∙ mark-joined a b note
    ∙ ap (λ v. v || has_mark b note) (so_far note)
    ∙ ap (λ v. list_any f (all_shown (take i rs)) || v) (ap (λ m. has_mark m note) own ∙ mark-there p r.place note)
    ∙ sym
    (ap (λ (xs : List Ruled). list_any f (all_shown xs)) (take-more rs i r less is)
    ∙ ap (list_any f) (map-append shown (take i rs) (r ∷ []))
    ∙ list_any-append f (all_shown (take i rs)) (shown r ∷ [])
    ∙ ap (λ v. list_any f (all_shown (take i rs)) || v) (or-false (is_noted_at p r.place note)))
  where
    f : Decider → Bool
    f d = is_noted_at p d.place note

    or-false : (v : Bool) → (v || false) ≡ v
    or-false true = refl
    or-false false = refl

pub both-marks : (old new : Policy) (k l : Cases) (a b both : Marks) → both ≡ joined_marks a b →
    ((note : Note) → has_mark a note ≡ bears old k note) → ((note : Note) → has_mark b note ≡ bears new l note) →
    filter (has_mark both) notes ≡ notes_of old new k l
both-marks old new k l a b both joined own other =
    filter-same (has_mark both) (λ note. bears old k note || bears new l note)
    (λ note. ap (λ m. has_mark m note) joined ∙ mark-joined a b note
    ∙ ap (λ v. v || has_mark b note) (own note) ∙ ap (λ v. bears old k note || v) (other note)) notes
  where
    filter-same : (f g : Note → Bool) → ((note : Note) → f note ≡ g note) → (xs : List Note) → filter f xs ≡ filter g xs
    filter-same f g same [] = refl
    filter-same f g same (y ∷ xs) =
        ap (λ v. cond v (y ∷ filter f xs) (filter f xs)) (same y)
        ∙ ap (λ (ys : List Note). cond (g y) (y ∷ ys) ys) (filter-same f g same xs)
