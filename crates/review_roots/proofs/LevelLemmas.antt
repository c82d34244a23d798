-- What a level says of the last row of which a test holds.
use Rattle.std.proofs.Common.{◌≡◌, ◌∙◌, ℕ, Bool, true, false, not, cond, ◌||◌, List, [], ◌∷◌, Option, Some, None, ap, refl}
use Rattle.std.proofs.Common.{subst, sym}
use Rattle.std.specs.Prelude.{filter, fold, unwrap_or, option_map}
use Rattle.std.specs.Option.{option_or}
use Rattle.sudo_text.specs.declared.line.Place.{Place}
use Rattle.sudo_grammar.specs.declared.policy.Policy.{Policy}
use Rattle.sudo_match.specs.declared.request.Tags.{Tags}
use Rattle.sudo_verdict.specs.Last.{last_that}
use Rattle.sudo_verdict.specs.Values.{is_all}
use Rattle.sudo_verdict.specs.Questions.{Question}
use Rattle.sudo_verdict.specs.Grants.{Grant, grants}
use Rattle.sudo_verdict.specs.Verdicts.{decided_by, verdict_if_any}
use Rattle.review_roots.specs.declared.level.Level.{Level}
use Rattle.review_roots.specs.declared.level.Level.TheVariants as level
use Rattle.review_grants.specs.declared.marks.Marks.{Marks}
use Rattle.review_grants.specs.Depends.{is_note_grant, is_unmarked, joined_marks, marks_at, unmarked}
use Rattle.review_grants.specs.Unnoted.{FailsByNotes}
use Rattle.review_roots.specs.Ranks.{best}
use Rattle.review_roots.specs.Levels.{after_signed, after_marks, after_one, after_row, level_of, lowered, marks_of}
use Rattle.review_roots.specs.Levels.{raised, AllAllowsAll, NoneAllowsNone}
use Rattle.review_grants.specs.Targets.{allowed, target_rows, verdict_where, with_command}
use Rattle.review_roots.proofs.GivenLemmas.{rows_for_target}
use Rattle.review_grants.proofs.NoteTests.{grant_stands, holds-of-all, holds-of-no-note, joined-marked, note-not-all, unheld}
use Rattle.review_grants.proofs.ItemLemmas.{or-false, or-true}

-- ---- A level and the sign of the last row that matches

abbrev pub sign : Grant → Bool
sign g = not g.negated

abbrev pub allows_last : Option Grant → Bool → Bool
allows_last o b = unwrap_or (option_map sign o) b

decided_allowed : (place : Place) (tags : Tags) (n a : Bool) → allowed (decided_by place tags n a) ≡ not n
decided_allowed place tags true a = refl
decided_allowed place tags false a = refl

pub verdict_allowed : (o : Option Grant) → allowed (verdict_if_any o) ≡ allows_last o false
verdict_allowed None = refl
verdict_allowed (Some g) = decided_allowed g.place g.tags g.negated (is_all g.atom)

pub one_more : (o : Option Grant) (e b : Bool) (g : Grant) → allows_last o (cond e (sign g) b)
    ≡ allows_last (option_or o (cond e (Some g) None)) b
one_more (Some h) e b g = refl
one_more None true b g = refl
one_more None false b g = refl

-- what a level and the notes on which it depends say of the answer so far
abbrev pub Says : Level → Marks → Bool → Type 0
Says l m b = (l ≡ level.None → b ≡ false) × (m ≡ unmarked → l ≡ level.All → b ≡ true)

lowered-none : (l : Level) → lowered l ≡ level.None → l ≡ level.None
lowered-none level.None e = refl
lowered-none level.Listed e = cc
lowered-none level.AllBut e = cc
lowered-none level.All e = cc

lowered-not-all : (l : Level) → lowered l ≡ level.All → level.None ≡ level.All
lowered-not-all level.None e = cc
lowered-not-all level.Listed e = cc
lowered-not-all level.AllBut e = cc
lowered-not-all level.All e = cc

raised-not-none : (l : Level) → raised l ≡ level.None → level.None ≡ level.All
raised-not-none level.None e = cc
raised-not-none level.Listed e = cc
raised-not-none level.AllBut e = cc
raised-not-none level.All e = cc

raised-all : (l : Level) → raised l ≡ level.All → l ≡ level.All
raised-all level.None e = cc
raised-all level.Listed e = cc
raised-all level.AllBut e = cc
raised-all level.All e = refl

best-none : (l k : Level) → best l k ≡ level.None → (l ≡ level.None) × (k ≡ level.None)
best-none level.None level.None e = (refl, refl)
best-none level.None level.Listed e = cc
best-none level.None level.AllBut e = cc
best-none level.None level.All e = cc
best-none level.Listed level.None e = cc
best-none level.Listed level.Listed e = cc
best-none level.Listed level.AllBut e = cc
best-none level.Listed level.All e = cc
best-none level.AllBut level.None e = cc
best-none level.AllBut level.Listed e = cc
best-none level.AllBut level.AllBut e = cc
best-none level.AllBut level.All e = cc
best-none level.All level.None e = cc
best-none level.All level.Listed e = cc
best-none level.All level.AllBut e = cc
best-none level.All level.All e = cc

-- a row without notes: whether it is negated, whether it is ALL, and whether the test holds of it
plain-step : (l : Level) (m : Marks) (n a d b : Bool) → (a ≡ true → d ≡ true) → Says l m b
    → Says (after_signed l n a) (cond a unmarked m) (cond d (not n) b)
plain-step l m true true d b every s = (λ e. ap (λ v. cond v false b) (every refl), λ e all. cc)
plain-step l m false true d b every s = (λ e. cc, λ e all. ap (λ v. cond v true b) (every refl))
plain-step l m true false true b every s = (λ e. refl, λ e all. absurd (let bad = lowered-not-all l all in cc))
plain-step l m true false false b every s = (λ e. s.0 (lowered-none l e), λ e all. absurd (let bad = lowered-not-all l all in cc))
plain-step l m false false true b every s = (λ e. absurd (let bad = raised-not-none l e in cc), λ e all. refl)
plain-step l m false false false b every s =
    (λ e. absurd (let bad = raised-not-none l e in cc), λ e all. s.1 e (raised-all l all))

after-none : (l : Level) (n a : Bool) → after_signed l n a ≡ level.None → n ≡ true
after-none l true a e = refl
after-none l false true e = cc
after-none l false false e = absurd (let bad = raised-not-none l e in cc)

-- a row with notes
noted-step : (l : Level) (m own : Marks) (n a d b : Bool) → is_unmarked own ≡ false → Says l m b
    → Says (best l (after_signed l n a)) (joined_marks m own) (cond d (not n) b)
noted-step l m own n a d b noted s = (
  λ e. go d n (after-none l n a (best-none l (after_signed l n a) e).1) (s.0 (best-none l (after_signed l n a) e).0),
  λ e all. absurd (let bad = joined-marked m own noted e in cc),
)
  where
    go : (d n : Bool) → n ≡ true → b ≡ false → cond d (not n) b ≡ false
    go true true e is = refl
    go true false e is = cc
    go false n e is = is

-- a row that stands for a note: the test holds of none
note-step : (l : Level) (m own : Marks) (b : Bool) → Says l m b
    → Says (after_row own l true false) (cond (is_unmarked own) m (joined_marks m own)) b
note-step l m own b s = go (is_unmarked own) refl
  where
    go : (c : Bool) → is_unmarked own ≡ c
        → Says (cond c (lowered l) (best l (lowered l))) (cond c m (joined_marks m own)) b
    go true is = plain-step l m true false false b (λ e. cc) s
    go false is = noted-step l m own true false false b is s

module _ (p : Policy) (q : Question) (c x : List ℕ) (f : Grant → Bool) (fails : FailsByNotes p (with_command q c x) f) where
  -- the notes of the rule of a row
  abbrev own : Grant → Marks
  own g = marks_at p g.place

  -- a row for the target
  step : (g : Grant) (l : Level) (m : Marks) (b : Bool) → grant_stands p q g ≡ true → Says l m b
      → Says (after_one p l g) (after_marks p m g) (cond (f g) (sign g) b)
  step g l m b stands s = go (is_note_grant g) refl
    where
      plain : (k : Bool) → is_unmarked (own g) ≡ k
          → Says (cond k (after_signed l g.negated (is_all g.atom)) (best l (after_signed l g.negated (is_all g.atom))))
          (cond k (cond (is_all g.atom) unmarked m) (joined_marks m (own g))) (cond (f g) (not g.negated) b)
      plain true none =
          plain-step l m g.negated (is_all g.atom) (f g) b (λ all. holds-of-all p q c x f fails g stands all none) s
      plain false some = noted-step l m (own g) g.negated (is_all g.atom) (f g) b some s

      go : (k : Bool) → is_note_grant g ≡ k
          → Says (after_row (own g) l (g.negated || is_note_grant g) (is_all g.atom)) (after_marks p m g) (cond (f g) (sign g) b)
      go false is =
          subst (λ n. Says (after_row (own g) l n (is_all g.atom)) (after_marks p m g) (cond (f g) (sign g) b))
          (sym (ap (λ k. g.negated || k) is ∙ or-false g.negated))
          (plain (is_unmarked (own g)) refl)
      go true is =
          subst (λ n. Says (after_row (own g) l n (is_all g.atom)) (after_marks p m g) (cond (f g) (sign g) b))
          (sym (ap (λ k. g.negated || k) is ∙ or-true g.negated))
          (subst (λ a. Says (after_row (own g) l true a) (cond (is_unmarked (own g)) (cond a unmarked m) (joined_marks m (own g)))
          (cond (f g) (sign g) b)) (sym (note-not-all g.atom is))
          (subst (λ d. Says (after_row (own g) l true false) (cond (is_unmarked (own g)) m (joined_marks m (own g))) (cond d (sign g) b))
          (sym (holds-of-no-note p q c x f fails g is)) (note-step l m (own g) b s)))

  says :
      (gs : List Grant) (l : Level) (m : Marks) (b : Bool) → Says l m b →
      Says (fold (after_one p) l (filter (grant_stands p q) gs)) (fold (after_marks p) m (filter (grant_stands p q) gs))
      (allows_last (last_that f gs) b)
  says [] l m b s = s
  says (g ∷ gs) l m b s =
      go (grant_stands p q g) refl
      (λ stands. says gs (after_one p l g) (after_marks p m g) (cond (f g) (sign g) b) (step g l m b stands s))
      (says gs l m b s)
    where
      go : (k : Bool) → grant_stands p q g ≡ k
          → (grant_stands p q g ≡ true → Says (fold (after_one p) (after_one p l g) (filter (grant_stands p q) gs))
          (fold (after_marks p) (after_marks p m g) (filter (grant_stands p q) gs))
          (allows_last (last_that f gs) (cond (f g) (sign g) b)))
          → Says (fold (after_one p) l (filter (grant_stands p q) gs)) (fold (after_marks p) m (filter (grant_stands p q) gs))
          (allows_last (last_that f gs) b)
          → Says (fold (after_one p) l (cond k (g ∷ filter (grant_stands p q) gs) (filter (grant_stands p q) gs)))
          (fold (after_marks p) m (cond k (g ∷ filter (grant_stands p q) gs) (filter (grant_stands p q) gs)))
          (allows_last (option_or (last_that f gs) (cond (f g) (Some g) None)) b)
      go true is more same =
          subst (Says (fold (after_one p) (after_one p l g) (filter (grant_stands p q) gs))
          (fold (after_marks p) (after_marks p m g) (filter (grant_stands p q) gs)))
          (one_more (last_that f gs) (f g) b g) (more is)
      go false is more same =
          subst (Says (fold (after_one p) l (filter (grant_stands p q) gs)) (fold (after_marks p) m (filter (grant_stands p q) gs)))
          (ap (λ d. allows_last (last_that f gs) (cond d (sign g) b)) (sym (unheld p q c x f fails g is))
          ∙ one_more (last_that f gs) (f g) b g)
          same

  pub level_says : Says (level_of p (target_rows p q)) (marks_of p (target_rows p q)) (allowed (verdict_where p f))
  level_says =
      subst (λ gs. Says (level_of p gs) (marks_of p gs) (allowed (verdict_where p f))) (rows_for_target p q)
      (subst (Says (level_of p (filter (grant_stands p q) (grants p))) (marks_of p (filter (grant_stands p q) (grants p))))
      (sym (verdict_allowed (last_that f (grants p))))
      (says (grants p) level.None unmarked false (λ e. refl, λ e all. cc)))

pub all_allows : AllAllowsAll
all_allows p q level none c x f fails = (level_says p q c x f fails).1 none level

pub none_allows : NoneAllowsNone
none_allows p q level c x f fails = (level_says p q c x f fails).0 level
