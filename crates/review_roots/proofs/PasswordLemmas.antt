-- Where every command is free of a password, the last row that matches is.
use Rattle.std.proofs.Common.{◌≡◌, ◌∙◌, ◌⊎◌, ℕ, Bool, true, false, not, cond, ◌&&◌, ◌||◌, List, [], ◌∷◌, Option, Some, None, refl, sym, ap}
use Rattle.std.proofs.Common.{inl, inr, subst}
use Rattle.std.specs.Prelude.{filter, fold, get_or, unwrap_or, option_map}
use Rattle.std.specs.Option.{option_or}
use Rattle.sudo_text.specs.declared.line.Place.{Place}
use Rattle.sudo_match.specs.declared.request.Tags.{Tags}
use Rattle.sudo_policy.proofs.SurveyLemmas.{option_or-none}
use Rattle.sudo_verdict.specs.Last.{last_that}
use Rattle.sudo_verdict.specs.Values.{is_all}
use Rattle.sudo_verdict.specs.Tagged.{tags_given, tags_named, or_tags, setenv}
use Rattle.sudo_grammar.specs.declared.policy.Policy.{Policy}
use Rattle.sudo_verdict.specs.Questions.{Question}
use Rattle.sudo_verdict.specs.Grants.{Grant, grants}
use Rattle.sudo_verdict.specs.Verdicts.{decided_by, verdict_if_any}
use Rattle.review_grants.specs.declared.marks.Marks.{Marks}
use Rattle.review_grants.specs.Depends.{is_note_grant, is_unmarked, joined_marks, marks_at, unmarked}
use Rattle.review_grants.specs.Unnoted.{FailsByNotes}
use Rattle.review_roots.specs.Ranks.{best}
use Rattle.review_roots.specs.declared.level.Level.{Level}
use Rattle.review_roots.specs.declared.level.Level.TheVariants as level
use Rattle.review_roots.specs.Levels.{after_marks, after_one, after_row, after_signed, denies, marks_of, raised}
use Rattle.review_grants.specs.Targets.{target_rows, verdict_where, with_command}
use Rattle.review_roots.specs.Passwords.{after_free, after_unasked, free_after, free_row, freely_allowed, is_free, is_off, is_unasked}
use Rattle.review_roots.specs.Passwords.{nopasswd, unasked_after, unasked_row}
use Rattle.review_roots.specs.Passwords.{AskedAlways, FreeIsAll, FreeIsUnasked, FreeNeedsNoPassword}
use Rattle.review_roots.proofs.GivenLemmas.{rows_for_target}
use Rattle.review_grants.proofs.NoteTests.{grant_stands, holds-of-all, holds-of-no-note, joined-marked, note-not-all, unheld}
use Rattle.review_grants.proofs.ItemLemmas.{or-false, or-true}

-- SETENV, which ALL adds, is no tag of that pair
setenv_apart : (t : Tags) → nopasswd (or_tags t (tags_named (setenv ∷ []))) ≡ nopasswd t
unfolding tags_named
setenv_apart t = ap is_off (at t.choices)
  where
    at : (cs : List (Option Bool)) → get_or ((or_tags (record { choices = cs }) (tags_named (setenv ∷ []))).choices) 6 None
        ≡ get_or cs 6 None
    at [] = refl
    at (a ∷ []) = refl
    at (a ∷ b ∷ []) = refl
    at (a ∷ b ∷ c ∷ []) = refl
    at (a ∷ b ∷ c ∷ d ∷ []) = refl
    at (a ∷ b ∷ c ∷ d ∷ e ∷ []) = refl
    at (a ∷ b ∷ c ∷ d ∷ e ∷ f ∷ []) = refl
    at (a ∷ b ∷ c ∷ d ∷ e ∷ f ∷ o ∷ cs) = option_or-none o

given_same : (all : Bool) (t : Tags) → nopasswd (tags_given all t) ≡ nopasswd t
given_same true t = setenv_apart t
given_same false t = refl

abbrev freely : Grant → Bool
freely g = cond g.negated false (nopasswd g.tags)

decided_freely : (place : Place) (t : Tags) (n a : Bool) → freely_allowed (decided_by place t n a) ≡ cond n false (nopasswd t)
decided_freely place t true a = refl
decided_freely place t false a = given_same a t

abbrev free_last : Option Grant → Bool → Bool
free_last o b = unwrap_or (option_map freely o) b

verdict_freely : (o : Option Grant) → freely_allowed (verdict_if_any o) ≡ free_last o false
verdict_freely None = refl
verdict_freely (Some g) = decided_freely g.place g.tags g.negated (is_all g.atom)

one_more : (o : Option Grant) (e b : Bool) (g : Grant) → free_last o (cond e (freely g) b)
    ≡ free_last (option_or o (cond e (Some g) None)) b
one_more (Some h) e b g = refl
one_more None true b g = refl
one_more None false b g = refl

step :
    (n w a d free b : Bool) → (a ≡ true → d ≡ true) → (free ≡ true → b ≡ true) →
    cond n false (cond w (a || free) false) ≡ true → cond d (cond n false w) b ≡ true
step true w a d free b every s e = cc
step false false a d free b every s e = cc
step false true true d free b every s e = ap (λ v. cond v true b) (every refl)
step false true false true free b every s e = refl
step false true false false free b every s e = s e

-- the notes of the rule of a row
abbrev own : Policy → Grant → Marks
own p g = marks_at p g.place

-- what is free so far says of the answer so far, where it depends on no note
abbrev SaysFree : Bool → Marks → Bool → Type 0
SaysFree free m b = m ≡ unmarked → free ≡ true → b ≡ true

-- a row without notes that is ALL leaves nothing of what was before
plain-free : (n w a d free b : Bool) (m : Marks) → (a ≡ true → d ≡ true) → SaysFree free m b
    → SaysFree (cond n false (cond w (a || free) false)) (cond a unmarked m) (cond d (cond n false w) b)
plain-free true w a d free b m every s none e = cc
plain-free false false a d free b m every s none e = cc
plain-free false true true d free b m every s none e = ap (λ v. cond v true b) (every refl)
plain-free false true false true free b m every s none e = refl
plain-free false true false false free b m every s none e = s none e

module _ (p : Policy) (q : Question) (c x : List ℕ) (f : Grant → Bool) (fails : FailsByNotes p (with_command q c x) f) where
  free-step : (g : Grant) (free : Bool) (m : Marks) (b : Bool) → grant_stands p q g ≡ true → SaysFree free m b
      → SaysFree (after_free p free g) (after_marks p m g) (cond (f g) (freely g) b)
  free-step g free m b stands s = go (is_note_grant g) refl
    where
      plain : (k : Bool) → is_unmarked (own p g) ≡ k
          → SaysFree (cond k (free_after free g.negated g.tags (is_all g.atom)) (free || free_after free g.negated g.tags (is_all g.atom)))
          (cond k (cond (is_all g.atom) unmarked m) (joined_marks m (own p g))) (cond (f g) (freely g) b)
      plain true none =
          plain-free g.negated (nopasswd g.tags) (is_all g.atom) (f g) free b m
          (λ all. holds-of-all p q c x f fails g stands all none) s
      plain false some = λ none e. absurd (let bad = joined-marked m (own p g) some none in cc)

      note : (k : Bool) → is_unmarked (own p g) ≡ k → SaysFree (cond k false (free || false)) (cond k m (joined_marks m (own p g))) b
      note true none = λ none e. cc
      note false some = λ none e. absurd (let bad = joined-marked m (own p g) some none in cc)

      go : (k : Bool) → is_note_grant g ≡ k
          → SaysFree (free_row (own p g) free (g.negated || is_note_grant g) g.tags (is_all g.atom)) (after_marks p m g)
          (cond (f g) (freely g) b)
      go false is =
          subst (λ n. SaysFree (free_row (own p g) free n g.tags (is_all g.atom)) (after_marks p m g) (cond (f g) (freely g) b))
          (sym (ap (λ k. g.negated || k) is ∙ or-false g.negated)) (plain (is_unmarked (own p g)) refl)
      go true is =
          subst (λ n. SaysFree (free_row (own p g) free n g.tags (is_all g.atom)) (after_marks p m g) (cond (f g) (freely g) b))
          (sym (ap (λ k. g.negated || k) is ∙ or-true g.negated))
          (subst (λ a. SaysFree (free_row (own p g) free true g.tags a)
          (cond (is_unmarked (own p g)) (cond a unmarked m) (joined_marks m (own p g)))
          (cond (f g) (freely g) b)) (sym (note-not-all g.atom is))
          (subst (λ d. SaysFree (free_row (own p g) free true g.tags false) (cond (is_unmarked (own p g)) m (joined_marks m (own p g)))
          (cond d (freely g) b))
          (sym (holds-of-no-note p q c x f fails g is)) (note (is_unmarked (own p g)) refl)))

  free-says :
      (gs : List Grant) (free : Bool) (m : Marks) (b : Bool) → SaysFree free m b →
      SaysFree (fold (after_free p) free (filter (grant_stands p q) gs)) (fold (after_marks p) m (filter (grant_stands p q) gs))
      (free_last (last_that f gs) b)
  free-says [] free m b s = s
  free-says (g ∷ gs) free m b s =
      go (grant_stands p q g) refl
      (λ stands. free-says gs (after_free p free g) (after_marks p m g) (cond (f g) (freely g) b) (free-step g free m b stands s))
      (free-says gs free m b s)
    where
      go : (k : Bool) → grant_stands p q g ≡ k
          → (grant_stands p q g ≡ true → SaysFree (fold (after_free p) (after_free p free g) (filter (grant_stands p q) gs))
          (fold (after_marks p) (after_marks p m g) (filter (grant_stands p q) gs))
          (free_last (last_that f gs) (cond (f g) (freely g) b)))
          → SaysFree (fold (after_free p) free (filter (grant_stands p q) gs)) (fold (after_marks p) m (filter (grant_stands p q) gs))
          (free_last (last_that f gs) b)
          → SaysFree (fold (after_free p) free (cond k (g ∷ filter (grant_stands p q) gs) (filter (grant_stands p q) gs)))
          (fold (after_marks p) m (cond k (g ∷ filter (grant_stands p q) gs) (filter (grant_stands p q) gs)))
          (free_last (option_or (last_that f gs) (cond (f g) (Some g) None)) b)
      go true is more same =
          subst (SaysFree (fold (after_free p) (after_free p free g) (filter (grant_stands p q) gs))
          (fold (after_marks p) (after_marks p m g) (filter (grant_stands p q) gs)))
          (one_more (last_that f gs) (f g) b g) (more is)
      go false is more same =
          subst (SaysFree (fold (after_free p) free (filter (grant_stands p q) gs)) (fold (after_marks p) m (filter (grant_stands p q) gs)))
          (ap (λ d. free_last (last_that f gs) (cond d (freely g) b)) (sym (unheld p q c x f fails g is))
          ∙ one_more (last_that f gs) (f g) b g)
          same

  pub free_says : SaysFree (is_free p (target_rows p q)) (marks_of p (target_rows p q)) (freely_allowed (verdict_where p f))
  free_says =
      subst (λ gs. SaysFree (is_free p gs) (marks_of p gs) (freely_allowed (verdict_where p f))) (rows_for_target p q)
      (subst (SaysFree (is_free p (filter (grant_stands p q) (grants p))) (marks_of p (filter (grant_stands p q) (grants p))))
      (sym (verdict_freely (last_that f (grants p))))
      (free-says (grants p) false unmarked false (λ none e. e)))

pub free_needs_none : FreeNeedsNoPassword
free_needs_none p q free none c x f fails = free_says p q c x f fails none free

-- ---- Rows without passwords have the level All

level_step :
    (n w a free : Bool) (l : Level) → (free ≡ true → l ≡ level.All) → cond n false (cond w (a || free) false) ≡ true → after_signed l n a
    ≡ level.All
level_step true w a free l so_far e = cc
level_step false false a free l so_far e = cc
level_step false true true free l so_far e = refl
level_step false true false free l so_far e = ap raised (so_far e)

best-all : (l k : Level) → (l ≡ level.All) ⊎ (k ≡ level.All) → best l k ≡ level.All
best-all level.All level.None e = refl
best-all level.All level.Listed e = refl
best-all level.All level.AllBut e = refl
best-all level.None level.All e = refl
best-all level.Listed level.All e = refl
best-all level.AllBut level.All e = refl
best-all level.All level.All e = refl
best-all level.None level.None (inl e) = e
best-all level.None level.None (inr e) = e
best-all level.None level.Listed (inl e) = cc
best-all level.None level.Listed (inr e) = cc
best-all level.None level.AllBut (inl e) = cc
best-all level.None level.AllBut (inr e) = cc
best-all level.Listed level.None (inl e) = cc
best-all level.Listed level.None (inr e) = cc
best-all level.Listed level.Listed (inl e) = e
best-all level.Listed level.Listed (inr e) = e
best-all level.Listed level.AllBut (inl e) = cc
best-all level.Listed level.AllBut (inr e) = cc
best-all level.AllBut level.None (inl e) = cc
best-all level.AllBut level.None (inr e) = cc
best-all level.AllBut level.Listed (inl e) = cc
best-all level.AllBut level.Listed (inr e) = cc
best-all level.AllBut level.AllBut (inl e) = e
best-all level.AllBut level.AllBut (inr e) = e

-- a row with these notes
all-step :
    (marks : Marks) (n a free : Bool) (t : Tags) (l : Level) → (free ≡ true → l ≡ level.All) → free_row marks free n t a ≡ true →
    after_row marks l n a ≡ level.All
all-step marks n a free t l so_far = go (is_unmarked marks)
  where
    either : (b : Bool) → free ≡ b → (b || free_after free n t a) ≡ true → best l (after_signed l n a) ≡ level.All
    either true is e = best-all l (after_signed l n a) (inl (so_far is))
    either false is e = best-all l (after_signed l n a) (inr (level_step n (nopasswd t) a free l so_far e))

    go : (k : Bool) → cond k (free_after free n t a) (free || free_after free n t a) ≡ true
        → cond k (after_signed l n a) (best l (after_signed l n a)) ≡ level.All
    go true e = level_step n (nopasswd t) a free l so_far e
    go false e = either free refl e

all_along :
    (p : Policy) (gs : List Grant) (l : Level) (free : Bool) → (free ≡ true → l ≡ level.All) → fold (after_free p) free gs ≡ true →
    fold (after_one p) l gs ≡ level.All
all_along p [] l free so_far e = so_far e
all_along p (g ∷ gs) l free so_far e =
    all_along p gs (after_one p l g) (after_free p free g)
    (all-step (marks_at p g.place) (denies g) (is_all g.atom) free g.tags l so_far) e

pub free_is_all : FreeIsAll
free_is_all p gs e = all_along p gs level.None false (λ f. cc) e

-- ---- Where rows let no command go unasked, the last row that matches asks for a password

asked_step :
    (n w a d unasked b : Bool) → (a ≡ true → d ≡ true) → (unasked ≡ false → b ≡ false) →
    cond a (not n && w) (cond n unasked (w || unasked)) ≡ false → cond d (cond n false w) b ≡ false
asked_step true w true d unasked b every s e = ap (λ v. cond v false b) (every refl)
asked_step true w false true unasked b every s e = refl
asked_step true w false false unasked b every s e = s e
asked_step false w true d unasked b every s e = ap (λ v. cond v w b) (every refl) ∙ e
asked_step false true false d unasked b every s e = cc
asked_step false false false true unasked b every s e = refl
asked_step false false false false unasked b every s e = s e

-- the same of a row with notes
noted_asked :
    (n w a d unasked b : Bool) → (unasked ≡ false → b ≡ false) →
    (unasked || cond a (not n && w) (cond n unasked (w || unasked))) ≡ false → cond d (cond n false w) b ≡ false
noted_asked n w a d true b s e = cc
noted_asked true w a true false b s e = refl
noted_asked n w a false false b s e = s refl
noted_asked false w true true false b s e = e
noted_asked false true false true false b s e = cc
noted_asked false false false true false b s e = refl

module _ (p : Policy) (q : Question) (c x : List ℕ) (f : Grant → Bool) (fails : FailsByNotes p (with_command q c x) f) where
  unasked-step : (g : Grant) (unasked b : Bool) → grant_stands p q g ≡ true → (unasked ≡ false → b ≡ false)
      → after_unasked p unasked g ≡ false → cond (f g) (freely g) b ≡ false
  unasked-step g unasked b stands s = go (is_note_grant g) refl
    where
      plain : (k : Bool) → is_unmarked (own p g) ≡ k
          → cond k (unasked_after unasked g.negated g.tags (is_all g.atom))
          (unasked || unasked_after unasked g.negated g.tags (is_all g.atom))
          ≡ false → cond (f g) (freely g) b ≡ false
      plain true none e =
          asked_step g.negated (nopasswd g.tags) (is_all g.atom) (f g) unasked b
          (λ all. holds-of-all p q c x f fails g stands all none) s e
      plain false some e = noted_asked g.negated (nopasswd g.tags) (is_all g.atom) (f g) unasked b s e

      note : (k : Bool) → cond k unasked (unasked || unasked) ≡ false → b ≡ false
      note true e = s e
      note false e = s (both unasked e)
        where
          both : (o : Bool) → (o || o) ≡ false → o ≡ false
          both true h = cc
          both false h = refl

      go : (k : Bool) → is_note_grant g ≡ k
          → unasked_row (own p g) unasked (g.negated || is_note_grant g) g.tags (is_all g.atom) ≡ false → cond (f g) (freely g) b ≡ false
      go false is e =
          plain (is_unmarked (own p g)) refl
          (ap (λ n. unasked_row (own p g) unasked n g.tags (is_all g.atom)) (sym (ap (λ k. g.negated || k) is ∙ or-false g.negated)) ∙ e)
      go true is e =
          ap (λ d. cond d (freely g) b) (holds-of-no-note p q c x f fails g is)
          ∙ note (is_unmarked (own p g))
          (ap (λ a. unasked_row (own p g) unasked true g.tags a) (sym (note-not-all g.atom is))
          ∙ ap (λ n. unasked_row (own p g) unasked n g.tags (is_all g.atom)) (sym (ap (λ k. g.negated || k) is ∙ or-true g.negated)) ∙ e)

  asked-says :
      (gs : List Grant) (unasked b : Bool) → (unasked ≡ false → b ≡ false) →
      fold (after_unasked p) unasked (filter (grant_stands p q) gs) ≡ false → free_last (last_that f gs) b ≡ false
  asked-says [] unasked b s e = s e
  asked-says (g ∷ gs) unasked b s e =
      go (grant_stands p q g) refl
      (λ stands. asked-says gs (after_unasked p unasked g) (cond (f g) (freely g) b) (unasked-step g unasked b stands s))
      (asked-says gs unasked b s) e
    where
      go : (k : Bool) → grant_stands p q g ≡ k
          → (grant_stands p q g ≡ true → fold (after_unasked p) (after_unasked p unasked g) (filter (grant_stands p q) gs) ≡ false
          → free_last (last_that f gs) (cond (f g) (freely g) b) ≡ false)
          → (fold (after_unasked p) unasked (filter (grant_stands p q) gs) ≡ false → free_last (last_that f gs) b ≡ false)
          → fold (after_unasked p) unasked (cond k (g ∷ filter (grant_stands p q) gs) (filter (grant_stands p q) gs)) ≡ false
          → free_last (option_or (last_that f gs) (cond (f g) (Some g) None)) b ≡ false
      go true is more same e = sym (one_more (last_that f gs) (f g) b g) ∙ more is e
      go false is more same e =
          sym (one_more (last_that f gs) (f g) b g)
          ∙ ap (λ d. free_last (last_that f gs) (cond d (freely g) b)) (unheld p q c x f fails g is)
          ∙ same e

pub asked_always : AskedAlways
asked_always p q none c x f fails =
    ap freely_allowed refl ∙ verdict_freely (last_that f (grants p))
    ∙ asked-says p q c x f fails (grants p) false false (λ h. h)
    (ap (is_unasked p) (rows_for_target p q) ∙ none)

-- ---- Rows that are free of passwords let a command go unasked

unasked_step :
    (n w a free unasked : Bool) → cond n false (cond w (a || free) false) ≡ true →
    cond a (not n && w) (cond n unasked (w || unasked)) ≡ true
unasked_step true w a free unasked e = cc
unasked_step false false a free unasked e = cc
unasked_step false true true free unasked e = refl
unasked_step false true false free unasked e = refl

-- a row with these notes
unasked-row :
    (marks : Marks) (n a free unasked : Bool) (t : Tags) → (free ≡ true → unasked ≡ true) → free_row marks free n t a ≡ true →
    unasked_row marks unasked n t a ≡ true
unasked-row marks n a free unasked t so_far = go (is_unmarked marks)
  where
    or-right : (o b : Bool) → b ≡ true → (o || b) ≡ true
    or-right true b e = refl
    or-right false b e = e

    either : (b : Bool) → free ≡ b → (b || free_after free n t a) ≡ true → (unasked || unasked_after unasked n t a) ≡ true
    either true is e = ap (λ o. o || unasked_after unasked n t a) (so_far is)
    either false is e = or-right unasked (unasked_after unasked n t a) (unasked_step n (nopasswd t) a free unasked e)

    go : (k : Bool) → cond k (free_after free n t a) (free || free_after free n t a) ≡ true
        → cond k (unasked_after unasked n t a) (unasked || unasked_after unasked n t a) ≡ true
    go true e = unasked_step n (nopasswd t) a free unasked e
    go false e = either free refl e

unasked_along :
    (p : Policy) (gs : List Grant) (free unasked : Bool) → (free ≡ true → unasked ≡ true) → fold (after_free p) free gs ≡ true →
    fold (after_unasked p) unasked gs ≡ true
unasked_along p [] free unasked so_far e = so_far e
unasked_along p (g ∷ gs) free unasked so_far e =
    unasked_along p gs (after_free p free g) (after_unasked p unasked g)
    (unasked-row (marks_at p g.place) (denies g) (is_all g.atom) free unasked g.tags so_far) e

pub free_is_unasked : FreeIsUnasked
free_is_unasked p gs e = unasked_along p gs false false (λ f. f) e
