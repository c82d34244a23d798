-- The laws of a comparison by requests.
use Rattle.std.proofs.Common.{◌≡◌, ◌∙◌, ℕ, Bool, true, false, cond, ◌&&◌, ◌||◌, List, [], ◌∷◌, Option, Some, None, Result, Ok, Err}
use Rattle.std.proofs.Common.{ap, filter, refl, subst, sym}
use Rattle.std.specs.List.{list_any}
use Rattle.audit_collect.specs.declared.arrival.Answer.{Answer}
use Rattle.sudo_grammar.specs.declared.policy.Policy.{Policy}
use Rattle.sudo_match.specs.KnownRows.{KnownRows}
use Rattle.sudo_match.specs.declared.request.Request.{Request}
use Rattle.sudo_match.specs.declared.request.Tags.{Tags}
use Rattle.sudo_match.specs.declared.request.What.{What}
use Rattle.sudo_match.specs.declared.request.Verdict.{Verdict}
use Rattle.sudo_match.specs.declared.request.Verdict.TheVariants.{Allow, Deny, NoMatch, Unknown}
use Rattle.sudo_verdict.specs.Grants.{grants}
use Rattle.sudo_verdict.specs.Questions.{Question, question_of}
use Rattle.sudo_verdict.specs.Verdicts.{verdict_if_known, verdict_of}
use Rattle.review_texts.specs.declared.note.Note.{Note}
use Rattle.review_texts.specs.declared.note.Note.TheVariants.{Digest, Time, Chroot, Regex}
use Rattle.review_texts.specs.Notes.{notes}
use Rattle.review_grants.specs.Depends.{depends_text, is_note_grant}
use Rattle.review_compare.specs.Cases.{Cases, bears, cases_if_known, cases_of, notes_of, same_cases}
use Rattle.review_compare.specs.Cells.{answer_between, change_of, same_said}
use Rattle.review_compare.specs.Compared.{said}
use Rattle.review_compare.specs.declared.answer.Answer.{Answer as Kind}
use Rattle.review_compare.specs.declared.answer.Answer.TheVariants as answer
use Rattle.review_compare.specs.Body.Asked.{settled}
use Rattle.review_compare.proofs.CaseLemmas.{same_cases_say_same}
use Rattle.review_compare.proofs.NoteLemmas.{unborne, unnoted-request, unnoted_cases_hold}
use Rattle.review_grants.specs.Targets.{allowed}
use Rattle.review_program.specs.ChangeLaws.{MayDepends, SaySameTo, UndependingHold, UnlistedSaySame, UnnotedByVerdicts, VerdictHolds}
use Rattle.review_program.specs.Changes.{are_freer, change_between, change_if, change_to, change_unless, other_change, request_depends}
use Rattle.review_program.specs.Changes.{tags_change}
use Rattle.review_program.specs.declared.change.Change.{Change}
use Rattle.review_program.specs.declared.change.Change.TheVariants as change

-- ---- Requests without a record

no-change : (b : Bool) (c : Option Change) → change_unless b c ≡ None → b ≡ true
no-change true c e = refl
no-change false None e = absurd cc
no-change false (Some c) e = absurd cc

pub unlisted_say_same : UnlistedSaySame
unlisted_say_same old new d a none =
    by (question_of d a.request)
    (no-change (same_cases (cases_of old d a.request) (cases_of new d a.request))
    (change_between a.verdict (verdict_of new d a.request)) none)
  where
    by : (o : Result Question What) → same_cases (cases_if_known old o) (cases_if_known new o) ≡ true → SaySameTo old new o
    by (Err what) e = tt
    by (Ok q) e = same_cases_say_same old new q e

-- ---- Where nothing is named

empty-text : (found : List Note) → depends_text found ≡ [] → found ≡ []
empty-text [] e = refl
empty-text (Digest ∷ found) e = absurd cc
empty-text (Time ∷ found) e = absurd cc
empty-text (Chroot ∷ found) e = absurd cc
empty-text (Regex ∷ found) e = absurd cc

filter-none : (f : Note → Bool) (x : Note) (xs : List Note) → filter f (x ∷ xs) ≡ [] → (f x ≡ false) × (filter f xs ≡ [])
filter-none f x xs e = by (f x) refl e
  where
    by : (b : Bool) → f x ≡ b → cond b (x ∷ filter f xs) (filter f xs) ≡ [] → (f x ≡ false) × (filter f xs ≡ [])
    by true is e = absurd cc
    by false is e = (is, e)

none-named : (f : Note → Bool) → depends_text (filter f notes) ≡ [] → (note : Note) → f note ≡ false
none-named f e =
    let one = filter-none f Digest (Time ∷ Chroot ∷ Regex ∷ []) (empty-text (filter f notes) e) in
    let two = filter-none f Time (Chroot ∷ Regex ∷ []) one.1 in
    let three = filter-none f Chroot (Regex ∷ []) two.1 in
    let four = filter-none f Regex [] three.1 in
    by one.0 two.0 three.0 four.0
  where
    by : f Digest ≡ false → f Time ≡ false → f Chroot ≡ false → f Regex ≡ false → (note : Note) → f note ≡ false
    by a b c d Digest = a
    by a b c d Time = b
    by a b c d Chroot = c
    by a b c d Regex = d

neither : (a b : Bool) → (a || b) ≡ false → (a ≡ false) × (b ≡ false)
neither false b e = (refl, e)
neither true b e = absurd cc

module _ (old new : Policy) (d : KnownRows) (r : Request) (none : request_depends old new d r ≡ []) where
  none-borne : (note : Note) → (bears old (cases_of old d r) note ≡ false) × (bears new (cases_of new d r) note ≡ false)
  none-borne note =
      neither (bears old (cases_of old d r) note) (bears new (cases_of new d r) note)
      (none-named (λ n. bears old (cases_of old d r) n || bears new (cases_of new d r) n) none note)

  pub none-old : (note : Note) → bears old (cases_of old d r) note ≡ false
  none-old note = (none-borne note).0

  pub none-new : (note : Note) → bears new (cases_of new d r) note ≡ false
  none-new note = (none-borne note).1

holds : (p : Policy) (o : Result Question What) → ((note : Note) → bears p (cases_if_known p o) note ≡ false) → VerdictHolds p o
holds p (Err what) none = tt
holds p (Ok q) none = unnoted_cases_hold p q none

pub undepending_hold : UndependingHold
undepending_hold old new d r none = (
  holds old (question_of d r) (none-old old new d r none),
  holds new (question_of d r) (none-new old new d r none),
)

-- ---- Changes by notes

not-may : (old new : Verdict) → change_between old new ≡ Some change.May → ⊥
not-may old new e = by (answer_between old new) e
  where
    tags : (a b : Bool) → Some (tags_change a b) ≡ Some change.May → ⊥
    tags true true e = cc
    tags true false e = cc
    tags false true e = cc
    tags false false e = cc

    other : (old new : Verdict) → Some (other_change old new) ≡ Some change.May → ⊥
    other (Allow place t) (Allow at u) e = tags (are_freer t u) (are_freer u t) e
    other (Allow place t) (Deny at) e = cc
    other (Allow place t) NoMatch e = cc
    other (Allow place t) (Unknown what) e = cc
    other (Deny place) new e = cc
    other NoMatch new e = cc
    other (Unknown what) new e = cc

    by : (k : Option Kind) → change_if old new k ≡ Some change.May → ⊥
    by None e = cc
    by (Some answer.Gained) e = cc
    by (Some answer.Lost) e = cc
    by (Some answer.Other) e = other old new e

is-may : (b : Bool) (old new : Verdict) → change_unless b (change_between old new) ≡ Some change.May →
    (b ≡ false) × (change_between old new ≡ None)
is-may b old new e = by b (change_between old new) refl e
  where
    by : (b : Bool) (c : Option Change) → change_between old new ≡ c → change_unless b c ≡ Some change.May →
        (b ≡ false) × (change_between old new ≡ None)
    by b (Some c) is e = absurd (not-may old new (is ∙ e))
    by true None is e = absurd cc
    by false None is e = (refl, is)

said-alike : (old new : Verdict) → change_between old new ≡ None → same_said (said old) (said new) ≡ true
said-alike old new e = by (same_said (said old) (said new)) refl e
  where
    by : (b : Bool) → same_said (said old) (said new) ≡ b →
        change_if old new (cond b None (Some (change_of (allowed old) (allowed new)))) ≡ None → same_said (said old) (said new) ≡ true
    by true is e = is
    by false is e = absurd cc

-- what is said to a request on which no note bears
unborne-request : (p : Policy) (d : KnownRows) (r : Request) → ((note : Note) → bears p (cases_of p d r) note ≡ false) →
    cases_of p d r ≡ settled (said (verdict_of p d r))
unfolding verdict_of
unborne-request p d r none = by (question_of d r) none
  where
    by : (o : Result Question What) → ((note : Note) → bears p (cases_if_known p o) note ≡ false) →
        cases_if_known p o ≡ settled (said (verdict_if_known p o))
    by (Err what) none = refl
    by (Ok q) none = unborne p q none

-- settled cases are compared as their verdicts are
settled-same : (old new : Policy) (d : KnownRows) (a : Answer) → a.verdict ≡ verdict_of old d a.request →
    cases_of old d a.request ≡ settled (said (verdict_of old d a.request)) →
    cases_of new d a.request ≡ settled (said (verdict_of new d a.request)) →
    same_cases (cases_of old d a.request) (cases_of new d a.request)
    ≡ (same_said (said a.verdict) (said (verdict_of new d a.request)) && true)
settled-same old new d a right own other =
    ap (λ (k : Cases). same_cases k (cases_of new d a.request)) own
    ∙ ap (same_cases (settled (said (verdict_of old d a.request)))) other
    ∙ ap (λ (v : Verdict). same_said (said v) (said (verdict_of new d a.request)) && true) (sym right)

pub may_depends : MayDepends
may_depends old new d a right e none =
    let v = verdict_of new d a.request in
    let parts = is-may (same_cases (cases_of old d a.request) (cases_of new d a.request)) a.verdict v e in
    let same : same_cases (cases_of old d a.request) (cases_of new d a.request) ≡ true =
    settled-same old new d a right (unborne-request old d a.request (none-old old new d a.request none))
    (unborne-request new d a.request (none-new old new d a.request none))
    ∙ ap (λ (b : Bool). b && true) (said-alike a.verdict v parts.1) in
    let bad : true ≡ false = sym same ∙ parts.0 in
    cc

-- ---- Without notes

by-verdicts : (old new : Verdict) →
    change_unless (same_said (said old) (said new) && true) (change_between old new) ≡ change_between old new
by-verdicts old new = by (same_said (said old) (said new))
  where
    by : (b : Bool) →
        change_unless (b && true) (change_if old new (cond b None (Some (change_of (allowed old) (allowed new)))))
        ≡ change_if old new (cond b None (Some (change_of (allowed old) (allowed new))))
    by true = refl
    by false = refl

pub unnoted_by_verdicts : UnnotedByVerdicts
unnoted_by_verdicts old new d a none right =
    let both = neither (list_any is_note_grant (grants old)) (list_any is_note_grant (grants new)) none in
    ap (λ (b : Bool). change_unless b (change_between a.verdict (verdict_of new d a.request)))
    (settled-same old new d a right (unnoted-request old d a.request both.0) (unnoted-request new d a.request both.1))
    ∙ by-verdicts a.verdict (verdict_of new d a.request)
