-- How much the rows for a target allow, whatever the command: a fold over their signs and over which of them are ALL.
-- sudoers(5), "User Specification": where several rows match, the last one is used. A note may be met or not: the level is the
-- better of both, an upper bound.
use Rattle.std.specs.Prelude.{◌≡◌, ℕ, Bool, true, false, ◌||◌, if◌then◌else◌, List, fold}
use Rattle.sudo_grammar.specs.declared.policy.Policy.{Policy}
use Rattle.sudo_verdict.specs.Values.{is_all}
use Rattle.sudo_verdict.specs.Questions.{Question}
use Rattle.sudo_verdict.specs.Grants.{Grant}
use Rattle.review_grants.specs.declared.marks.Marks.{Marks}
use Rattle.review_grants.specs.Depends.{is_note_grant, is_unmarked, joined_marks, marks_at, unmarked}
use Rattle.review_grants.specs.Unnoted.{FailsByNotes}
use Rattle.review_grants.specs.Targets.{allowed, target_rows, verdict_where, with_command}
use Rattle.review_roots.specs.declared.level.Level.{Level}
use Rattle.review_roots.specs.declared.level.Level.TheVariants as level
use Rattle.review_roots.specs.Ranks.{best}

-- after a listed command that is denied
abbrev pub lowered : Level → Level
lowered level.All = level.AllBut
lowered level.AllBut = level.AllBut
lowered level.Listed = level.Listed
lowered level.None = level.None

-- after a listed command that is allowed
abbrev pub raised : Level → Level
raised level.None = level.Listed
raised level.Listed = level.Listed
raised level.AllBut = level.AllBut
raised level.All = level.All

-- after a row: whether it is negated, and whether its atom is ALL
abbrev pub after_signed : Level → Bool → Bool → Level
after_signed l true true = level.None
after_signed l true false = lowered l
after_signed l false true = level.All
after_signed l false false = raised l

-- after a row of a rule with these notes
abbrev pub after_row : Marks → Level → Bool → Bool → Level
after_row marks l negated all =
    if is_unmarked marks then after_signed l negated all else best l (after_signed l negated all)

-- the grant denies its command, or stands for a note, and so allows none
abbrev pub denies : Grant → Bool
denies g = g.negated || is_note_grant g

abbrev pub after_one : Policy → Level → Grant → Level
after_one p l g = after_row (marks_at p g.place) l (denies g) (is_all g.atom)

-- the level of the rows, from the first on
abbrev pub level_of : Policy → List Grant → Level
level_of p gs = fold (after_one p) level.None gs

-- what the level depends on after a row with these notes: nothing that was before where the row is ALL and has no note
abbrev pub marks_after : Marks → Marks → Bool → Marks
marks_after before marks all =
    if is_unmarked marks then (if all then unmarked else before) else joined_marks before marks

abbrev pub after_marks : Policy → Marks → Grant → Marks
after_marks p before g = marks_after before (marks_at p g.place) (is_all g.atom)

-- which notes the level of the rows depends on
abbrev pub marks_of : Policy → List Grant → Marks
marks_of p gs = fold (after_marks p) unmarked gs

-- where the level is All and depends on no note, every command is allowed, whichever notes are met
abbrev pub AllAllowsAll : Type 0
AllAllowsAll =
    (p : Policy) (q : Question) → level_of p (target_rows p q) ≡ level.All → marks_of p (target_rows p q) ≡ unmarked →
    (command arguments : List ℕ) (f : Grant → Bool) → FailsByNotes p (with_command q command arguments) f →
    allowed (verdict_where p f) ≡ true

-- where the level is None, no command is allowed, whichever notes are met
abbrev pub NoneAllowsNone : Type 0
NoneAllowsNone =
    (p : Policy) (q : Question) → level_of p (target_rows p q) ≡ level.None →
    (command arguments : List ℕ) (f : Grant → Bool) → FailsByNotes p (with_command q command arguments) f →
    allowed (verdict_where p f) ≡ false
