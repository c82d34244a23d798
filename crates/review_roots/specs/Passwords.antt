-- When every command is allowed without a password: NOPASSWD ALL stands, and no row behind it is denied or lacks NOPASSWD. And
-- when a command may be: a row with NOPASSWD allows it, and no row behind it is for ALL and is denied or lacks NOPASSWD.
-- sudoers(5), "Tag_Spec", NOPASSWD and PASSWD. A note may be met or not: both are upper bounds, which hold if either case has them.
use Rattle.std.specs.Prelude.{◌≡◌, ℕ, Bool, true, false, not, ◌&&◌, ◌||◌, if◌then◌else◌, List, Option, Some, None, fold, get_or}
use Rattle.sudo_grammar.specs.declared.policy.Policy.{Policy}
use Rattle.sudo_match.specs.declared.request.Tags.{Tags}
use Rattle.sudo_match.specs.declared.request.Verdict.{Verdict}
use Rattle.sudo_match.specs.declared.request.Verdict.TheVariants.{Allow}
use Rattle.sudo_verdict.specs.Values.{is_all}
use Rattle.sudo_verdict.specs.Questions.{Question}
use Rattle.sudo_verdict.specs.Grants.{Grant}
use Rattle.review_grants.specs.declared.marks.Marks.{Marks}
use Rattle.review_grants.specs.Depends.{is_unmarked, marks_at, unmarked}
use Rattle.review_grants.specs.Unnoted.{FailsByNotes}
use Rattle.review_roots.specs.declared.level.Level.TheVariants as level
use Rattle.review_roots.specs.Levels.{denies, level_of, marks_of}
use Rattle.review_grants.specs.Targets.{target_rows, verdict_where, with_command}

abbrev pub is_off : Option Bool → Bool
is_off (Some false) = true
is_off _ = false

-- the tag NOPASSWD: the pair PASSWD has place 6 among the pairs
abbrev pub nopasswd : Tags → Bool
nopasswd t = is_off (get_or t.choices 6 None)

-- after a row: whether every command is allowed without a password
abbrev pub free_after : Bool → Bool → Tags → Bool → Bool
free_after free negated tags all = if negated then false else (if nopasswd tags then all || free else false)

-- after a row of a rule with these notes
abbrev pub free_row : Marks → Bool → Bool → Tags → Bool → Bool
free_row marks free negated tags all =
    if is_unmarked marks then free_after free negated tags all else free || free_after free negated tags all

abbrev pub after_free : Policy → Bool → Grant → Bool
after_free p free g = free_row (marks_at p g.place) free (denies g) g.tags (is_all g.atom)

abbrev pub is_free : Policy → List Grant → Bool
is_free p gs = fold (after_free p) false gs

-- after a row: whether a command may be allowed without a password
abbrev pub unasked_after : Bool → Bool → Tags → Bool → Bool
unasked_after unasked negated tags all =
    if all then not negated && nopasswd tags else (if negated then unasked else nopasswd tags || unasked)

-- after a row of a rule with these notes
abbrev pub unasked_row : Marks → Bool → Bool → Tags → Bool → Bool
unasked_row marks unasked negated tags all =
    if is_unmarked marks then unasked_after unasked negated tags all else unasked || unasked_after unasked negated tags all

abbrev pub after_unasked : Policy → Bool → Grant → Bool
after_unasked p unasked g = unasked_row (marks_at p g.place) unasked (denies g) g.tags (is_all g.atom)

abbrev pub is_unasked : Policy → List Grant → Bool
is_unasked p gs = fold (after_unasked p) false gs

-- the verdict allows without a password, as far as tags say
abbrev pub freely_allowed : Verdict → Bool
freely_allowed (Allow place tags) = nopasswd tags
freely_allowed _ = false

-- rows that are free of passwords and depend on no note allow every command without one, whichever notes are met
abbrev pub FreeNeedsNoPassword : Type 0
FreeNeedsNoPassword =
    (p : Policy) (q : Question) → is_free p (target_rows p q) ≡ true → marks_of p (target_rows p q) ≡ unmarked →
    (command arguments : List ℕ) (f : Grant → Bool) → FailsByNotes p (with_command q command arguments) f →
    freely_allowed (verdict_where p f) ≡ true

-- where the rows for a target let no command go unasked, each allowed command asks for a password, whichever notes are met
abbrev pub AskedAlways : Type 0
AskedAlways =
    (p : Policy) (q : Question) → is_unasked p (target_rows p q) ≡ false →
    (command arguments : List ℕ) (f : Grant → Bool) → FailsByNotes p (with_command q command arguments) f →
    freely_allowed (verdict_where p f) ≡ false

-- rows that are free of passwords let a command go unasked
abbrev pub FreeIsUnasked : Type 0
FreeIsUnasked = (p : Policy) (gs : List Grant) → is_free p gs ≡ true → is_unasked p gs ≡ true

-- rows that are free of passwords have the level All
abbrev pub FreeIsAll : Type 0
FreeIsAll = (p : Policy) (gs : List Grant) → is_free p gs ≡ true → level_of p gs ≡ level.All
