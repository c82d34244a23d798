-- Worked examples of levels, each by computation.
use Rattle.std.proofs.Common.{◌≡◌, Bool, true, false, List, [], ◌∷◌, refl}
use Rattle.std.specs.Prelude.{fold}
use Rattle.review_roots.specs.declared.level.Level.{Level}
use Rattle.review_roots.specs.declared.level.Level.TheVariants as level
use Rattle.review_grants.specs.declared.marks.Marks.{Marks}
use Rattle.review_grants.specs.Depends.{unmarked}
use Rattle.review_roots.specs.Levels.{after_row, after_signed, marks_after}
use Rattle.review_roots.specs.Ranks.{is_at_least, least}

-- the level of rows, each as whether it is negated and whether it is ALL
abbrev level_of_signs : List (Bool × Bool) → Level
level_of_signs signs = fold (λ l s. after_signed l s.0 s.1) level.None signs

-- ALL, !/bin/su
all_but_one : level_of_signs ((false, true) ∷ (true, false) ∷ []) ≡ level.AllBut
all_but_one = refl

-- /bin/su, !ALL
nothing_left : level_of_signs ((false, false) ∷ (true, true) ∷ []) ≡ level.None
nothing_left = refl

-- ALL, !/bin/su, /bin/ls: su stays denied
still_all_but : level_of_signs ((false, true) ∷ (true, false) ∷ (false, false) ∷ []) ≡ level.AllBut
still_all_but = refl

-- !/bin/su, ALL: what stands behind counts
all_again : level_of_signs ((true, false) ∷ (false, true) ∷ []) ≡ level.All
all_again = refl

-- /bin/su, !/bin/su: a listed command, though none is left
listed_at_most : level_of_signs ((false, false) ∷ (true, false) ∷ []) ≡ level.Listed
listed_at_most = refl

abbrev timed : Marks
timed = record { digest = false; time = true; chroot = false; regex = false }

-- !/bin/su behind ALL, at some times alone: at others every command
denied_at_times : after_row timed level.All true false ≡ level.All
denied_at_times = refl

-- /bin/ls at some times alone
allowed_at_times : after_row timed level.None false false ≡ level.Listed
allowed_at_times = refl

-- ALL at all times: what was before does not count; and /bin/ls, where it does
always_all : marks_after timed unmarked true ≡ unmarked
always_all = refl

always_listed : marks_after timed unmarked false ≡ timed
always_listed = refl

all_is_better : is_at_least level.AllBut level.All ≡ true
all_is_better = refl

listed_is_worse : is_at_least level.AllBut level.Listed ≡ false
listed_is_worse = refl

lesser_of_two : least level.All level.Listed ≡ level.Listed
lesser_of_two = refl
