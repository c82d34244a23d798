-- What the rows give a user that asks for a target by name, or for a group alone, whatever the command: the level, whether a
-- password is asked, and a row that allows. sudo(8), options -u and -g; sudoers(5), "User Specification" and "Tag_Spec".
use Rattle.std.specs.Prelude.{Bool, false, not, ◌&&◌, ◌||◌, ◌==◌, nat_lt, if◌then◌else◌, List, Option, Some, None, option_map, is_some}
use Rattle.sudo_grammar.specs.declared.policy.Policy.{Policy}
use Rattle.sudo_match.specs.declared.people.Person.{Person}
use Rattle.sudo_match.specs.declared.people.Group.{Group}
use Rattle.sudo_match.specs.declared.people.Machine.{Machine}
use Rattle.sudo_match.specs.KnownRows.{KnownRows}
use Rattle.sudo_verdict.specs.Last.{last_that}
use Rattle.sudo_verdict.specs.Questions.{question_as}
use Rattle.sudo_verdict.specs.RunasForms.{is_same_user}
use Rattle.sudo_verdict.specs.Grants.{Grant}
use Rattle.review_roots.specs.declared.level.Level.TheVariants as level
use Rattle.review_roots.specs.declared.given.Given.{Given}
use Rattle.review_roots.specs.declared.given.AllowingRow.{AllowingRow}
use Rattle.review_grants.specs.Depends.{unmarked}
use Rattle.review_roots.specs.Levels.{denies, level_of, marks_of}
use Rattle.review_grants.specs.Targets.{target_rows}
use Rattle.review_roots.specs.Passwords.{is_free, is_unasked}
use Rattle.review_roots.specs.Ranks.{rank}

-- a row that allows its command
abbrev pub is_allowing : Grant → Bool
is_allowing g = not (denies g)

abbrev pub allowing_row : Grant → AllowingRow
allowing_row g = record { place = g.place; tags = g.tags }

-- what rows give: their level, whether they are free of passwords, whether a command may go unasked, the last one that allows,
-- if any, and which notes that depends on
abbrev pub given_by : Policy → List Grant → Given
given_by p gs = record {
  level = level_of p gs;
  free = is_free p gs;
  unasked = is_unasked p gs;
  by = option_map allowing_row (last_that is_allowing gs);
  marks = marks_of p gs;
}

-- what no row gives
abbrev pub nothing : Given
nothing = record { level = level.None; free = false; unasked = false; by = None; marks = unmarked }

-- what the rows for a target give a user on a host
abbrev pub given_asked : Policy → KnownRows → Person → Machine → Option Person → Option Group → Given
given_asked p d u m t g = given_by p (target_rows p (question_as d u m t g))

-- the second is free of passwords, or lets a command go unasked, where the first does not
abbrev pub is_easier : Given → Given → Bool
is_easier a b = (b.free && not a.free) || (b.unasked && not a.unasked)

-- the second gives a better level, or the same level more easily
abbrev pub is_better : Given → Given → Bool
is_better a b = nat_lt (rank a.level) (rank b.level) || ((rank a.level == rank b.level) && is_easier a b)

abbrev pub better : Given → Given → Given
better a b = if is_better a b then b else a

-- what a user is given who asks for a group alone, and so runs the command as itself
abbrev pub given_alone : Policy → KnownRows → Machine → Person → Person → Option Group → Given
given_alone p d m u v g = if is_same_user v u && is_some g then given_asked p d u m None g else nothing

-- what a user is given on the way to another user with a group, if any: that of asking for both by name, or, where it is
-- the user itself, that of asking for the group alone, if that is better
abbrev pub given_towards : Policy → KnownRows → Machine → Person → Person → Option Group → Given
given_towards p d m u v g = better (given_asked p d u m (Some v) g) (given_alone p d m u v g)
