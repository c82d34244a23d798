-- What rows of the same tags make of what was given before them; only proofs of bodies need these definitions.
use Rattle.std.specs.Prelude.{Bool, true, false, not, ◌&&◌, if◌then◌else◌, List, [], ◌∷◌, fold}
use Rattle.std.specs.List.{list_any}
use Rattle.sudo_match.specs.declared.request.Tags.{Tags}
use Rattle.review_roots.specs.declared.block.Sign.{Sign}
use Rattle.review_roots.specs.declared.effect.Effect.{Effect}
use Rattle.review_roots.specs.declared.level.Level.{Level}
use Rattle.review_roots.specs.declared.level.Level.TheVariants as level
use Rattle.review_grants.specs.declared.marks.Marks.{Marks}
use Rattle.review_grants.specs.Depends.{is_unmarked, joined_marks, unmarked}
use Rattle.review_roots.specs.Levels.{after_row, marks_after}
use Rattle.review_roots.specs.Passwords.{free_row, unasked_row}

-- the level behind rows of these notes and signs
abbrev pub level_behind : Marks → Level → List Sign → Level
level_behind marks l signs = fold (λ l s. after_row marks l s.negated s.all) l signs

-- whether every command is allowed without a password behind rows of these notes, tags and signs
abbrev pub free_behind : Marks → Tags → Bool → List Sign → Bool
free_behind marks tags free signs = fold (λ f s. free_row marks f s.negated tags s.all) free signs

-- whether a command may be allowed without a password behind rows of these notes, tags and signs
abbrev pub unasked_behind : Marks → Tags → Bool → List Sign → Bool
unasked_behind marks tags unasked signs = fold (λ o s. unasked_row marks o s.negated tags s.all) unasked signs

-- which notes it depends on behind rows of these notes and signs
abbrev pub marks_behind : Marks → Marks → List Sign → Marks
marks_behind marks before signs = fold (λ m s. marks_after m marks s.all) before signs

-- a row of these signs allows
abbrev pub allows_one : List Sign → Bool
allows_one signs = list_any (λ s. not s.negated) signs

-- a row of these signs is ALL
abbrev pub has_all : List Sign → Bool
has_all signs = list_any (λ s. s.all) signs

-- the rows have no note, and one is ALL
abbrev pub clears : Marks → List Sign → Bool
clears marks signs = is_unmarked marks && has_all signs

-- the notes of rows, if there are any rows
abbrev pub own_marks : Marks → List Sign → Marks
own_marks marks [] = unmarked
own_marks marks (s ∷ signs) = marks

abbrev pub effect_of : Marks → Tags → List Sign → Effect
effect_of marks tags signs = record {
  none = level_behind marks level.None signs;
  listed = level_behind marks level.Listed signs;
  all_but = level_behind marks level.AllBut signs;
  all = level_behind marks level.All signs;
  newly_free = free_behind marks tags false signs;
  free = free_behind marks tags true signs;
  newly_unasked = unasked_behind marks tags false signs;
  unasked = unasked_behind marks tags true signs;
  allows = allows_one signs;
  clears = clears marks signs;
  marks = own_marks marks signs;
}

-- the level behind the rows, from the one before them
abbrev pub level_by : Effect → Level → Level
level_by e level.None = e.none
level_by e level.Listed = e.listed
level_by e level.AllBut = e.all_but
level_by e level.All = e.all

abbrev pub free_by : Effect → Bool → Bool
free_by e free = if free then e.free else e.newly_free

abbrev pub unasked_by : Effect → Bool → Bool
unasked_by e unasked = if unasked then e.unasked else e.newly_unasked

abbrev pub marks_by : Effect → Marks → Marks
marks_by e before = if e.clears then unmarked else joined_marks before e.marks
