-- The order of levels, and their names.
use Rattle.std.specs.Prelude.{ℕ, Bool, nat_le, if◌then◌else◌, List, codes}
use Rattle.review_roots.specs.declared.level.Level.{Level}
use Rattle.review_roots.specs.declared.level.Level.TheVariants as level

abbrev pub rank : Level → ℕ
rank level.None = 0
rank level.Listed = 1
rank level.AllBut = 2
rank level.All = 3

-- the second level is the first or a better one
abbrev pub is_at_least : Level → Level → Bool
is_at_least l m = nat_le (rank l) (rank m)

-- the lesser of two levels
abbrev pub least : Level → Level → Level
least l m = if is_at_least l m then l else m

-- the better of two levels
abbrev pub best : Level → Level → Level
best l m = if is_at_least l m then m else l

-- the name of a level
abbrev pub level_name : Level → List ℕ
level_name level.None = codes "none"
level_name level.Listed = codes "listed"
level_name level.AllBut = codes "all-but"
level_name level.All = codes "all"
