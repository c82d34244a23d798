-- Counts that contracts alone see.
use Rattle.std.specs.Prelude.{ℕ, ◌+◌}
use Rattle.audit_files.specs.declared.count.Count.{Count, fold-Count}
use Rattle.audit_files.specs.declared.count.Count.TheOpen.{Count-F, Never, Again}

-- 0, or one more than before
abbrev pub count_value : Count-F ℕ → ℕ
count_value Never = 0
count_value (Again before) = before.value + 1

-- the number of a count
abbrev pub times : Count → ℕ
times = fold-Count ℕ count_value
