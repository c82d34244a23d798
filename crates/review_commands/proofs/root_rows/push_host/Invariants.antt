use Rattle.std.proofs.Common.{◌≡◌, ◌++◌, List, ℕ, take}
use Rattle.review_commands.specs.RootRows.{AreTargetRows, Each, whole}
use Rattle.review_commands.proofs.root_rows.push_host.Given as goal

-- the records of the targets so far were appended
abbrev pub invariant-loop-target : goal.invariant-loop-target
invariant-loop-target l = (parts : List (List ℕ))
    × Each (AreTargetRows l.table.checked.now l.table.directory.now l.table.all l.host) (take l.target-index l.targets) parts
    × (l.text.items ≡ l.fn.text.items ++ whole parts)
