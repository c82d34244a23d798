use Rattle.std.proofs.Common.{◌≡◌, ◌++◌, List, ℕ, take}
use Rattle.audit_files.specs.Report.{line}
use Rattle.review_commands.specs.RootRows.{AreHostRows, Each, roots_header, whole}
use Rattle.review_commands.proofs.root_rows.roots_text.Given as goal

-- the header and the records of the hosts so far were written
abbrev pub invariant-loop-host : goal.invariant-loop-host
invariant-loop-host l = (parts : List (List ℕ))
    × Each (AreHostRows l.table.checked.now l.table.directory.now l.table.all) (take l.host-index l.host-items) parts
    × (l.text.items ≡ line roots_header ++ whole parts)
