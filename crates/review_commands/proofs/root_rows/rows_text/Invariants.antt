use Rattle.std.proofs.Common.{◌≡◌, flat_map, take}
use Rattle.audit_files.specs.Report.{line}
use Rattle.review_commands.specs.RootRows.{root_fields}
use Rattle.review_commands.proofs.root_rows.rows_text.Given as goal

-- the records so far were written
abbrev pub invariant-loop-root : goal.invariant-loop-root
invariant-loop-root l = l.text.items ≡ flat_map (λ r. line (root_fields l.table.checked.now l.table.directory.now l.table.groups.now
    l.host l.target r)) (take l.root-index l.roots)
