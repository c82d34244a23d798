use Rattle.std.proofs.Common.{◌≡◌, ◌+◌, List, [], length}
use Rattle.audit_files.specs.Rows.{Fields}
use Rattle.audit_files.specs.Body.Rows.{IsReader, records_left}
use Rattle.audit_files.proofs.Progress.{Reaches}
use Rattle.review_commands.specs.Addresses.{address_fault}
use Rattle.review_commands.specs.Body.AddressRows.{AreOf}
use Rattle.review_commands.proofs.address_rows.addresses_left.Given as goal

-- the records before this one were taken
abbrev pub invariant-loop-row : goal.invariant-loop-row
invariant-loop-row l = IsReader l.rows.reader × ((done : List Fields) × (l.row ≡ length done + 2) × AreOf done l.list.items
    × Reaches address_fault [] (records_left l.fn.rows.reader) done (records_left l.rows.reader))
