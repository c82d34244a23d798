use Rattle.std.proofs.Common.{◌≡◌, ◌+◌, List, [], length}
use Rattle.audit_files.specs.Body.Gathering.{HoldsRecords}
use Rattle.audit_files.specs.Requests.{request_fault}
use Rattle.audit_files.specs.Rows.{Fields, records_of}
use Rattle.audit_files.proofs.Progress.{Reaches}
use Rattle.audit_files.proofs.requests.gather_rows.Given as goal

-- the records before this one were taken
abbrev pub invariant-loop-row : goal.invariant-loop-row
invariant-loop-row l = (done : List Fields) × (l.row ≡ length done + 2) × HoldsRecords l.table done
    × (l.table.earlier ≡ l.fn.table.earlier)
    × Reaches request_fault [] (records_of l.text) done (records_of l.rest)
