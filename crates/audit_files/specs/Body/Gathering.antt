-- The requests that were read so far.
use Rattle.std.specs.Prelude.{◌≡◌, ◌≤◌, ◌++◌, List, length, slice_get, take}
use Rattle.audit_files.specs.Requests.{closes_in, last_number, requests_in}
use Rattle.audit_files.specs.Rows.{Fields}
use Rattle.audit_files.specs.declared.requests.RequestList.{RequestList}

-- the list represents the records but for the first so many requests
pub record HoldsRecords (read : RequestList) (before : List Fields) : Type 0 where
  pub list : take read.earlier (requests_in before) ++ read.list.items ≡ requests_in before
  pub earlier : read.earlier ≤ length (requests_in before)
  pub last : read.last ≡ last_number (requests_in before)
  pub close : read.close ≡ slice_get (closes_in before) 0
