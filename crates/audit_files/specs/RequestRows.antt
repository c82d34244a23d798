-- How far the requests of a file were read, one after another.
use Rattle.std.specs.Prelude.{◌≡◌, ◌≤◌, ◌++◌, ℕ, List, [], None, Some, drop, length}
use Rattle.std.specs.Bool.{MatchBool}
use Rattle.sudo_match.specs.declared.request.Request.{Request}
use Rattle.audit_files.specs.Files.{after_header}
use Rattle.audit_files.specs.Requests.{closes_in, last_number, request_fault, request_limit, requests_header, requests_in}
use Rattle.audit_files.specs.Rows.{Fields, first_fault, records_of}
use Rattle.audit_files.specs.declared.request_rows.RequestRows.{RequestRows}

-- the bytes that are left
abbrev pub bytes_behind : RequestRows → List ℕ
bytes_behind rows = drop rows.at rows.text.items

-- of a text, the records between the header and the bytes that are left were read; they state these
-- requests, without a fault and without a close row
pub record HasReadRecords (rows : RequestRows) (text : List ℕ) (requests : List Request) : Type 0 where
  pub before : List Fields
  pub header : after_header requests_header (records_of text) ≡ Some (before ++ records_of (bytes_behind rows))
  pub faultless : first_fault request_fault [] before ≡ None
  pub stated : requests_in before ≡ requests
  pub open_yet : closes_in before ≡ []
  pub each : length before ≡ length requests
  pub count : rows.count ≡ length requests
  pub few : length requests ≤ request_limit
  pub last : rows.last ≡ last_number requests

-- these requests of a text were read; none where its first row is no header without quotes
abbrev pub HasRead : RequestRows → List ℕ → List Request → Type 0
HasRead rows text requests = MatchBool rows.has_header (HasReadRecords rows text requests) ((rows.text.items ≡ text) × (requests ≡ []))
