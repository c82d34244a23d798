-- The content of a requests file.
use Rattle.std.specs.Prelude.{⊤, ◌<◌, ℕ, suc, Bool, false, not, List, [], ◌∷◌, ◌+◌, ◌-◌, ◌==◌, ◌&&◌, ◌||◌, nat_le}
use Rattle.std.specs.Prelude.{bytes_eq, length, codes, filter_map, slice_get, is_some, Option, Some, None, Result}
use Rattle.std.specs.Prelude.{option_map, if◌then◌else◌}
use Rattle.std.specs.Option.{option_map_or}
use Rattle.sudo_match.specs.declared.request.Request.{Request}
use Rattle.audit_files.specs.Files.{value_in_file}
use Rattle.audit_files.specs.Numerals.{numeral_value}
use Rattle.sudo_match.specs.Matching.{is_empty}
use Rattle.audit_files.specs.Rows.{Fields, records_of}
use Rattle.audit_files.specs.declared.fault.FileFault.{FileFault}
use Rattle.audit_files.specs.declared.fault.FileFault.TheVariants.{BadRow, OutOfOrder, RowAfterClose, TooMany}
use Rattle.audit_files.specs.declared.requests.Requests.{Requests}

-- the header of a requests file
abbrev pub requests_header : Fields
requests_header = codes "number" ∷ codes "user" ∷ codes "host" ∷ codes "runas_user" ∷ codes "runas_group"
    ∷ codes "command" ∷ codes "arguments" ∷ []

-- the target that a field asks for: none if it is empty
abbrev pub asked_for : List ℕ → Option (List ℕ)
asked_for [] = None
asked_for (b ∷ rest) = Some (b ∷ rest)

-- a number other than 0
abbrev pub positive : Option ℕ → Option ℕ
positive (Some (suc n)) = Some (suc n)
positive _ = None

-- `sudoedit`, or a path from the root
abbrev pub is_command : List ℕ → Bool
is_command [] = false
is_command (b ∷ rest) = (b == 47) || bytes_eq (b ∷ rest) (codes "sudoedit")

-- the number of a request: from 1, beside a user, a host and a command
abbrev pub asked_number : List ℕ → List ℕ → List ℕ → List ℕ → Option ℕ
asked_number number user host command =
    if not (is_empty user) && (not (is_empty host) && is_command command) then positive (numeral_value number) else None

-- the request that these fields state
abbrev pub request_of : Fields → Option Request
request_of (number ∷ user ∷ host ∷ runas_user ∷ runas_group ∷ command ∷ arguments ∷ []) =
    option_map (λ n. record {
      number = n;
      user = user;
      host = host;
      runas_user = asked_for runas_user;
      runas_group = asked_for runas_group;
      command = command;
      arguments = arguments;
    }) (asked_number number user host command)
request_of _ = None

-- the count of a close row: the word, the count and five empty fields
abbrev pub close_of : Fields → Option ℕ
close_of (word ∷ count ∷ host ∷ runas_user ∷ runas_group ∷ command ∷ arguments ∷ []) =
    if bytes_eq word (codes "close")
    && (is_empty host && (is_empty runas_user && (is_empty runas_group && (is_empty command && is_empty arguments))))
    then numeral_value count
    else None
close_of _ = None

-- the requests of some records, and the counts of their close rows
abbrev pub requests_in : List Fields → List Request
requests_in all = filter_map request_of all

abbrev pub closes_in : List Fields → List ℕ
closes_in all = filter_map close_of all

-- the number of the last request, 0 if there is none
abbrev pub last_number : List Request → ℕ
last_number requests = option_map_or (λ r. r.number) (slice_get requests (length requests - 1)) 0

-- the most requests that a file may have
abbrev pub request_limit : ℕ
request_limit = 1000000

-- the fault of a number after these requests: `OutOfOrder` if it is not greater than the last one,
-- `TooMany` if the list is full
abbrev pub order_fault : ℕ → List Request → ℕ → Option FileFault
order_fault row before number =
    if nat_le number (last_number before) then Some (OutOfOrder row)
    else if nat_le request_limit (length before) then Some TooMany
    else None

-- the fault of a record of seven fields that follows no close row
abbrev pub shape_fault : ℕ → List Request → Option Request → Option ℕ → Option FileFault
shape_fault row before (Some r) close = order_fault row before r.number
shape_fault row before None (Some count) = None
shape_fault row before None None = Some (BadRow row)

-- the fault of a record after these, in this order: its number of fields, a close row before it,
-- its shape, its number
abbrev pub request_fault : List Fields → Fields → Option FileFault
request_fault before fields =
    let row = length before + 2 in
    if not (length fields == 7) then Some (BadRow row)
    else if is_some (slice_get (closes_in before) 0) then Some (RowAfterClose row)
    else shape_fault row (requests_in before) (request_of fields) (close_of fields)

-- the requests of some records, and the count of their close row, if they have one
abbrev pub requests_of : List Fields → Requests
requests_of all = record { list = requests_in all; close = slice_get (closes_in all) 0 }

-- the content of a requests file, from its bytes, or its first fault
abbrev pub requests_of_file : List ℕ → Result Requests FileFault
requests_of_file text = value_in_file requests_header request_fault requests_of (records_of text)

-- the numbers of the requests rise, from above this one on
abbrev pub RiseAbove : ℕ → List Request → Type 0
RiseAbove n [] = ⊤
RiseAbove n (r ∷ rest) = (n < r.number) × RiseAbove r.number rest

-- the numbers are at least 1, and each is greater than the previous one
abbrev pub AreRising : List Request → Type 0
AreRising requests = RiseAbove 0 requests
