-- One more record of a requests file.
use Rattle.std.proofs.Common.{◌≡◌, ◌+◌, ◌∙◌, ℕ, Bool, true, false, List, [], ◌∷◌, ◌++◌, refl, ap, cond, length}
use Rattle.std.proofs.Common.{append-nil, Option, Some, None, slice_get, filter_map}
use Rattle.std.specs.Prelude.{◌&&◌}
use Rattle.std.proofs.Common.{◌<◌, ◌-◌, length-append, nat_le, take, sym, append_assoc, arith}
use Rattle.std.proofs.lemmas.List.{length-take-le, take-append-le}
use Rattle.audit_collect.proofs.Places.{slice_get-middle}
use Rattle.audit_files.specs.Body.Gathering.{HoldsRecords}
use Rattle.audit_files.specs.declared.requests.RequestList.{RequestList}
use Rattle.std.proofs.lemmas.Bool.{lt-leb}
use Rattle.audit_files.specs.Users.{row_fault, row_limit}
use Rattle.std.specs.List.{cons_option}
use Rattle.std.proofs.lemmas.List.Elements.{filter_map-append}
use Rattle.sudo_match.specs.declared.request.Request.{Request}
use Rattle.audit_files.specs.Numerals.{numeral_value}
use Rattle.audit_files.specs.Requests.{close_of, closes_in, last_number, order_fault, request_fault, request_of, requests_in}
use Rattle.audit_files.specs.Body.Requests.{fields_in}
use Rattle.audit_files.specs.Rows.{Fields}
use Rattle.audit_files.specs.declared.requests.RequestRow.{RequestRow}

pub gathers_none : {X : Type 0} (h : Fields → Option X) (before : List Fields) (fields : Fields) → h fields ≡ None
    → filter_map h (before ++ fields ∷ []) ≡ filter_map h before
gathers_none {X} h before fields e = filter_map-append h before (fields ∷ [])
    ∙ ap (λ (o : Option X). filter_map h before ++ cons_option o []) e ∙ append-nil (filter_map h before)

pub gathers_some : {X : Type 0} (h : Fields → Option X) (before : List Fields) (fields : Fields) (x : X)
    → h fields ≡ Some x → filter_map h (before ++ fields ∷ []) ≡ filter_map h before ++ x ∷ []
gathers_some {X} h before fields x e = filter_map-append h before (fields ∷ [])
    ∙ ap (λ (o : Option X). filter_map h before ++ cons_option o []) e

none_first : (counts : List ℕ) → slice_get counts 0 ≡ None → counts ≡ []
none_first [] e = refl
none_first (n ∷ rest) e = cc

-- a close row has no host, so it is no request
pub close_no_request : (a b c d e f g : List ℕ) (n : ℕ) → close_of (a ∷ b ∷ c ∷ d ∷ e ∷ f ∷ g ∷ []) ≡ Some n
    → request_of (a ∷ b ∷ c ∷ d ∷ e ∷ f ∷ g ∷ []) ≡ None
close_no_request a [] [] d e f g n h = refl
close_no_request a (y ∷ ys) [] d e f g n h = refl
close_no_request a b (x ∷ xs) d e f g n h = by (Rattle.std.specs.Prelude.bytes_eq a _) h
  where
    by : (s : Bool) → cond (s && false) (numeral_value b) None ≡ Some n → request_of (a ∷ b ∷ (x ∷ xs) ∷ d ∷ e ∷ f ∷ g ∷ []) ≡ None
    by true e2 = cc
    by false e2 = cc

-- a close row, where none came before
pub close_row : (before : List Fields) (fields : Fields) (row : RequestRow) (count : ℕ) → fields ≡ fields_in row
    → slice_get (closes_in before) 0 ≡ None → close_of (fields_in row) ≡ Some count
    → (request_fault before fields ≡ None) × (requests_in (before ++ fields ∷ []) ≡ requests_in before)
    × (slice_get (closes_in (before ++ fields ∷ [])) 0 ≡ Some count)
close_row before fields row count e open_yet close =
    let none : request_of (fields_in row) ≡ None =
    close_no_request row.number.now row.user.now row.host.now row.runas_user.now row.runas_group.now
    row.command.now row.arguments.now count close in
    let more : closes_in (before ++ fields_in row ∷ []) ≡ closes_in before ++ count ∷ [] =
    gathers_some close_of before (fields_in row) count close in
    let empty : closes_in before ≡ [] = none_first (closes_in before) open_yet in
    rw e (rw (open_yet, none, close) refl, gathers_none request_of before (fields_in row) none, rw (more, empty) refl)

-- a request, where no close row came before
pub request_row : (before : List Fields) (fields : Fields) (row : RequestRow) (r : Request) → fields ≡ fields_in row
    → slice_get (closes_in before) 0 ≡ None
    → close_of (fields_in row) ≡ None → request_of (fields_in row) ≡ Some r
    → order_fault (length before + 2) (requests_in before) r.number ≡ None
    → (request_fault before fields ≡ None) × (requests_in (before ++ fields ∷ []) ≡ requests_in before ++ r ∷ [])
    × (closes_in (before ++ fields ∷ []) ≡ closes_in before)
request_row before fields row r e open_yet close asked order =
    rw e (
      rw (open_yet, asked, order) refl,
      gathers_some request_of before (fields_in row) r asked,
      gathers_none close_of before (fields_in row) close,
    )

-- the number of a request behind others is the last
pub last_added : (requests : List Request) (r : Request) → last_number (requests ++ r ∷ []) ≡ r.number
last_added requests r =
    let long = length-append requests (r ∷ []) in
    let place : length (requests ++ r ∷ []) - 1 ≡ length requests = omega (arith, long) in
    rw (place, slice_get-middle requests [] r) refl

-- how many requests were read
pub counted : (read : RequestList) (before : List Fields) → HoldsRecords read before
    → read.earlier + length read.list.items ≡ length (requests_in before)
counted read before holds =
    let whole = sym (length-append (take read.earlier (requests_in before)) read.list.items) ∙ ap length holds.list in
    let first = length-take-le read.earlier (requests_in before) holds.earlier in
    omega (arith, whole, first)

-- a close row takes nothing from the list
pub listed_close : (old new : RequestList) (before : List Fields) (fields : Fields) (count : ℕ) → HoldsRecords old before
    → requests_in (before ++ fields ∷ []) ≡ requests_in before → slice_get (closes_in (before ++ fields ∷ [])) 0 ≡ Some count
    → new.list.items ≡ old.list.items → new.earlier ≡ old.earlier → new.last ≡ old.last → new.close ≡ Some count
    → HoldsRecords new (before ++ fields ∷ [])
listed_close old new before fields count holds requests closes list earlier last close = record {
  list = rw (requests, list, earlier) holds.list;
  earlier = rw (requests, earlier) holds.earlier;
  last = last ∙ holds.last ∙ ap last_number (sym requests);
  close = close ∙ sym closes;
}

-- a request is the last of the list
pub listed_request : (old new : RequestList) (before : List Fields) (fields : Fields) (r : Request) → HoldsRecords old before
    → requests_in (before ++ fields ∷ []) ≡ requests_in before ++ r ∷ [] → closes_in (before ++ fields ∷ []) ≡ closes_in before
    → new.list.items ≡ old.list.items ++ r ∷ [] → new.last ≡ r.number → new.close ≡ old.close
    → new.earlier ≡ old.earlier → HoldsRecords new (before ++ fields ∷ [])
listed_request old new before fields r holds requests closes list last close earlier =
    let first = take-append-le old.earlier (requests_in before) (r ∷ []) holds.earlier in
    let longer = length-append (requests_in before) (r ∷ []) in
    record {
      list = rw (requests, list, earlier) (ap (λ (l : List Request). l ++ (old.list.items ++ r ∷ [])) first
          ∙ sym (append_assoc (take old.earlier (requests_in before)) old.list.items (r ∷ []))
          ∙ ap (λ (l : List Request). l ++ r ∷ []) holds.list);
      earlier = rw (requests, earlier) (omega (arith, longer, holds.earlier));
      last = last ∙ sym (ap last_number requests ∙ last_added (requests_in before) r);
      close = close ∙ holds.close ∙ ap (λ (l : List ℕ). slice_get l 0) (sym closes);
    }

-- a row that states something, below the limit
pub stating_row : {X : Type 0} (h : Fields → Option X) (before : List Fields) (fields : Fields) (x : X)
    → h fields ≡ Some x → length before < row_limit
    → (row_fault before (h fields) ≡ None) × (filter_map h (before ++ fields ∷ []) ≡ filter_map h before ++ x ∷ [])
    × (length (before ++ fields ∷ []) ≡ length before + 1)
stating_row h before fields x e below =
    let room : nat_le row_limit (length before) ≡ false = lt-leb row_limit (length before) below in
    (rw (e, room) refl, gathers_some h before fields x e, length-append before (fields ∷ []))
