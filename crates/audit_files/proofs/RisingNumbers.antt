-- The numbers of the requests that a file states rise.
use Rattle.std.proofs.Common.{◌≡◌, ◌<◌, ◌+◌, ◌-◌, ℕ, Bool, true, false, List, [], ◌∷◌, ◌++◌, length, arith, refl, sym}
use Rattle.std.proofs.Common.{subst, cond, append-nil, append_assoc, Option, Some, None, Ok, slice_get, nat_le}
use Rattle.std.specs.Prelude.{not, ◌==◌, is_some}
use Rattle.std.specs.Option.{option_map_or, option_or}
use Rattle.std.proofs.lemmas.Bool.{leb-false}
use Rattle.sudo_match.specs.declared.request.Request.{Request}
use Rattle.audit_files.specs.Files.{after_header, stated_by}
use Rattle.audit_files.specs.Requests.{AreRising, RiseAbove, close_of, closes_in, last_number, request_fault}
use Rattle.audit_files.specs.Requests.{request_limit, request_of, requests_header, requests_in, requests_of}
use Rattle.audit_files.specs.Requests.{requests_of_file, shape_fault}
use Rattle.audit_files.specs.Rows.{Fields, first_fault, records_of}
use Rattle.audit_files.specs.declared.fault.FileFault.{FileFault}
use Rattle.audit_files.specs.declared.fault.FileFault.TheVariants.{BadRow, OutOfOrder, RowAfterClose, TooMany}
use Rattle.audit_files.specs.declared.requests.Requests.{Requests}
use Rattle.audit_files.proofs.RequestRecords.{gathers_none, gathers_some}

-- the number of the last request, or this one
last_or : ℕ → List Request → ℕ
last_or n [] = n
last_or n (r ∷ rest) = last_or r.number rest

ends : (r : Request) (rest : List Request)
    → option_map_or (λ (q : Request). q.number) (slice_get (r ∷ rest) (length rest)) 0 ≡ last_or r.number rest
unfolding last_or
ends r [] = refl
ends r (s ∷ rest) = ends s rest

last_of : (r : Request) (rest : List Request) → last_number (r ∷ rest) ≡ last_or r.number rest
last_of r rest = let last : length (r ∷ rest) - 1 ≡ length rest = omega arith in rw last (ends r rest)

last_is : (requests : List Request) → last_number requests ≡ last_or 0 requests
unfolding last_or
last_is [] = refl
last_is (r ∷ rest) = last_of r rest

rise_more : (n : ℕ) (requests : List Request) (r : Request) → RiseAbove n requests → last_or n requests < r.number
    → RiseAbove n (requests ++ r ∷ [])
unfolding last_or
rise_more n [] r rise above = (above, tt)
rise_more n (s ∷ rest) r rise above = (rise.0, rise_more s.number rest r rise.1 above)

-- a request without a fault is above the last one
above_last : (row : ℕ) (before : List Request) (r : Request) (close : Option ℕ)
    → shape_fault row before (Some r) close ≡ None → last_number before < r.number
above_last row before r close e =
    leb-false r.number (last_number before) (by (nat_le r.number (last_number before)) (nat_le request_limit (length before)) e)
  where
    by : (low many : Bool) → cond low (Some (OutOfOrder row)) (cond many (Some TooMany) None) ≡ None → low ≡ false
    by true many h = cc
    by false many h = refl

one_more : (before : List Fields) (fields : Fields) → request_fault before fields ≡ None
    → RiseAbove 0 (requests_in before) → RiseAbove 0 (requests_in (before ++ fields ∷ []))
one_more before fields e rise =
    by (request_of fields) refl (in_shape (not (length fields == 7)) (is_some (slice_get (closes_in before) 0)) e)
  where
    row : ℕ
    row = length before + 2

    in_shape : (other closed : Bool)
        → cond other (Some (BadRow row))
        (cond closed (Some (RowAfterClose row)) (shape_fault row (requests_in before) (request_of fields)
        (close_of fields))) ≡ None → shape_fault row (requests_in before) (request_of fields) (close_of fields) ≡ None
    in_shape true closed h = cc
    in_shape false true h = cc
    in_shape false false h = h

    by : (o : Option Request) → request_of fields ≡ o → shape_fault row (requests_in before) (request_of fields)
        (close_of fields) ≡ None → RiseAbove 0 (requests_in (before ++ fields ∷ []))
    by None is h = subst (RiseAbove 0) (sym (gathers_none request_of before fields is)) rise
    by (Some r) is h =
        let above = above_last row (requests_in before) r (close_of fields)
        (subst (λ o. shape_fault row (requests_in before) o (close_of fields) ≡ None) is h) in
        subst (RiseAbove 0) (sym (gathers_some request_of before fields r is))
        (rise_more 0 (requests_in before) r rise (subst (λ n. n < r.number) (last_is (requests_in before)) above))

all_rise : (rest before : List Fields) → first_fault request_fault before rest ≡ None
    → RiseAbove 0 (requests_in before) → RiseAbove 0 (requests_in (before ++ rest))
all_rise [] before e rise = subst (λ l. RiseAbove 0 (requests_in l)) (sym (append-nil before)) rise
all_rise (fields ∷ rest) before e rise =
    let parts = by (request_fault before fields) (first_fault request_fault (before ++ fields ∷ []) rest) e in
    subst (λ l. RiseAbove 0 (requests_in l)) (append_assoc before (fields ∷ []) rest)
    (all_rise rest (before ++ fields ∷ []) parts.1 (one_more before fields parts.0 rise))
  where
    by : (first later : Option FileFault) → option_or first later ≡ None → (first ≡ None) × (later ≡ None)
    by None later h = (refl, h)
    by (Some f) later h = cc

pub sent_rises : (text : List ℕ) (requests : Requests) → requests_of_file text ≡ Ok requests → AreRising requests.list
sent_rises text requests e = by (after_header requests_header (records_of text)) e
  where
    stated : (rest : List Fields) (o : Option FileFault) → first_fault request_fault [] rest ≡ o
        → Rattle.audit_files.specs.Faults.unless o (requests_of rest) ≡ Ok requests → AreRising requests.list
    stated rest None is h = let same : requests_of rest ≡ requests = cc in
        subst (λ (r : Requests). AreRising r.list) same (all_rise rest [] is tt)
    stated rest (Some f) is h = cc

    by : (o : Option (List Fields)) → stated_by request_fault requests_of o ≡ Ok requests → AreRising requests.list
    by None h = cc
    by (Some rest) h = stated rest (first_fault request_fault [] rest) refl h
