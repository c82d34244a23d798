-- The requests of a file, read one after another.
use Rattle.std.proofs.Common.{◌≡◌, ◌<◌, ◌+◌, ◌-◌, ◌∙◌, ℕ, Bool, true, false, List, [], ◌∷◌, ◌++◌, length}
use Rattle.std.proofs.Common.{length-append, take, drop, refl, sym, ap, arith, append_assoc, append-nil, Option, None}
use Rattle.std.proofs.Common.{Some, Ok, Err, slice_get, subst}
use Rattle.std.specs.Bool.{MatchBool}
use Rattle.std.specs.Option.{option_or}
use Rattle.std.proofs.lemmas.Bool.{MatchBool-at_true}
use Rattle.std.proofs.lemmas.List.Elements.{filter_map-append}
use Rattle.std.proofs.Math.Seq.{drop-append_seam, take-append_seam}
use Rattle.std.proofs.lemmas.List.{take-append-drop}
use Rattle.sudo_match.specs.declared.request.Request.{Request}
use Rattle.audit_files.specs.Faults.{unless}
use Rattle.audit_files.specs.Files.{stated_by}
use Rattle.audit_files.specs.RequestRows.{HasRead, HasReadRecords, bytes_behind}
use Rattle.audit_files.specs.Requests.{close_of, closes_in, last_number, order_fault, request_fault}
use Rattle.audit_files.specs.Body.Requests.{fields_in}
use Rattle.audit_files.specs.Requests.{request_limit, request_of, requests_in, requests_of, requests_of_file}
use Rattle.audit_files.specs.Rows.{Fields, first_fault, records_of}
use Rattle.audit_files.specs.declared.fault.FileFault.{FileFault}
use Rattle.audit_files.specs.declared.request_rows.RequestRows.{RequestRows}
use Rattle.audit_files.specs.declared.requests.RequestRow.{RequestRow}
use Rattle.audit_files.specs.declared.requests.Requests.{Requests}
use Rattle.audit_files.proofs.RequestRecords.{close_no_request, last_added, request_row}
use Rattle.audit_files.proofs.Progress.{Judging}

-- the place behind which a rest of a text begins
pub drop-to : (text front after : List ℕ) (at : ℕ) → drop at text ≡ front ++ after → drop (length text - length after) text ≡ after
drop-to text front after at behind =
    let whole : text ≡ (take at text ++ front) ++ after = sym (take-append-drop at text)
    ∙ ap (λ (l : List ℕ). take at text ++ l) behind ∙ sym (append_assoc (take at text) front after) in
    let long = ap length whole ∙ length-append (take at text ++ front) after in
    let place : length text - length after ≡ length (take at text ++ front) = omega (arith, long) in
    ap (λ (n : ℕ). drop n text) place ∙ ap (drop (length (take at text ++ front))) whole ∙ drop-append_seam (take at text ++ front) after

no_first : (a b : Option FileFault) → option_or a b ≡ None → a ≡ None
no_first None b e = refl
no_first (Some x) b e = cc

-- records without a fault come before the others
pub faultless_then : (fault : Judging) (start xs ys : List Fields) → first_fault fault start xs ≡ None
    → first_fault fault start (xs ++ ys) ≡ first_fault fault (start ++ xs) ys
faultless_then fault start [] ys e = ap (λ (l : List Fields). first_fault fault l ys) (sym (append-nil start))
faultless_then fault start (x ∷ xs) ys e =
    let here : fault start x ≡ None = no_first (fault start x) (first_fault fault (start ++ x ∷ []) xs) e in
    let later : first_fault fault (start ++ x ∷ []) xs ≡ None =
    sym (ap (λ (o : Option FileFault). option_or o (first_fault fault (start ++ x ∷ []) xs)) here) ∙ e in
    ap (λ (o : Option FileFault). option_or o (first_fault fault (start ++ x ∷ []) (xs ++ ys))) here
    ∙ faultless_then fault (start ++ x ∷ []) xs ys later
    ∙ ap (λ (l : List Fields). first_fault fault l ys) (append_assoc start (x ∷ []) xs)

one_faultless : (fault : Judging) (xs : List Fields) (x : Fields) → first_fault fault [] xs ≡ None → fault xs x ≡ None
    → first_fault fault [] (xs ++ x ∷ []) ≡ None
one_faultless fault xs x e here = faultless_then fault [] xs (x ∷ []) e ∙ ap (λ (o : Option FileFault). option_or o None) here

-- a request is no close row
not_closing : (row : RequestRow) (r : Request) → request_of (fields_in row) ≡ Some r → close_of (fields_in row) ≡ None
not_closing row r asked = by (close_of (fields_in row)) refl
  where
    by : (o : Option ℕ) → close_of (fields_in row) ≡ o → close_of (fields_in row) ≡ None
    by None e = e
    by (Some n) e =
        let none = close_no_request row.number.now row.user.now row.host.now row.runas_user.now row.runas_group.now
        row.command.now row.arguments.now n e in
        cc

-- whether there is a fault of order does not depend on the row
in_order : (a b : ℕ) (before : List Request) (n : ℕ) → order_fault a before n ≡ None → order_fault b before n ≡ None
in_order a b before n e = grind arith

-- one more request
pub one_read : (old new : RequestRows) (text : List ℕ) (requests : List Request) (row : RequestRow) (r : Request) (after : List ℕ)
    → HasReadRecords old text requests → records_of (bytes_behind old) ≡ fields_in row ∷ records_of after → bytes_behind new ≡ after
    → request_of (fields_in row) ≡ Some r → order_fault 0 requests r.number ≡ None → old.count < request_limit
    → new.count ≡ old.count + 1 → new.last ≡ r.number → HasReadRecords new text (requests ++ r ∷ [])
one_read old new text requests row r after h left behind asked order room count last =
    let fields = fields_in row in
    let before = h.before in
    let ordered : order_fault (length before + 2) (requests_in before) r.number ≡ None =
    rw h.stated (in_order 0 (length before + 2) requests r.number order) in
    let s = request_row before fields row r refl (ap (λ (l : List ℕ). slice_get l 0) h.open_yet) (not_closing row r asked) asked ordered in
    let records = length-append before (fields ∷ []) in
    let longer = length-append requests (r ∷ []) in
    record {
      before = before ++ fields ∷ [];
      header = h.header ∙ ap (λ (l : List Fields). Some (before ++ l)) left
          ∙ ap (λ (l : List Fields). Some l) (sym (append_assoc before (fields ∷ []) (records_of after)))
          ∙ ap (λ (l : List ℕ). Some ((before ++ fields ∷ []) ++ records_of l)) (sym behind);
      faultless = one_faultless request_fault before fields h.faultless s.0;
      stated = s.1 ∙ ap (λ (l : List Request). l ++ r ∷ []) h.stated;
      open_yet = s.2 ∙ h.open_yet;
      each = omega (arith, records, longer, h.each);
      count = omega (arith, longer, h.count, count);
      few = omega (arith, longer, h.count, room);
      last = last ∙ sym (last_added requests r);
    }

-- the same, where the bytes that are left are the same
pub same_read : (old new : RequestRows) (text : List ℕ) (requests : List Request) → HasReadRecords old text requests
    → bytes_behind new ≡ bytes_behind old
    → new.count ≡ old.count → new.last ≡ old.last → HasReadRecords new text requests
same_read old new text requests h left count last = record {
  before = h.before;
  header = h.header ∙ ap (λ (l : List ℕ). Some (h.before ++ records_of l)) (sym left);
  faultless = h.faultless;
  stated = h.stated;
  open_yet = h.open_yet;
  each = h.each;
  count = count ∙ h.count;
  few = h.few;
  last = last ∙ h.last;
}

-- what is left, read at once behind the requests that were read
module _ (rows : RequestRows) (text : List ℕ) (requests : List Request) (h : HasReadRecords rows text requests) where
  abbrev pub left : List Fields
  left = records_of (bytes_behind rows)

  pub held_long : length (requests_in h.before) ≡ rows.count
  held_long = ap length h.stated ∙ sym h.count

  pub held_last : last_number (requests_in h.before) ≡ rows.last
  held_last = ap last_number h.stated ∙ sym h.last

  pub row_behind : rows.count + 2 ≡ length h.before + 2
  row_behind = let each = h.each in let count = h.count in omega (arith, each, count)

  -- the fault of what is left is that of the file
  pub fault_behind : (e : FileFault) → first_fault request_fault h.before left ≡ Some e → requests_of_file text ≡ Err e
  fault_behind e found =
      ap (stated_by request_fault requests_of) h.header
      ∙ ap (λ (o : Option FileFault). unless o (requests_of (h.before ++ left)))
      (faultless_then request_fault [] h.before left h.faultless ∙ found)

  -- the requests of what is left follow those that were read
  pub stated_behind : (rest : Requests) → first_fault request_fault h.before left ≡ None
      → take rows.count (requests_in (h.before ++ left)) ++ rest.list ≡ requests_in (h.before ++ left)
      → rest.close ≡ slice_get (closes_in (h.before ++ left)) 0
      → requests_of_file text ≡ Ok (record { list = requests ++ rest.list; close = rest.close })
  stated_behind rest none list close =
      let cut : requests_in (h.before ++ left) ≡ requests ++ requests_in left =
      filter_map-append request_of h.before left ∙ ap (λ (l : List Request). l ++ requests_in left) h.stated in
      let count = h.count in
      let first : take rows.count (requests_in (h.before ++ left)) ≡ requests =
      ap (λ (n : ℕ). take n (requests_in (h.before ++ left))) count ∙ ap (take (length requests)) cut
      ∙ take-append_seam requests (requests_in left) in
      let all : requests_in (h.before ++ left) ≡ requests ++ rest.list = sym list ∙ ap (λ (l : List Request). l ++ rest.list) first in
      ap (stated_by request_fault requests_of) h.header
      ∙ ap (λ (o : Option FileFault). unless o (requests_of (h.before ++ left)))
      (faultless_then request_fault [] h.before left h.faultless ∙ none)
      ∙ (λ i. Ok (record { list = all i; close = sym close i }))

-- the same of `HasRead`, behind a header
pub with_header : (rows : RequestRows) (text : List ℕ) (requests : List Request) → rows.has_header ≡ true
    → HasRead rows text requests → HasReadRecords rows text requests
with_header rows text requests has read = MatchBool-at_true (HasReadRecords rows text requests)
    ((rows.text.items ≡ text) × (requests ≡ [])) has read

pub of_header : (rows : RequestRows) (text : List ℕ) (requests : List Request) → rows.has_header ≡ true
    → HasReadRecords rows text requests → HasRead rows text requests
of_header rows text requests has read =
    subst (λ (b : Bool). MatchBool b (HasReadRecords rows text requests) ((rows.text.items ≡ text) × (requests ≡ []))) (sym has) read

pub without_header : (rows : RequestRows) (text : List ℕ) (requests : List Request) → rows.has_header ≡ false
    → HasRead rows text requests → (rows.text.items ≡ text) × (requests ≡ [])
without_header rows text requests has read =
    subst (λ (b : Bool). MatchBool b (HasReadRecords rows text requests) ((rows.text.items ≡ text) × (requests ≡ []))) has read
