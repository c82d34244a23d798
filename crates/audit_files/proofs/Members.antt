-- One more row of a file with one row per membership.
use Rattle.std.proofs.Common.{◌≡◌, ◌<◌, ◌∙◌, true, false, List, [], ◌∷◌, ◌++◌, refl, ap, sym, append_assoc, length}
use Rattle.std.proofs.Common.{Option, Some, None, filter_map, nat_le}
use Rattle.std.specs.Prelude.{bytes_eq, is_some}
use Rattle.std.proofs.lemmas.Bool.{lt-leb}
use Rattle.std.proofs.lemmas.List.Sums.{fold_push}
use Rattle.sudo_match.specs.declared.people.Person.{Person}
use Rattle.audit_files.specs.Rows.{Fields}
use Rattle.audit_files.specs.Users.{followed_by, last_of, member_of, membership_fault, row_behind, row_fault}
use Rattle.audit_files.specs.Users.{row_limit, users_of, users_of_rows, with_row}
use Rattle.audit_files.proofs.RequestRecords.{gathers_some}

-- a row behind the rows of the last of these users
pub with_row-last : (front : List Person) (p row : Person) → with_row (front ++ p ∷ []) row ≡ front ++ followed_by p row
with_row-last [] p row = refl
with_row-last (a ∷ []) p row = refl
with_row-last (a ∷ b ∷ front) p row = ap (λ (l : List Person). a ∷ l) (with_row-last (b ∷ front) p row)

-- a row that may follow, below the limit
pub following_row : (before : List Fields) (fields : Fields) (row : Person) → member_of fields ≡ Some row
    → is_some (row_behind (last_of (users_of before)) (Some row)) ≡ true → length before < row_limit
    → (membership_fault before fields ≡ None) × (users_of (before ++ fields ∷ []) ≡ with_row (users_of before) row)
following_row before fields row e follows below =
    let room : nat_le row_limit (length before) ≡ false = lt-leb row_limit (length before) below in
    let more = gathers_some member_of before fields row e in (
      rw e (by room (row_behind (last_of (users_of before)) (Some row)) follows),
      ap users_of_rows more ∙ fold_push with_row [] (filter_map member_of before) row,
    )
  where
    by : nat_le row_limit (length before) ≡ false → (o : Option Person) → is_some o ≡ true → row_fault before o ≡ None
    by room None h = cc
    by room (Some p) h = rw room refl

-- a row of the last user adds its group
pub same_user : (people front : List Person) (p row : Person) → people ≡ front ++ p ∷ [] → bytes_eq p.name row.name ≡ true
    → with_row people row ≡ front ++ record p { groups = p.groups ++ row.groups } ∷ []
same_user people front p row is same = ap (λ (l : List Person). with_row l row) is ∙ with_row-last front p row ∙ rw same refl

-- a row of another user is a further user
pub other_user : (people front : List Person) (p row : Person) → people ≡ front ++ p ∷ [] → bytes_eq p.name row.name ≡ false
    → with_row people row ≡ (front ++ p ∷ []) ++ row ∷ []
other_user people front p row is other =
    ap (λ (l : List Person). with_row l row) is ∙ with_row-last front p row ∙ rw other (sym (append_assoc front (p ∷ []) (row ∷ [])))
