-- The users of a file with one row per membership, written out again, are its rows.
use Rattle.std.proofs.Common.{◌≡◌, ◌-◌, ◌∙◌, ℕ, suc, Bool, true, false, List, [], ◌∷◌, ◌++◌, length, refl, sym, ap}
use Rattle.std.proofs.Common.{subst, arith, append-nil, append_assoc, Option, Some, None, slice_get, filter_map, map}
use Rattle.std.proofs.Common.{cond, option_map, option_and_then}
use Rattle.std.specs.Prelude.{⊤, bytes_eq, is_some, not, ◌&&◌, ◌||◌, ◌==◌}
use Rattle.std.specs.List.{flat_map, fold}
use Rattle.std.specs.Option.{option_or}
use Rattle.std.proofs.lemmas.Bool.{eqb-true}
use Rattle.std.proofs.lemmas.List.{map_push}
use Rattle.std.proofs.lemmas.List.Sums.{fold_push}
use Rattle.std.proofs.lemmas.Slice.Eq.{bytes_eq-Decides}
use Rattle.sudo_match.specs.declared.people.Group.{Group}
use Rattle.sudo_match.specs.declared.people.Person.{Person}
use Rattle.audit_files.specs.Numerals.{numeral_value}
use Rattle.sudo_match.specs.Matching.{is_empty}
use Rattle.audit_files.specs.Rows.{Fields, first_fault}
use Rattle.audit_files.specs.Users.{HaveDistinctNeighbours, AreUsersOf, followed_by, goes_after, groups_of_row}
use Rattle.audit_files.specs.Users.{has_groups, last_of, member_of, membership_fault, row_behind, row_fault, rows_of}
use Rattle.audit_files.specs.Users.{rows_with, users_of, users_of_rows, with_row}
use Rattle.audit_files.specs.declared.fault.FileFault.{FileFault}
use Rattle.audit_files.proofs.RequestRecords.{gathers_some}

-- ---- Users of one name are not neighbours

apart_row : (people : List Person) (row : Person) → HaveDistinctNeighbours people → HaveDistinctNeighbours (with_row people row)
apart_row [] row apart = tt
apart_row (p ∷ []) row apart = by (bytes_eq p.name row.name) refl
  where
    by : (same : Bool) → bytes_eq p.name row.name ≡ same
        → HaveDistinctNeighbours (cond same (record p { groups = p.groups ++ row.groups } ∷ []) (p ∷ row ∷ []))
    by true e = tt
    by false e = (e, tt)
apart_row (p ∷ q ∷ []) row apart = by (bytes_eq q.name row.name) refl
  where
    by : (same : Bool) → bytes_eq q.name row.name ≡ same
        → HaveDistinctNeighbours (p ∷ cond same (record q { groups = q.groups ++ row.groups } ∷ []) (q ∷ row ∷ []))
    by true e = (apart.0, tt)
    by false e = (apart.0, (e, tt))
apart_row (p ∷ q ∷ r ∷ rest) row apart = (apart.0, apart_row (q ∷ r ∷ rest) row apart.1)

users_are_apart : (rows people : List Person) → HaveDistinctNeighbours people → HaveDistinctNeighbours (fold with_row people rows)
users_are_apart [] people apart = apart
users_are_apart (row ∷ rows) people apart = users_are_apart rows (with_row people row) (apart_row people row apart)

-- ---- One more row

-- one group or none
abbrev IsSingle : List Group → Type 0
IsSingle [] = ⊤
IsSingle (g ∷ []) = ⊤
IsSingle (g ∷ h ∷ gs) = ⊥

single_row : (row : Person) → IsSingle row.groups → rows_of row ≡ row ∷ []
single_row row single = by row.groups refl single
  where
    by : (gs : List Group) → row.groups ≡ gs → IsSingle gs → rows_with row gs ≡ row ∷ []
    by [] e s = ap (λ (l : List Group). record row { groups = l } ∷ []) (sym e)
    by (g ∷ []) e s = ap (λ (l : List Group). record row { groups = l } ∷ []) (sym e)
    by (g ∷ h ∷ gs) e s = absurd s

-- the user's number, and a group of each
parts_of : (u a b : Bool) → (u && (a && b)) ≡ true → (u ≡ true) × (a ≡ true) × (b ≡ true)
parts_of true true true h = (refl, refl, refl)
parts_of true true false h = cc
parts_of true false b h = cc
parts_of false a b h = cc

-- a further row of the user
joined_rows : (p row : Person) → p.name ≡ row.name → p.uid ≡ row.uid → (ps rs : List Group)
    → has_groups (record p { groups = ps }) ≡ true → row.groups ≡ rs → has_groups (record row { groups = rs }) ≡ true → IsSingle rs
    → rows_with p (ps ++ rs) ≡ rows_with p ps ++ row ∷ []
joined_rows p row name uid [] rs has e further single = cc
joined_rows p row name uid (g ∷ gs) [] has e further single = cc
joined_rows p row name uid (g ∷ gs) (h ∷ []) has e further single =
    let same : record p { groups = h ∷ [] } ≡ row = rw (name, uid, ← e) refl in
    map_push (λ (k : Group). record p { groups = k ∷ [] }) (g ∷ gs) h
    ∙ ap (λ (r : Person). map (λ (k : Group). record p { groups = k ∷ [] }) (g ∷ gs) ++ r ∷ []) same
joined_rows p row name uid (g ∷ gs) (h ∷ k ∷ rest) has e further single = absurd single

-- a row behind the rows of this user
followed_rows : (p row : Person) → goes_after p row ≡ true → IsSingle row.groups
    → flat_map rows_of (followed_by p row) ≡ rows_of p ++ row ∷ []
followed_rows p row follows single = by (bytes_eq p.name row.name) refl follows
  where
    by : (same : Bool) → bytes_eq p.name row.name ≡ same → (not same || ((p.uid == row.uid) && (has_groups p && has_groups row))) ≡ true
        → flat_map rows_of (cond same (record p { groups = p.groups ++ row.groups } ∷ []) (p ∷ row ∷ [])) ≡ rows_of p ++ row ∷ []
    by true e h =
        let parts = parts_of (p.uid == row.uid) (has_groups p) (has_groups row) h in
        append-nil (rows_with p (p.groups ++ row.groups))
        ∙ joined_rows p row ((bytes_eq-Decides p.name row.name).0 e) (eqb-true p.uid row.uid parts.0) p.groups
        row.groups parts.1 refl parts.2 single
    by false e h = ap (λ (l : List Person). rows_of p ++ l) (append-nil (rows_of row) ∙ single_row row single)

last_more : (p q : Person) (rest : List Person) → last_of (p ∷ q ∷ rest) ≡ last_of (q ∷ rest)
last_more p q rest =
    let more : length (p ∷ q ∷ rest) - 1 ≡ suc (length rest) = omega arith in
    let same : length (q ∷ rest) - 1 ≡ length rest = omega arith in
    ap (slice_get (p ∷ q ∷ rest)) more ∙ sym (ap (slice_get (q ∷ rest)) same)

kept_row : (people : List Person) (row : Person) → is_some (row_behind (last_of people) (Some row)) ≡ true → IsSingle row.groups
    → flat_map rows_of (with_row people row) ≡ flat_map rows_of people ++ row ∷ []
kept_row [] row follows single = append-nil (rows_of row) ∙ single_row row single
kept_row (p ∷ []) row follows single = by (goes_after p row) refl follows
  where
    by : (b : Bool) → goes_after p row ≡ b → is_some (cond b (Some row) None) ≡ true
        → flat_map rows_of (followed_by p row) ≡ (rows_of p ++ []) ++ row ∷ []
    by true e h = followed_rows p row e single ∙ ap (λ (l : List Person). l ++ row ∷ []) (sym (append-nil (rows_of p)))
    by false e h = cc
kept_row (p ∷ q ∷ rest) row follows single =
    let behind : is_some (row_behind (last_of (q ∷ rest)) (Some row)) ≡ true =
    subst (λ (o : Option Person). is_some (row_behind o (Some row)) ≡ true) (last_more p q rest) follows
    in
    ap (λ (l : List Person). rows_of p ++ l) (kept_row (q ∷ rest) row behind single)
    ∙ sym (append_assoc (rows_of p) (flat_map rows_of (q ∷ rest)) (row ∷ []))

-- ---- All records

-- what two fields state is one group or none
single_groups : (gid name : List ℕ) (gs : List Group) → groups_of_row gid name ≡ Some gs → IsSingle gs
single_groups gid name gs e = by (is_empty name) (is_empty gid) (numeral_value gid) e
  where
    at : (found : List Group) → IsSingle found → Some found ≡ Some gs → IsSingle gs
    at found single h = let same : found ≡ gs = cc in subst IsSingle same single

    by : (no_name no_gid : Bool) (number : Option ℕ)
        → cond no_name (cond no_gid (Some []) None) (option_map (λ n. record { name = name; gid = n } ∷ []) number) ≡ Some gs
        → IsSingle gs
    by true true number h = at [] tt h
    by true false number h = cc
    by false no_gid None h = cc
    by false no_gid (Some n) h = at (record { name = name; gid = n } ∷ []) tt h

single_member : (fields : Fields) (row : Person) → member_of fields ≡ Some row → IsSingle row.groups
single_member [] row e = cc
single_member (a ∷ []) row e = cc
single_member (a ∷ b ∷ []) row e = cc
single_member (a ∷ b ∷ c ∷ []) row e = cc
single_member (user ∷ uid ∷ gid ∷ group ∷ []) row e = by (is_empty user) (numeral_value uid) (groups_of_row gid group) refl e
  where
    by : (no_user : Bool) (number : Option ℕ) (found : Option (List Group)) → groups_of_row gid group ≡ found
        → cond no_user None (option_and_then (λ n. option_map (λ gs. record { name = user; uid = n; groups = gs }) found) number) ≡ Some row
        → IsSingle row.groups
    by true number found is h = cc
    by false None found is h = cc
    by false (Some n) None is h = cc
    by false (Some n) (Some gs) is h =
        let person : Person = record { name = user; uid = n; groups = gs } in
        let same : person ≡ row = cc in
        subst (λ (p : Person). IsSingle p.groups) same (single_groups gid group gs is)
single_member (a ∷ b ∷ c ∷ d ∷ f ∷ rest) row e = cc

-- a record without a fault states a row that may stand there
faultless_row : (before : List Fields) (last o : Option Person) → row_fault before (row_behind last o) ≡ None
    → (row : Person) × (o ≡ Some row) × (is_some (row_behind last (Some row)) ≡ true)
faultless_row before last None h = cc
faultless_row before None (Some row) h = (row, refl, refl)
faultless_row before (Some p) (Some row) h = (row, refl, by (goes_after p row) h)
  where
    by : (b : Bool) → row_fault before (cond b (Some row) None) ≡ None → is_some (cond b (Some row) None) ≡ true
    by true e = refl
    by false e = cc

-- the users' rows are what the records state
abbrev AreKept : List Fields → Type 0
AreKept records = map member_of records ≡ map (λ (row : Person). Some row) (flat_map rows_of (users_of records))

one_more : (before : List Fields) (fields : Fields) → membership_fault before fields ≡ None → AreKept before
    → AreKept (before ++ fields ∷ [])
one_more before fields e kept =
    let (row, states, follows) = faultless_row before (last_of (users_of before)) (member_of fields) e in
    let users : users_of (before ++ fields ∷ []) ≡ with_row (users_of before) row =
    ap users_of_rows (gathers_some member_of before fields row states) ∙ fold_push with_row [] (filter_map member_of before) row
    in
    let rows : flat_map rows_of (users_of (before ++ fields ∷ [])) ≡ flat_map rows_of (users_of before) ++ row ∷ [] =
    ap (flat_map rows_of) users ∙ kept_row (users_of before) row follows (single_member fields row states)
    in
    map_push member_of before fields ∙ ap (λ (o : Option Person). map member_of before ++ o ∷ []) states
    ∙ ap (λ (l : List (Option Person)). l ++ Some row ∷ []) kept
    ∙ sym (map_push (λ (r : Person). Some r) (flat_map rows_of (users_of before)) row)
    ∙ ap (map (λ (r : Person). Some r)) (sym rows)

all_kept : (rest before : List Fields) → first_fault membership_fault before rest ≡ None → AreKept before → AreKept (before ++ rest)
all_kept [] before e kept = subst (λ (l : List Fields). AreKept l) (sym (append-nil before)) kept
all_kept (fields ∷ rest) before e kept =
    let parts = by (membership_fault before fields) (first_fault membership_fault (before ++ fields ∷ []) rest) e in
    subst (λ (l : List Fields). AreKept l) (append_assoc before (fields ∷ []) rest)
    (all_kept rest (before ++ fields ∷ []) parts.1 (one_more before fields parts.0 kept))
  where
    by : (first later : Option FileFault) → option_or first later ≡ None → (first ≡ None) × (later ≡ None)
    by None later h = (refl, h)
    by (Some f) later h = cc

pub records-are-kept : (records : List Fields) → first_fault membership_fault [] records ≡ None → AreUsersOf records (users_of records)
records-are-kept records faultless = (users_are_apart (filter_map member_of records) [] tt, all_kept records [] faultless refl)
