-- The content of a users file.
use Rattle.std.specs.Prelude.{⊤, ◌≡◌, ℕ, Bool, false, not, List, [], ◌∷◌, ◌++◌, ◌+◌, ◌-◌, ◌==◌, ◌&&◌, ◌||◌}
use Rattle.std.specs.Prelude.{nat_le, nat_lt, length, codes, bytes_eq, filter_map, flat_map, fold, map, slice_get, is_some}
use Rattle.std.specs.Prelude.{Option, Some, None, Result, option_map, option_and_then, if◌then◌else◌}
use Rattle.sudo_match.specs.declared.people.Group.{Group}
use Rattle.sudo_match.specs.declared.people.Person.{Person}
use Rattle.audit_files.specs.Files.{after_header, value_in_file}
use Rattle.audit_files.specs.Numerals.{numeral_value}
use Rattle.sudo_match.specs.Matching.{is_empty}
use Rattle.audit_files.specs.Parts.{items_of}
use Rattle.sudo_grammar.specs.Members.{cut_at}
use Rattle.audit_files.specs.Rows.{Fields, records_of}
use Rattle.audit_files.specs.declared.fault.FileFault.{FileFault}
use Rattle.audit_files.specs.declared.fault.FileFault.TheVariants.{BadRow, TooMany}

-- the header of a file with one row per user
abbrev pub users_header : Fields
users_header = codes "user" ∷ codes "uid" ∷ codes "groups" ∷ []

-- a nonempty name, a colon, and a number
abbrev pub membership_of : List ℕ → Option Group
membership_of word =
    option_and_then (λ p. if is_empty p.0 then None else option_map (λ n. record { name = p.0; gid = n })
    (numeral_value p.1)) (cut_at 58 word)

-- a nonempty user, a number, and these groups, if they are stated
abbrev pub person_with : List ℕ → List ℕ → Option (List Group) → Option Person
person_with user uid groups =
    if is_empty user then None
    else option_and_then (λ n. option_map (λ gs. record { name = user; uid = n; groups = gs }) groups) (numeral_value uid)

-- a user, its number, and groups separated by one space
abbrev pub person_of : Fields → Option Person
person_of (user ∷ uid ∷ groups ∷ []) = person_with user uid (items_of membership_of groups)
person_of _ = None

-- the most rows that a users or a hosts file may have
abbrev pub row_limit : ℕ
row_limit = 100000

-- the fault of a row that states this value or none: `BadRow` without a value, `TooMany` past the
-- limit
abbrev pub row_fault : {X : Type 0} → List Fields → Option X → Option FileFault
row_fault before None = Some (BadRow (length before + 2))
row_fault before (Some x) = if nat_le row_limit (length before) then Some TooMany else None

abbrev pub person_fault : List Fields → Fields → Option FileFault
person_fault before fields = row_fault before (person_of fields)

-- the header of a file with one row per membership
abbrev pub memberships_header : Fields
memberships_header = codes "user" ∷ codes "uid" ∷ codes "gid" ∷ codes "group" ∷ []

-- one group, with a number and any nonempty name; no group if both fields are empty
abbrev pub groups_of_row : List ℕ → List ℕ → Option (List Group)
groups_of_row gid name =
    if is_empty name
    then (if is_empty gid then Some [] else None)
    else option_map (λ n. record { name = name; gid = n } ∷ []) (numeral_value gid)

-- a user, its number, and one group or none
abbrev pub member_of : Fields → Option Person
member_of (user ∷ uid ∷ gid ∷ group ∷ []) = person_with user uid (groups_of_row gid group)
member_of _ = None

-- the users after a row that follows a row of this user: a row of the same user adds its group, and
-- a row of another user is a further user
abbrev pub followed_by : Person → Person → List Person
followed_by p row =
    if bytes_eq p.name row.name then record p { groups = p.groups ++ row.groups } ∷ [] else p ∷ row ∷ []

-- the users, and a row after the rows of the last of them
abbrev pub with_row : List Person → Person → List Person
with_row [] row = row ∷ []
with_row (p ∷ []) row = followed_by p row
with_row (p ∷ q ∷ rest) row = p ∷ with_row (q ∷ rest) row

-- the users whose memberships the rows state, the rows of each user together
abbrev pub users_of_rows : List Person → List Person
users_of_rows rows = fold with_row [] rows

abbrev pub users_of : List Fields → List Person
users_of all = users_of_rows (filter_map member_of all)

abbrev pub has_groups : Person → Bool
has_groups p = nat_lt 0 (length p.groups)

-- a row may follow this user's rows: it is of another user, or it has the user's number, and both
-- have groups
abbrev pub goes_after : Person → Person → Bool
goes_after p row = not (bytes_eq p.name row.name) || ((p.uid == row.uid) && (has_groups p && has_groups row))

-- a row that may follow the rows of the last user, if there is one
abbrev pub row_behind : Option Person → Option Person → Option Person
row_behind last None = None
row_behind None (Some row) = Some row
row_behind (Some p) (Some row) = if goes_after p row then Some row else None

abbrev pub last_of : List Person → Option Person
last_of people = slice_get people (length people - 1)

abbrev pub membership_fault : List Fields → Fields → Option FileFault
membership_fault before fields = row_fault before (row_behind (last_of (users_of before)) (member_of fields))

-- the users that the bytes of a users file state, or its first fault: the header decides whether a
-- row is a membership or a user
abbrev pub people : List ℕ → Result (List Person) FileFault
people text =
    let all = records_of text in
    if is_some (after_header memberships_header all)
    then value_in_file memberships_header membership_fault users_of all
    else value_in_file users_header person_fault (filter_map person_of) all

-- no two neighbours have the same name
abbrev pub HaveDistinctNeighbours : List Person → Type 0
HaveDistinctNeighbours [] = ⊤
HaveDistinctNeighbours (p ∷ []) = ⊤
HaveDistinctNeighbours (p ∷ q ∷ rest) = (bytes_eq p.name q.name ≡ false) × HaveDistinctNeighbours (q ∷ rest)

-- the rows that a user with these groups is written as: one per group, or one without a group
abbrev pub rows_with : Person → List Group → List Person
rows_with p [] = record p { groups = [] } ∷ []
rows_with p (g ∷ gs) = map (λ h. record p { groups = h ∷ [] }) (g ∷ gs)

abbrev pub rows_of : Person → List Person
rows_of p = rows_with p p.groups

-- the users of records with one row per membership: no two neighbours have the same name, and the
-- users' rows, in order, are what the records state
abbrev pub AreUsersOf : List Fields → List Person → Type 0
AreUsersOf records users =
    HaveDistinctNeighbours users × (map member_of records ≡ map (λ row. Some row) (flat_map rows_of users))
