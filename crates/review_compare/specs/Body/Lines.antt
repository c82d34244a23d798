-- Names and records, part by part; only proofs of bodies need these definitions.
use Rattle.std.specs.Prelude.{◌≡◌, ◌<◌, ℕ, Bool, ◌||◌, ◌==◌, List, [], ◌∷◌, ◌++◌, get_or, length, map}
use Rattle.csv.specs.Writing.{default_writer, field_text, fields_text}
use Rattle.sudo_match.specs.declared.people.Group.{Group}
use Rattle.sudo_match.specs.KnownRows.{KnownRows}
use Rattle.review_compare.specs.declared.row.Row.{Row}
use Rattle.review_grants.specs.Depends.{marks_in}
use Rattle.review_compare.specs.Body.Merged.{is_among}
use Rattle.review_compare.specs.Differences.{targets_of}
use Rattle.review_compare.specs.declared.text.Names.{Names}
use Rattle.review_compare.specs.declared.text.Shown.{Shown}
use Rattle.review_compare.specs.Table.{Source, asked_text, found_lines, group_names, groups_text, host_names, names_text, user_names}

-- a name behind a comma and a space
abbrev pub separated : List ℕ → List ℕ
separated name = 44 ∷ 32 ∷ name

-- these are the names
pub record AreNames (d : KnownRows) (groups : List Group) (names : Names) : Type 0 where
  pub users : map (λ v. v.items) names.users.items ≡ user_names d
  pub hosts : map (λ v. v.items) names.hosts.items ≡ host_names d
  pub groups_too : map (λ v. v.items) names.groups.items ≡ group_names groups

-- one more is marked, if it has a mark
pub record IsMarked (marks : List Bool) (number : ℕ) (new : List Bool) : Type 0 where
  pub long : length new ≡ length marks
  pub each : (i : ℕ) (d : Bool) → i < length marks → get_or new i d ≡ (get_or marks i d || (number == i))

-- the indices below a count, each marked if it is among these
pub record AreMarked (count : ℕ) (numbers : List ℕ) (marks : List Bool) : Type 0 where
  pub long : length marks ≡ count
  pub each : (i : ℕ) (d : Bool) → i < count → get_or marks i d ≡ is_among numbers i

abbrev pub head_of : Names → Row → List ℕ
head_of names r =
    field_text default_writer (names_text (map (λ v. v.items) names.users.items) r.users)
    ++ fields_text default_writer (names_text (map (λ v. v.items) names.hosts.items) r.hosts
    ∷ asked_text (map (λ v. v.items) names.users.items) (targets_of r.targets)
    ∷ groups_text (map (λ v. v.items) names.groups.items) r.groups ∷ [])

-- the records of a row
abbrev pub lines_of : Source → Source → Names → Row → List ℕ
lines_of s t names row = found_lines s t (head_of names row) row.found

abbrev pub source_by : Shown → Source
source_by s = record { files = s.files.now; marks = marks_in s.noted.now }
