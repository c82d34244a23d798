-- The numbers under which a rule is found: those of users, of their groups, and of commands.
use Rattle.std.specs.Prelude.{ℕ, ◌+◌, ◌-◌, ◌*◌, ◌%◌, nat_lt, length, slice_index, Bool, not, ◌&&◌, ◌||◌, if◌then◌else◌, List, [], ◌∷◌}
use Rattle.std.specs.List.{list_all}
use Rattle.sudo_text.specs.declared.token.Ch.{Ch}
use Rattle.sudo_match.specs.declared.people.Person.{Person}
use Rattle.sudo_match.specs.declared.people.Group.{Group}
use Rattle.sudo_match.specs.Pattern.{is_plain, is_folder_path}

-- the number of some bytes, extended by one more byte
abbrev pub next_number : ℕ → ℕ → ℕ
next_number number byte = (number * 31 + byte) % 16384

-- the number of some bytes, computed from a seed; below 16384, and the same for equal bytes
unfoldable pub number_from : ℕ → List ℕ → ℕ
number_from seed [] = seed
number_from seed (b ∷ bs) = number_from (next_number seed b) bs

-- the number of a user's name
abbrev pub user_number : List ℕ → ℕ
user_number name = number_from 1 name

-- the number of a group's name
abbrev pub group_number : List ℕ → ℕ
group_number name = number_from 2 name

-- the number of a user ID
abbrev pub uid_number : ℕ → ℕ
uid_number uid = (uid * 2 + 1) % 16384

-- the number of a group ID
abbrev pub gid_number : ℕ → ℕ
gid_number gid = (gid * 2 + 3) % 16384

-- the number of the empty beginning of a command
abbrev pub beginning_seed : ℕ
beginning_seed = 3

-- the number of a whole command: that of its bytes, extended by the byte 6
abbrev pub whole_number : List ℕ → ℕ
whole_number command = next_number (number_from beginning_seed command) 6

-- the number of a path: with a special character, that of the bytes before it; of a folder, that of all its bytes as a
-- beginning; of another path, that of all its bytes as a whole command
unfoldable pub path_number_from : Bool → ℕ → List Ch → ℕ
path_number_from folder number [] = if folder then number else next_number number 6
path_number_from folder number (c ∷ cs) =
    if is_plain 42 c || (is_plain 63 c || is_plain 91 c) then number else path_number_from folder (next_number number c.byte) cs

-- the number under which the path of a command is found
abbrev pub path_number : List Ch → ℕ
path_number path = path_number_from (is_folder_path path) beginning_seed path

-- the mark of a group's name, by its last two bytes
abbrev pub group_mark : List ℕ → ℕ
group_mark name =
    if nat_lt (length name) 2 then 0
    else (slice_index name (length name - 1) + 10 * slice_index name (length name - 2)) % 64

-- ---- Numbers that a user or a command lacks

-- no number of a beginning of the bytes is one of those; `number` is that of the bytes before them
unfoldable pub lacks_beginnings : (ℕ → Bool) → ℕ → List ℕ → Bool
lacks_beginnings has number [] = not (has number)
lacks_beginnings has number (b ∷ bs) = not (has number) && lacks_beginnings has (next_number number b) bs

-- no number of a command is one of those
unfoldable pub lacks_command : (ℕ → Bool) → List ℕ → Bool
lacks_command has command =
    not (has 0) && (not (has (whole_number command)) && lacks_beginnings has beginning_seed command)

-- no number of a group is one of those
abbrev pub lacks_group : (ℕ → Bool) → Group → Bool
lacks_group has g = not (has (group_number g.name)) && not (has (gid_number g.gid))

-- no number of a user is one of those
unfoldable pub lacks_user : (ℕ → Bool) → Person → Bool
lacks_user has u =
    not (has 0)
    && (not (has (user_number u.name))
    && (not (has (uid_number u.uid))
    && list_all (lacks_group has) u.groups))
