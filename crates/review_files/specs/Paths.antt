-- The names of a path.
use Rattle.std.specs.Prelude.{ℕ, Bool, not, ◌&&◌, ◌||◌, ◌==◌, nat_lt, List, ◌∷◌, ◌++◌, codes, drop, flat_map, length, slice_index}
use Rattle.std.specs.Prelude.{take, ◌+◌}
use Rattle.std.specs.List.{list_any, take_while}
use Rattle.std.specs.Str.{bytes_eq}

-- the number of bytes before the first slash
abbrev pub name_len : List ℕ → ℕ
name_len path = length (take_while (λ b. not (b == 47)) path)

-- the first name: the bytes before the first slash
abbrev pub first_name : List ℕ → List ℕ
first_name path = take (name_len path) path

-- a slash follows the first name
abbrev pub has_slash : List ℕ → Bool
has_slash path = nat_lt (name_len path) (length path)

-- the path behind the first slash
abbrev pub after_name : List ℕ → List ℕ
after_name path = drop (name_len path + 1) path

abbrev pub is_absolute : List ℕ → Bool
is_absolute path = slice_index path 0 == 47

-- the name leads to the folder in which it is: no bytes, or a dot
abbrev pub is_same : List ℕ → Bool
is_same name = (length name == 0) || bytes_eq name (codes ".")

-- the name leads to the folder above
abbrev pub is_parent : List ℕ → Bool
is_parent name = bytes_eq name (codes "..")

-- the name is one of an entry: it leads neither to its own folder nor to the one above, and has no slash
abbrev pub is_plain : List ℕ → Bool
is_plain name = not (is_same name) && (not (is_parent name) && not (list_any (λ b. b == 47) name))

-- the path of the names below a folder
abbrev pub path_below : List ℕ → List (List ℕ) → List ℕ
path_below folder names = folder ++ flat_map (λ name. 47 ∷ name) names

-- the path of a name in the folder at a path
abbrev pub in_folder : List ℕ → List ℕ → List ℕ
in_folder path name = path ++ 47 ∷ name
