-- Paths of included files. sudoers(5), "Including other files from within sudoers".
use Rattle.std.specs.Prelude.{ℕ, Bool, false, not, ◌&&◌, ◌==◌, List, [], ◌∷◌, ◌++◌, length, take, reverse, slice_index, ◌-◌, if◌then◌else◌}
use Rattle.std.specs.List.{take_while, list_any}

-- the bytes of a path up to and including its last `/`
abbrev pub folder_of : List ℕ → List ℕ
folder_of path = take (length path - length (take_while (λ b. not (b == 47)) (reverse path))) path

abbrev pub is_absolute : List ℕ → Bool
is_absolute [] = false
is_absolute (b ∷ bs) = b == 47

abbrev pub ends_in : ℕ → List ℕ → Bool
ends_in b [] = false
ends_in b (c ∷ cs) = slice_index (c ∷ cs) (length cs) == b

abbrev pub ends_in_slash : List ℕ → Bool
ends_in_slash = ends_in 47

-- the path that a file names: a relative one is in the file's folder
abbrev pub beside : List ℕ → List ℕ → List ℕ
beside file path = if is_absolute path then path else folder_of file ++ path

-- the path of a folder's file
abbrev pub in_folder : List ℕ → List ℕ → List ℕ
in_folder folder name = if ends_in_slash folder then folder ++ name else folder ++ 47 ∷ name

abbrev pub has_dot : List ℕ → Bool
has_dot = list_any (λ b. b == 46)

abbrev pub ends_in_tilde : List ℕ → Bool
ends_in_tilde = ends_in 126

-- a folder's file is read unless its name ends in `~` or contains `.`
abbrev pub is_kept : List ℕ → Bool
is_kept name = not (has_dot name) && not (ends_in_tilde name)
