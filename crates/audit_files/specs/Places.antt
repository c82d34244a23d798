-- Places of a policy, as they are printed.
use Rattle.std.specs.Prelude.{ℕ, List, [], ◌++◌, codes, decimal, slice_index_or}
use Rattle.sudo_text.specs.declared.line.Place.{Place}

-- the path of the file with this number
abbrev pub path_of : List (List ℕ) → ℕ → List ℕ
path_of files file = slice_index_or files file []

-- `PATH:LINE`
abbrev pub place_text : List (List ℕ) → Place → List ℕ
place_text files place = path_of files place.file ++ codes ":" ++ decimal place.line
