-- The provided files and folders: of two supplies of one kind and path the first counts.
use Rattle.std.specs.Prelude.{ℕ, List, [], ◌∷◌, Option, None, Some, if◌then◌else◌}
use Rattle.std.specs.Option.{option_or}
use Rattle.std.specs.Str.{bytes_eq}
use Rattle.sudo_load.specs.declared.supply.Supply.{Supply}
use Rattle.sudo_load.specs.declared.supply.Supply.TheVariants as supplies

-- the file's text, or none if there is no such file, if this is its supply
abbrev pub file_in : List ℕ → Supply → Option (Option (List ℕ))
file_in path (supplies.File found text) = if bytes_eq found path then Some text else None
file_in path (supplies.Folder found names) = None

-- the names of the folder's files, if this is its supply
abbrev pub folder_in : List ℕ → Supply → Option (List (List ℕ))
folder_in path (supplies.File found text) = None
folder_in path (supplies.Folder found names) = if bytes_eq found path then Some names else None

-- the first result of f on the supplies
abbrev pub first_of : {A : Type 0} → (Supply → Option A) → List Supply → Option A
first_of f [] = None
first_of f (s ∷ rest) = option_or (f s) (first_of f rest)

abbrev pub supplied_file : List Supply → List ℕ → Option (Option (List ℕ))
supplied_file handed path = first_of (file_in path) handed

abbrev pub supplied_folder : List Supply → List ℕ → Option (List (List ℕ))
supplied_folder handed path = first_of (folder_in path) handed
