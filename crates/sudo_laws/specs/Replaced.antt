-- A policy in several files: each include line is replaced by the entries of the files that it names.
-- sudoers(5), "Including other files from within sudoers".
use Rattle.std.specs.Prelude.{◌≡◌, ℕ, ◌+◌, Bool, true, false, List, [], ◌∷◌, ◌++◌, length, map, None, Ok, Some}
use Rattle.sudo_grammar.specs.declared.policy.Entry.{Entry}
use Rattle.sudo_grammar.specs.declared.policy.Policy.{Policy}
use Rattle.sudo_load.specs.Files.{HasContent}
use Rattle.sudo_load.specs.Paths.{in_folder}
use Rattle.sudo_load.specs.Supplies.{supplied_file, supplied_folder}
use Rattle.sudo_load.specs.Unfolding.{include_of, IsFolderOrder}
use Rattle.sudo_load.specs.declared.supply.Supply.{Supply}

-- the paths that an include line names: that of a file, or those of the kept files of a folder, in the order of their
-- names' bytes
abbrev pub Names : List Supply → Bool → List ℕ → List (List ℕ) → Type 0
Names supplies false path targets = targets ≡ path ∷ []
Names supplies true path targets =
    (names : List (List ℕ)) × (ordered : List (List ℕ)) × (supplied_folder supplies path ≡ Some names)
    × IsFolderOrder names ordered × (targets ≡ map (in_folder path) ordered)

-- what lines and files give: entries, and the paths of the files that are read for them, in reading order; `number` is that
-- of the next file to be read
mutual
  -- the lines of the file at a path: an include line gives what its files give, any other line gives itself
  pub data LinesGive (supplies : List Supply) : List ℕ → ℕ → List Entry → List Entry → List (List ℕ) → Type 0 where
    no_line : (file : List ℕ) (number : ℕ) → LinesGive supplies file number [] [] []
    line : (file : List ℕ) (number : ℕ) (entry : Entry) (lines entries : List Entry) (paths : List (List ℕ))
        → include_of file entry.body ≡ None → LinesGive supplies file number lines entries paths
        → LinesGive supplies file number (entry ∷ lines) (entry ∷ entries) paths
    include_line : (file : List ℕ) (number : ℕ) (entry : Entry) (folder : Bool) (path : List ℕ) (targets : List (List ℕ))
        (lines entries more : List Entry) (paths later : List (List ℕ))
        → include_of file entry.body ≡ Some (folder, path) → Names supplies folder path targets
        → FilesGive supplies number targets entries paths
        → LinesGive supplies file (number + length paths) lines more later
        → LinesGive supplies file number (entry ∷ lines) (entries ++ more) (paths ++ later)

  -- the file at a path: what its lines give
  pub data FileGives (supplies : List Supply) : ℕ → List ℕ → List Entry → List (List ℕ) → Type 0 where
    read : (number : ℕ) (path text : List ℕ) (lines entries : List Entry) (paths : List (List ℕ))
        → supplied_file supplies path ≡ Some (Some text) → HasContent number text (Ok lines)
        → LinesGive supplies path (number + 1) lines entries paths
        → FileGives supplies number path entries (path ∷ paths)

  -- the files at these paths, one after another
  pub data FilesGive (supplies : List Supply) : ℕ → List (List ℕ) → List Entry → List (List ℕ) → Type 0 where
    no_file : (number : ℕ) → FilesGive supplies number [] [] []
    file : (number : ℕ) (path : List ℕ) (targets : List (List ℕ)) (entries more : List Entry) (paths later : List (List ℕ))
        → FileGives supplies number path entries paths → FilesGive supplies (number + length paths) targets more later
        → FilesGive supplies number (path ∷ targets) (entries ++ more) (paths ++ later)

-- the policy has what the lines of the main file give, and the paths in reading order, the main file's first
pub record IsReplaced (supplies : List Supply) (path text : List ℕ) (policy : Policy) : Type 0 where
  pub lines : List Entry
  pub paths : List (List ℕ)
  pub content : HasContent 0 text (Ok lines)
  pub gives : LinesGive supplies path 1 lines policy.entries paths
  pub files : policy.files ≡ path ∷ paths
