-- What is read at the path to which a path below a folder leads.
use Rattle.std.specs.Prelude.{◌≡◌, ◌⊎◌, ℕ, Bool, true, false, if◌then◌else◌, List, [], ◌∷◌, ◌++◌, Option, None, Ok, Err, Result, IfOk}
use Rattle.std.specs.Prelude.{IsErrOf}
use Rattle.run_base.specs.Holding.{Holdings}
use Rattle.run_base.specs.declared.files.FilesFault.{FilesFault}
use Rattle.run_base.specs.declared.files.FilesFault.TheVariants as faults
use Rattle.run_base.specs.declared.obstacle.Obstacle.TheVariants as obstacles
use Rattle.review_files.specs.declared.tree.Entry.{Entry}
use Rattle.review_files.specs.declared.tree.Kind.TheVariants as kinds
use Rattle.review_files.specs.declared.walk.Outcome.{Outcome}
use Rattle.review_files.specs.declared.walk.Outcome.TheVariants as outcomes
use Rattle.review_files.specs.Paths.{in_folder, path_below}
use Rattle.review_files.specs.Resolving.{Resolves}

-- the text of the file to which a path leads, or why there is none; `reads` says what reading a path may give
abbrev pub GivesText : (List ℕ → Option (List ℕ) → Type 0) → List ℕ → Outcome → Result (Option (List ℕ)) FilesFault → Type 0
GivesText reads folder (outcomes.At names kinds.File) result = IfOk result (reads (path_below folder names))
GivesText reads folder (outcomes.At names kinds.Folder) result = result ≡ Err (faults.Failed obstacles.IsFolder)
GivesText reads folder (outcomes.At names kinds.Other) result = result ≡ Err (faults.Failed obstacles.NotFile)
GivesText reads folder outcomes.Missing result = result ≡ Ok None
GivesText reads folder (outcomes.Stopped why) result = result ≡ Err (faults.Failed why)

-- the file at a path below the folder is read, or allocation failed
abbrev pub IsText : (List ℕ → Entry → Type 0) → (List ℕ → Option (List ℕ) → Type 0) → List ℕ → List ℕ
    → Result (Option (List ℕ)) FilesFault → Type 0
IsText shows reads folder path result =
    IsErrOf result faults.Memory
    ⊎ ((outcome : Outcome) × Resolves shows folder path outcome × GivesText reads folder outcome result)

-- an entry is listed: it leads to a regular file, or nowhere, so that reading it fails by its own path
abbrev pub is_listed : Outcome → Bool
is_listed (outcomes.At names kinds.File) = true
is_listed (outcomes.At names kinds.Folder) = false
is_listed (outcomes.At names kinds.Other) = false
is_listed outcomes.Missing = false
is_listed (outcomes.Stopped why) = true

-- the name, if its entry in the folder at a path is listed; otherwise nothing
abbrev pub IsListing : (List ℕ → Entry → Type 0) → List ℕ → List ℕ → List ℕ → List (List ℕ) → Type 0
IsListing shows folder path name listing =
    (outcome : Outcome) × Resolves shows folder (in_folder path name) outcome
    × (listing ≡ (if is_listed outcome then name ∷ [] else []))

-- of the names of the entries of the folder at a path, these are listed
abbrev pub AreListed : (List ℕ → Entry → Type 0) → List ℕ → List ℕ → List (List ℕ) → List (List ℕ) → Type 0
AreListed shows folder path [] listed = listed ≡ []
AreListed shows folder path (name ∷ names) listed =
    (listing more : List (List ℕ)) × IsListing shows folder path name listing × AreListed shows folder path names more
    × (listed ≡ listing ++ more)

-- names of the folder to which a path leads: `lists` says which names of entries reading a path may give
abbrev pub GivesNames : (List ℕ → Entry → Type 0) → (List ℕ → List (List ℕ) → Type 0) → List ℕ → List ℕ → Outcome
    → Result (List (List ℕ)) FilesFault → Type 0
GivesNames shows lists folder path (outcomes.At names kinds.Folder) result =
    IfOk result (λ listed. (entries : List (List ℕ)) × lists (path_below folder names) entries
    × AreListed shows folder path entries listed)
GivesNames shows lists folder path (outcomes.At names kinds.File) result = result ≡ Err (faults.Failed obstacles.NotFolder)
GivesNames shows lists folder path (outcomes.At names kinds.Other) result = result ≡ Err (faults.Failed obstacles.NotFolder)
GivesNames shows lists folder path outcomes.Missing result = result ≡ Ok []
GivesNames shows lists folder path (outcomes.Stopped why) result = result ≡ Err (faults.Failed why)

-- the folder at a path below the folder is read, or allocation failed
abbrev pub AreNames : (List ℕ → Entry → Type 0) → (List ℕ → List (List ℕ) → Type 0) → List ℕ → List ℕ
    → Result (List (List ℕ)) FilesFault → Type 0
AreNames shows lists folder path result =
    IsErrOf result faults.Memory
    ⊎ ((outcome : Outcome) × Resolves shows folder path outcome × GivesNames shows lists folder path outcome result)

-- what reading the files and folders below the folder may give
abbrev pub below : (List ℕ → Entry → Type 0) → (List ℕ → Option (List ℕ) → Type 0) → (List ℕ → List (List ℕ) → Type 0) → List ℕ
    → Holdings
below shows reads lists folder = record {
  is_file = λ path text. IsText shows reads folder path (Ok text);
  is_folder = λ path names. AreNames shows lists folder path (Ok names);
  is_unreadable = λ path why. IsText shows reads folder path (Err (faults.Failed why))
      ⊎ AreNames shows lists folder path (Err (faults.Failed why));
  is_long = λ path. IsText shows reads folder path (Err faults.TooLong);
}
