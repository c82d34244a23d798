-- What reading the files and folders of a policy may give.
use Rattle.std.specs.Prelude.{◌≡◌, ◌≢◌, ◌<◌, ⊤, ℕ, length, List, [], ◌∷◌, Option, None, Some, unwrap_or, Contains}
use Rattle.sudo_load.specs.declared.supply.Supply.{Supply}
use Rattle.sudo_load.specs.declared.supply.Supply.TheVariants as supplies
use Rattle.sudo_load.specs.Supplies.{supplied_file, supplied_folder}
use Rattle.sudo_text.specs.Lines.{text_limit}
use Rattle.run_base.specs.declared.files.FilesFault.{FilesFault}
use Rattle.run_base.specs.declared.files.FilesFault.TheVariants as faults
use Rattle.run_base.specs.declared.obstacle.Obstacle.{Obstacle}

-- what reading may give: the text of the file at a path, `None` if there is no file; the names of the files of the folder at a
-- path, none if there is no folder; what keeps a path from being read; and that the file at a path is longer than a file of a
-- policy may be
pub record Holdings : Type 1 where
  pub is_file : List ℕ → Option (List ℕ) → Type 0
  pub is_folder : List ℕ → List (List ℕ) → Type 0
  pub is_unreadable : List ℕ → Obstacle → Type 0
  pub is_long : List ℕ → Type 0

-- reading may give anything, as that of a disk
abbrev pub any_holdings : Holdings
any_holdings = record { is_file = λ _ _. ⊤; is_folder = λ _ _. ⊤; is_unreadable = λ _ _. ⊤; is_long = λ _. ⊤ }

-- the text of the file at a path; `None` if there is no file
abbrev pub file_at : List Supply → List ℕ → Option (List ℕ)
file_at held path = unwrap_or (supplied_file held path) None

-- the names of the files of the folder at a path; none if there is no folder
abbrev pub folder_at : List Supply → List ℕ → List (List ℕ)
folder_at held path = unwrap_or (supplied_folder held path) []

-- the file at a path is one of these, and too long
abbrev pub IsLongAmong : List Supply → List ℕ → Type 0
IsLongAmong held path = (text : List ℕ) × (file_at held path ≡ Some text) × (text_limit < length text)

-- reading gives these files and folders, and fails at these paths alone, for what stands beside each
abbrev pub holdings_of : List Supply → List (List ℕ × Obstacle) → Holdings
holdings_of held unreadable = record {
  is_file = λ path text. text ≡ file_at held path;
  is_folder = λ path names. names ≡ folder_at held path;
  is_unreadable = λ path why. Contains unreadable (path, why);
  is_long = IsLongAmong held;
}

-- why reading the file at a path gives no text: it fails, the file is too long, or memory failed
abbrev pub IsFileFault : Holdings → List ℕ → FilesFault → Type 0
IsFileFault held path (faults.Failed why) = held.is_unreadable path why
IsFileFault held path faults.TooLong = held.is_long path
IsFileFault held path faults.Memory = ⊤

-- why there are no names of the folder at a path: reading it fails, or memory failed
abbrev pub IsFolderFault : Holdings → List ℕ → FilesFault → Type 0
IsFolderFault held path fault = (fault ≢ faults.TooLong) × IsFileFault held path fault

-- this supply may exist
abbrev pub IsHeld : Holdings → Supply → Type 0
IsHeld held (supplies.File path text) = held.is_file path text
IsHeld held (supplies.Folder path names) = held.is_folder path names

-- all these supplies may exist
abbrev pub AreHeld : Holdings → List Supply → Type 0
AreHeld held [] = ⊤
AreHeld held (supply ∷ rest) = IsHeld held supply × AreHeld held rest
