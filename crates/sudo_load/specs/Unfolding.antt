-- Policies in several files. sudoers(5), "Including other files from within sudoers".
--
-- The entries of a file are those of its lines, where each include line is replaced by the entries of the file that it
-- names, or by those of its folder's files, in the order of their names. Files are numbered in the order in which they
-- are read, the main file first. The first file or folder that is missing, not provided or past a limit decides.
use Rattle.std.specs.Prelude.{◌≡◌, ℕ, zero, suc, ◌+◌, Bool, true, false, nat_lt, List, [], ◌∷◌, ◌++◌, length, map}
use Rattle.std.specs.Prelude.{filter, Option, None, Some, Result, Ok, Err}
use Rattle.std.specs.List.Sorted.{IsPermutation, IsSorted}
use Rattle.std.specs.Cmp.Lexicographic.{slice_cmp}
use Rattle.std.specs.Ordering.{nat_cmp}
use Rattle.sudo_text.specs.declared.line.Place.{Place}
use Rattle.sudo_grammar.specs.Words.{bytes_of}
use Rattle.sudo_grammar.specs.declared.policy.Entry.{Entry}
use Rattle.sudo_grammar.specs.declared.policy.EntryBody.{EntryBody}
use Rattle.sudo_grammar.specs.declared.policy.EntryBody.TheVariants as bodies
use Rattle.sudo_grammar.specs.declared.fault.ParseFault.{ParseFault}
use Rattle.sudo_load.specs.declared.fault.LoadFault.{LoadFault}
use Rattle.sudo_load.specs.declared.fault.LoadFault.TheVariants as faults
use Rattle.sudo_load.specs.declared.fault.Want.TheVariants as wants
use Rattle.sudo_load.specs.declared.loading.LoadState.{LoadState}
use Rattle.sudo_load.specs.declared.supply.Supply.{Supply}
use Rattle.sudo_load.specs.Files.{HasContent}
use Rattle.sudo_load.specs.Paths.{beside, in_folder, is_kept}
use Rattle.sudo_load.specs.Supplies.{supplied_file, supplied_folder}

-- the maximum number of files that are read, including the main one, and of folders
abbrev pub reading_limit : ℕ
reading_limit = 1024

-- the maximum depth of nested includes
abbrev pub nesting_limit : ℕ
nesting_limit = 128

-- a fault, with the paths of the files read up to it
abbrev pub Refusal : Type 0
Refusal = List (List ℕ) × LoadFault

-- the state of loading, or a refusal
abbrev pub Outcome : Type 0
Outcome = Result LoadState Refusal

abbrev pub refused_with : LoadState → LoadFault → Outcome
refused_with loaded fault = Err (loaded.files, fault)

-- one more file is read
abbrev pub with_file : LoadState → List ℕ → LoadState
with_file loaded path = record { files = loaded.files ++ path ∷ []; folders = loaded.folders; entries = loaded.entries }

-- one more folder is read
abbrev pub with_folder : LoadState → LoadState
with_folder loaded = record { files = loaded.files; folders = loaded.folders + 1; entries = loaded.entries }

-- one more entry is loaded
abbrev pub with_entry : LoadState → Entry → LoadState
with_entry loaded entry = record { files = loaded.files; folders = loaded.folders; entries = loaded.entries ++ entry ∷ [] }

-- the proposition A if the test holds, and B otherwise
abbrev pub IfElse : Bool → Type 0 → Type 0 → Type 0
IfElse true A B = A
IfElse false A B = B

-- the next step begins in the state that is reached; a refusal ends the loading
abbrev pub Then : Outcome → (LoadState → Outcome → Type 0) → Outcome → Type 0
Then (Ok loaded) next outcome = next loaded outcome
Then (Err refusal) next outcome = outcome ≡ Err refusal

-- the inclusion of the file at a path at a place: the state before and the outcome
abbrev pub Inclusion : Type 1
Inclusion = LoadState → Place → List ℕ → Outcome → Type 0

-- the files at these paths are included, one after another
abbrev pub FilesLoad : Inclusion → LoadState → Place → List (List ℕ) → Outcome → Type 0
FilesLoad include loaded place [] outcome = outcome ≡ Ok loaded
FilesLoad include loaded place (path ∷ paths) outcome =
    (first : Outcome) × include loaded place path first × Then first (λ after. FilesLoad include after place paths) outcome

-- the files of a folder that are read, in the order of their names' bytes
abbrev pub IsFolderOrder : List (List ℕ) → List (List ℕ) → Type 0
IsFolderOrder names ordered = IsPermutation (filter is_kept names) ordered × IsSorted (slice_cmp nat_cmp) ordered

abbrev pub NamesLoad : Inclusion → LoadState → Place → List ℕ → Option (List (List ℕ)) → Outcome → Type 0
NamesLoad include loaded place path None outcome = outcome ≡ refused_with loaded (faults.Wanted (wants.Folder path))
NamesLoad include loaded place path (Some names) outcome =
    (ordered : List (List ℕ)) × IsFolderOrder names ordered
    × FilesLoad include (with_folder loaded) place (map (in_folder path) ordered) outcome

-- the folder at a path is included at a place
abbrev pub FolderLoads : Inclusion → List Supply → LoadState → Place → List ℕ → Outcome → Type 0
FolderLoads include supplies loaded place path outcome =
    IfElse (nat_lt loaded.folders reading_limit) (NamesLoad include loaded place path (supplied_folder supplies path) outcome)
    (outcome ≡ refused_with loaded (faults.TooMany place))

-- the folder or the file, by its path, that an include line of the file at a path names
abbrev pub include_of : List ℕ → EntryBody → Option (Bool × List ℕ)
include_of file (bodies.Include folder hash path) = Some (folder, beside file (bytes_of path))
include_of file body = None

abbrev pub IncludeLoads : Inclusion → List Supply → LoadState → Place → Bool → List ℕ → Outcome → Type 0
IncludeLoads include supplies loaded place true path outcome = FolderLoads include supplies loaded place path outcome
IncludeLoads include supplies loaded place false path outcome = include loaded place path outcome

abbrev pub EntryLoadsBy : Inclusion → List Supply → LoadState → Entry → Option (Bool × List ℕ) → Outcome → Type 0
EntryLoadsBy include supplies loaded entry None outcome = outcome ≡ Ok (with_entry loaded entry)
EntryLoadsBy include supplies loaded entry (Some named) outcome = IncludeLoads include supplies loaded entry.place named.0 named.1 outcome

-- a line of the file at a path: an include line is replaced, any other is loaded as it is
abbrev pub EntryLoads : Inclusion → List Supply → List ℕ → LoadState → Entry → Outcome → Type 0
EntryLoads include supplies file loaded entry outcome = EntryLoadsBy include supplies loaded entry (include_of file entry.body) outcome

-- the lines of the file at a path, one after another
abbrev pub EntriesLoad : Inclusion → List Supply → List ℕ → LoadState → List Entry → Outcome → Type 0
EntriesLoad include supplies file loaded [] outcome = outcome ≡ Ok loaded
EntriesLoad include supplies file loaded (entry ∷ entries) outcome =
    (first : Outcome) × EntryLoads include supplies file loaded entry first
    × Then first (λ after. EntriesLoad include supplies file after entries) outcome

abbrev pub LinesLoad : Inclusion → List Supply → List ℕ → LoadState → Result (List Entry) ParseFault → Outcome → Type 0
LinesLoad include supplies file loaded (Ok entries) outcome = EntriesLoad include supplies file loaded entries outcome
LinesLoad include supplies file loaded (Err fault) outcome = outcome ≡ refused_with loaded (faults.Parse fault)

-- the text of a file, which is parsed whole before its includes are resolved
abbrev pub TextLoads : Inclusion → List Supply → LoadState → List ℕ → List ℕ → Outcome → Type 0
TextLoads include supplies loaded path text outcome =
    (read : Result (List Entry) ParseFault) × HasContent (length loaded.files) text read
    × LinesLoad include supplies path (with_file loaded path) read outcome

abbrev pub SuppliedLoads : Inclusion → List Supply → LoadState → Place → List ℕ → Option (Option (List ℕ)) → Outcome → Type 0
SuppliedLoads include supplies loaded place path None outcome = outcome ≡ refused_with loaded (faults.Wanted (wants.File path))
SuppliedLoads include supplies loaded place path (Some None) outcome = outcome ≡ refused_with loaded (faults.Missing place path)
SuppliedLoads include supplies loaded place path (Some (Some text)) outcome = TextLoads include supplies loaded path text outcome

-- the file at a path is included at a place, with `levels` levels of includes left
unfoldable pub FileLoads : ℕ → List Supply → Inclusion
FileLoads zero supplies loaded place path outcome = outcome ≡ refused_with loaded (faults.TooNested place)
FileLoads (suc levels) supplies loaded place path outcome =
    IfElse (nat_lt (length loaded.files) reading_limit)
    (SuppliedLoads (FileLoads levels supplies) supplies loaded place path (supplied_file supplies path) outcome)
    (outcome ≡ refused_with loaded (faults.TooMany place))

abbrev pub nothing_loaded : LoadState
nothing_loaded = record { files = []; folders = 0; entries = [] }

-- the main file, with all that it includes
abbrev pub Unfolds : List ℕ → List ℕ → List Supply → Outcome → Type 0
Unfolds path text supplies outcome = TextLoads (FileLoads nesting_limit supplies) supplies nothing_loaded path text outcome
