-- Each main file is loaded, or loading it is refused.
use Rattle.std.proofs.Common.{◌≡◌, ℕ, zero, suc, Bool, true, false, List, [], ◌∷◌, length, map, filter, Option, None}
use Rattle.std.proofs.Common.{Some, Result, Ok, Err, refl, inl, inr}
use Rattle.std.specs.Prelude.{nat_lt}
use Rattle.sudo_grammar.specs.declared.fault.ParseFault.{ParseFault}
use Rattle.sudo_grammar.specs.declared.fault.ParseFault.TheVariants as parse_faults
use Rattle.sudo_grammar.specs.declared.policy.Entry.{Entry}
use Rattle.sudo_grammar.specs.declared.policy.Policy.{Policy}
use Rattle.sudo_laws.proofs.EntryOutcomes.{entries_or_fault}
use Rattle.sudo_laws.proofs.OrderedNames.{names_have_order}
use Rattle.sudo_laws.proofs.RunOutcomes.{Domain}
use Rattle.sudo_load.proofs.EntryPlaces.{unfolded_fine}
use Rattle.sudo_load.specs.Body.IsConsistent.{IsConsistent}
use Rattle.sudo_load.specs.Files.{HasContent}
use Rattle.sudo_load.specs.Load.{Closes, IsLoad}
use Rattle.sudo_load.specs.Paths.{in_folder, is_kept}
use Rattle.sudo_load.specs.Supplies.{supplied_file, supplied_folder}
use Rattle.sudo_load.specs.Unfolding.{EntriesLoad, EntryLoadsBy, FileLoads, FilesLoad, FolderLoads, IfElse, IncludeLoads}
use Rattle.sudo_load.specs.Unfolding.{Inclusion, LinesLoad, NamesLoad, Outcome, Refusal, SuppliedLoads, TextLoads, Then, include_of}
use Rattle.sudo_load.specs.Unfolding.{nesting_limit, nothing_loaded, reading_limit, refused_with, with_entry, with_file, with_folder}
use Rattle.sudo_load.specs.declared.fault.LoadFault.TheVariants as faults
use Rattle.sudo_load.specs.declared.fault.Want.TheVariants as wants
use Rattle.sudo_load.specs.declared.supply.Supply.{Supply}
use Rattle.sudo_parser.specs.Parsed.{over_limit}
use Rattle.sudo_text.specs.Lines.{lines_of}
use Rattle.sudo_text.specs.declared.fault.TextFault.{TextFault}
use Rattle.sudo_text.specs.declared.line.Line.{Line}
use Rattle.sudo_text.specs.declared.line.Place.{Place}

-- the state of loading is a type of its crate alone: here it is what a function takes
abbrev LoadState : Type 0
LoadState = Domain with_folder

-- the file with this number has entries, or a fault
pub content_of : (file : ℕ) (text : List ℕ) → (read : Result (List Entry) ParseFault) × HasContent file text read
content_of file text = by (lines_of file text) refl
  where
    by : (r : Result (List Line) TextFault) → lines_of file text ≡ r → (read : Result (List Entry) ParseFault) × HasContent file text read
    by (Err why) is = (Err (parse_faults.Text why), inl (why, is, refl))
    by (Ok lines) is = elim (entries_or_fault lines) [
      | inl said ↦ (Ok said.0, (lines, is, said.1))
      | inr faulty ↦ (Err faulty.0, inr (lines, is, faulty.1))
    ]

-- ---- The steps of loading

then_ends : (first : Outcome) (next : LoadState → Outcome → Type 0) → ((after : LoadState) → (outcome : Outcome) × next after outcome)
    → (outcome : Outcome) × Then first next outcome
then_ends (Ok after) next ends = ends after
then_ends (Err refusal) next ends = (Err refusal, refl)

if_ends : (b : Bool) (A B : Outcome → Type 0) → ((outcome : Outcome) × A outcome) → ((outcome : Outcome) × B outcome)
    → (outcome : Outcome) × IfElse b (A outcome) (B outcome)
if_ends true A B then_has else_has = then_has
if_ends false A B then_has else_has = else_has

-- each inclusion has an outcome
abbrev Ends : Inclusion → Type 0
Ends include = (loaded : LoadState) (place : Place) (path : List ℕ) → (outcome : Outcome) × include loaded place path outcome

module _ (include : Inclusion) (ends : Ends include) (supplies : List Supply) where
  files_end : (loaded : LoadState) (place : Place) (paths : List (List ℕ))
      → (outcome : Outcome) × FilesLoad include loaded place paths outcome
  files_end loaded place [] = (Ok loaded, refl)
  files_end loaded place (path ∷ paths) =
      let first = ends loaded place path in
      let rest = then_ends first.0 (λ after. FilesLoad include after place paths) (λ after. files_end after place paths) in
      (rest.0, (first.0, first.1, rest.1))

  names_end : (loaded : LoadState) (place : Place) (path : List ℕ) (names : Option (List (List ℕ)))
      → (outcome : Outcome) × NamesLoad include loaded place path names outcome
  names_end loaded place path None = (refused_with loaded (faults.Wanted (wants.Folder path)), refl)
  names_end loaded place path (Some names) =
      let order = names_have_order (filter is_kept names) in
      let rest = files_end (with_folder loaded) place (map (in_folder path) order.0) in
      (rest.0, (order.0, (order.1, order.2), rest.1))

  folder_ends : (loaded : LoadState) (place : Place) (path : List ℕ)
      → (outcome : Outcome) × FolderLoads include supplies loaded place path outcome
  folder_ends loaded place path =
      if_ends (nat_lt loaded.folders reading_limit)
      (λ outcome. NamesLoad include loaded place path (supplied_folder supplies path) outcome)
      (λ outcome. outcome ≡ refused_with loaded (faults.TooMany place))
      (names_end loaded place path (supplied_folder supplies path))
      (refused_with loaded (faults.TooMany place), refl)

  include_ends : (loaded : LoadState) (place : Place) (folder : Bool) (path : List ℕ)
      → (outcome : Outcome) × IncludeLoads include supplies loaded place folder path outcome
  include_ends loaded place true path = folder_ends loaded place path
  include_ends loaded place false path = ends loaded place path

  entry_ends : (loaded : LoadState) (entry : Entry) (named : Option (Bool × List ℕ))
      → (outcome : Outcome) × EntryLoadsBy include supplies loaded entry named outcome
  entry_ends loaded entry None = (Ok (with_entry loaded entry), refl)
  entry_ends loaded entry (Some named) = include_ends loaded entry.place named.0 named.1

  entries_end : (file : List ℕ) (loaded : LoadState) (entries : List Entry)
      → (outcome : Outcome) × EntriesLoad include supplies file loaded entries outcome
  entries_end file loaded [] = (Ok loaded, refl)
  entries_end file loaded (entry ∷ entries) =
      let first = entry_ends loaded entry (include_of file entry.body) in
      let rest = then_ends first.0 (λ after. EntriesLoad include supplies file after entries) (λ after. entries_end file after entries) in
      (rest.0, (first.0, first.1, rest.1))

  lines_end : (file : List ℕ) (loaded : LoadState) (read : Result (List Entry) ParseFault)
      → (outcome : Outcome) × LinesLoad include supplies file loaded read outcome
  lines_end file loaded (Ok entries) = entries_end file loaded entries
  lines_end file loaded (Err fault) = (refused_with loaded (faults.Parse fault), refl)

  text_ends : (loaded : LoadState) (path text : List ℕ) → (outcome : Outcome) × TextLoads include supplies loaded path text outcome
  text_ends loaded path text =
      let content = content_of (length loaded.files) text in
      let rest = lines_end path (with_file loaded path) content.0 in
      (rest.0, (content.0, content.1, rest.1))

  supplied_ends : (loaded : LoadState) (place : Place) (path : List ℕ) (found : Option (Option (List ℕ)))
      → (outcome : Outcome) × SuppliedLoads include supplies loaded place path found outcome
  supplied_ends loaded place path None = (refused_with loaded (faults.Wanted (wants.File path)), refl)
  supplied_ends loaded place path (Some None) = (refused_with loaded (faults.Missing place path), refl)
  supplied_ends loaded place path (Some (Some text)) = text_ends loaded path text

file_ends : (levels : ℕ) (supplies : List Supply) → Ends (FileLoads levels supplies)
unfolding FileLoads
file_ends zero supplies = λ loaded place path. (refused_with loaded (faults.TooNested place), refl)
file_ends (suc levels) supplies = λ loaded place path.
    if_ends (nat_lt (length loaded.files) reading_limit)
    (λ outcome. SuppliedLoads (FileLoads levels supplies) supplies loaded place path (supplied_file supplies path) outcome)
    (λ outcome. outcome ≡ refused_with loaded (faults.TooMany place))
    (supplied_ends (FileLoads levels supplies) (file_ends levels supplies) supplies loaded place path (supplied_file supplies path))
    (refused_with loaded (faults.TooMany place), refl)

closed : (loaded : LoadState) → IsConsistent loaded → (over : Option Place) → (result : Result Policy Refusal) × Closes loaded over result
closed loaded fine None = (
  Ok (record { files = loaded.files; entries = loaded.entries; placed = fine.placed; unfolded = fine.unfolded }),
  (refl, refl),
)
closed loaded fine (Some place) = (Err (loaded.files, faults.Parse (parse_faults.TooMany place)), refl)

-- each main file has a load: a policy or a refusal
pub load_of : (path text : List ℕ) (supplies : List Supply) → (result : Result Policy Refusal) × IsLoad path text supplies result
load_of path text supplies =
    let unfolds = text_ends (FileLoads nesting_limit supplies) (file_ends nesting_limit supplies) supplies nothing_loaded path text in
    by unfolds.0 unfolds.1
  where
    by : (outcome : Outcome) → TextLoads (FileLoads nesting_limit supplies) supplies nothing_loaded path text outcome
        → (result : Result Policy Refusal) × IsLoad path text supplies result
    by (Err refusal) unfolds = (Err refusal, (Err refusal, unfolds, refl))
    by (Ok loaded) unfolds =
        let last = closed loaded (unfolded_fine nesting_limit path text supplies loaded unfolds) (over_limit loaded.entries) in
        (last.0, (Ok loaded, unfolds, last.1))
