-- The loaded entries belong to the files that were read, and none is an include line; and a fault lies in one of those
-- files.
use Rattle.std.proofs.Common.{◌≡◌, ℕ, zero, suc, ◌+◌, ◌<◌, ◌≤◌, Bool, true, false, List, [], ◌∷◌, ◌++◌, length}
use Rattle.std.proofs.Common.{Option, None, Some, Result, Ok, Err, inl, inr, refl, sym, ◌∙◌, ap, subst, arith}
use Rattle.std.proofs.Common.{length-append}
use Rattle.std.specs.Prelude.{⊤, ◌≢◌, not, nat_lt, map, if◌then◌else◌}
use Rattle.std.specs.List.{list_all}
use Rattle.std.proofs.lemmas.Bool.Decides.{nat_tests}
use Rattle.std.proofs.lemmas.Bool.{and_from}
use Rattle.sudo_base.proofs.Booleans.{and_first, and_second}
use Rattle.sudo_text.specs.declared.line.Line.{Line}
use Rattle.sudo_text.specs.declared.line.Place.{Place}
use Rattle.sudo_text.specs.declared.fault.TextFault.{TextFault}
use Rattle.sudo_text.specs.declared.fault.TextFault.TheVariants as texts
use Rattle.sudo_text.specs.Lines.{runs, is_cut_short, line_of, with_front, lines_of_runs, lines_of, physical_lines}
use Rattle.sudo_grammar.specs.declared.policy.Entry.{Entry}
use Rattle.sudo_grammar.specs.declared.policy.EntryBody.{EntryBody}
use Rattle.sudo_grammar.specs.declared.policy.EntryBody.TheVariants as bodies
use Rattle.sudo_grammar.specs.declared.fault.ParseFault.{ParseFault}
use Rattle.sudo_grammar.specs.Body.Includes.{is_include_entry}
use Rattle.sudo_grammar.specs.declared.fault.Refusal.{Refusal as GrammarRefusal}
use Rattle.sudo_grammar.specs.declared.fault.Refusal.TheVariants as refusals
use Rattle.sudo_text.specs.Tokens.{fault_place}
use Rattle.sudo_text.proofs.FaultPlace.{faults_placed}
use Rattle.sudo_grammar.specs.declared.kind.Kind.{Kind}
use Rattle.sudo_parser.specs.Limits.{less}
use Rattle.sudo_parser.specs.Parsed.{AreEntriesAfter, entry_of, IsLineFault, IsFirstFaultAfter, room_after, column}
use Rattle.sudo_parser.specs.Parsed.{fault_at, fits_room, over_limit_from}
use Rattle.sudo_load.specs.FaultFiles.{text_file, parse_file, IsBelow, IsInFiles}
use Rattle.sudo_load.specs.declared.fault.LoadFault.TheVariants as faults
use Rattle.sudo_load.specs.declared.fault.LoadFault.{LoadFault}
use Rattle.sudo_load.specs.declared.loading.LoadState.{LoadState}
use Rattle.sudo_load.specs.declared.supply.Supply.{Supply}
use Rattle.sudo_load.specs.Files.{HasContent}
use Rattle.sudo_load.specs.Load.{IsLoad}
use Rattle.sudo_load.specs.Body.IsConsistent.{placed_in, IsConsistent}
use Rattle.sudo_load.specs.Supplies.{supplied_file, supplied_folder}
use Rattle.sudo_load.specs.Paths.{in_folder}
use Rattle.sudo_load.specs.Unfolding.{Refusal, Outcome, Inclusion, with_file, with_folder, with_entry, Then, IfElse}
use Rattle.sudo_load.specs.Unfolding.{FilesLoad, NamesLoad, FolderLoads, IncludeLoads, EntryLoadsBy, EntriesLoad}
use Rattle.sudo_load.specs.Unfolding.{LinesLoad, TextLoads, SuppliedLoads, FileLoads, include_of, nothing_loaded}

-- Each of the lines stands in the file.
abbrev pub InFile : ℕ → List Line → Type 0
InFile file [] = ⊤
InFile file (line ∷ lines) = (line.first.file ≡ file) × InFile file lines

-- A file's number, where there is one, is this.
abbrev pub StandsIn : ℕ → Option ℕ → Type 0
StandsIn file None = ⊤
StandsIn file (Some found) = found ≡ file

InResult : ℕ → Result (List Line) TextFault → Type 0
InResult file (Ok lines) = InFile file lines
InResult file (Err fault) = StandsIn file (text_file fault)

in_front : (file : ℕ) (line : Line) (r : Result (List Line) TextFault) → line.first.file ≡ file → InResult file r
    → InResult file (with_front (line ∷ []) r)
unfolding InResult
in_front file line (Ok lines) at rest = (at, rest)
in_front file line (Err fault) at rest = rest

numbered_in : (file : ℕ) (short : Bool) (number : ℕ) (rs : List (List (List ℕ))) → InResult file (lines_of_runs file short number rs)
unfolding InResult
numbered_in file short number [] = tt
numbered_in file true number (run ∷ []) = refl
numbered_in file false number (run ∷ []) = (refl, tt)
numbered_in file short number (run ∷ next ∷ rest) =
    in_front file (line_of file number run) (lines_of_runs file short (number + length run) (next ∷ rest)) refl
    (numbered_in file short (number + length run) (next ∷ rest))

lines_are_in : (file : ℕ) (text : List ℕ) → InResult file (lines_of file text)
unfolding InResult
lines_are_in file text =
    elim (nat_lt 16777216 (length text)) as (λ b. InResult file
    (if b then Err (texts.TooLong file) else lines_of_runs file (is_cut_short false (physical_lines text)) 1
    (runs false (physical_lines text))))
    [ true ↦ refl | false ↦ numbered_in file (is_cut_short false (physical_lines text)) 1 (runs false (physical_lines text)) ]

lines_in : (file : ℕ) (text : List ℕ) (lines : List Line) → lines_of file text ≡ Ok lines → InFile file lines
unfolding InResult
lines_in file text lines is = subst (InResult file) is (lines_are_in file text)

lines_fault_in : (file : ℕ) (text : List ℕ) (fault : TextFault) → lines_of file text ≡ Err fault → StandsIn file (text_file fault)
unfolding InResult
lines_fault_in file text fault is = subst (InResult file) is (lines_are_in file text)

-- Each of the entries stands in the file.
abbrev pub EntriesIn : ℕ → List Entry → Type 0
EntriesIn file [] = ⊤
EntriesIn file (entry ∷ entries) = (entry.place.file ≡ file) × EntriesIn file entries

said_in : (file : ℕ) (line : Line) (said : Option EntryBody) (rest : List Entry) → line.first.file ≡ file
    → EntriesIn file rest → EntriesIn file (entry_of line said ++ rest)
said_in file line None rest at more = more
said_in file line (Some body) rest at more = (at, more)

entries-in : (file : ℕ) (before : List Entry) (lines : List Line) (entries : List Entry) → InFile file lines
    → AreEntriesAfter before lines entries → EntriesIn file entries
entries-in file before [] entries at are = subst (EntriesIn file) (sym are) tt
entries-in file before (line ∷ lines) entries at (said, rest, says, are, whole) =
    subst (EntriesIn file) (sym whole)
    (said_in file line said rest at.0 (entries-in file (before ++ entry_of line said) lines rest at.1 are))

-- What the file of this number says stands in it.
pub read_in : (file : ℕ) (text : List ℕ) (entries : List Entry) → HasContent file text (Ok entries) → EntriesIn file entries
read_in file text entries (lines, is, are) = entries-in file [] lines entries (lines_in file text lines is) are

text_file-of : (fault : TextFault) (place : Place) → fault_place fault ≡ Some place → text_file fault ≡ Some place.file
text_file-of (texts.BadQuote found col) place is = cc
text_file-of (texts.BadHex found col) place is = cc
text_file-of (texts.BadEscape found col) place is = cc
text_file-of (texts.NotPrintable found col) place is = cc
text_file-of (texts.TooLong file) place is = absurd cc
text_file-of texts.Memory place is = absurd cc

refusal-in : (first : Place) (col : ℕ) (refusal : GrammarRefusal) → parse_file (fault_at first col refusal) ≡ Some first.file
refusal-in first col (refusals.Syntax expected) = refl
refusal-in first col (refusals.Unsupported what) = refl
refusal-in first col refusals.NotCommand = refl
refusal-in first col refusals.BadNumber = refl
refusal-in first col refusals.TooMany = refl

line-fault-in : (file : ℕ) (room : Kind → ℕ) (line : Line) (fault : ParseFault) → line.first.file ≡ file
    → IsLineFault room line fault → StandsIn file (parse_file fault)
line-fault-in file room line fault at (inl text) =
    subst (StandsIn file) (sym (ap parse_file text.is ∙ text_file-of text.text line.first (faults_placed line text.text text.leftmost))) at
line-fault-in file room line fault at (inr grammar) =
    subst (StandsIn file) (sym (ap parse_file grammar.is ∙ refusal-in line.first (column line grammar.stop.rest) grammar.stop.refusal)) at

first_fault_in : (file : ℕ) (before : List Entry) (lines : List Line) (fault : ParseFault) → InFile file lines
    → IsFirstFaultAfter before lines fault → StandsIn file (parse_file fault)
first_fault_in file before [] fault at is = absurd is
first_fault_in file before (line ∷ lines) fault at (inl here) = line-fault-in file (room_after before) line fault at.0 here
first_fault_in file before (line ∷ lines) fault at (inr (said, says, later)) =
    first_fault_in file (before ++ entry_of line said) lines fault at.1 later

-- A fault of the file of this number stands in it.
read_fault_in : (file : ℕ) (text : List ℕ) (fault : ParseFault) → HasContent file text (Err fault) → StandsIn file (parse_file fault)
read_fault_in file text fault (inl (why, is, same)) = subst (StandsIn file) (sym (ap parse_file same)) (lines_fault_in file text why is)
read_fault_in file text fault (inr (lines, is, first)) = first_fault_in file [] lines fault (lines_in file text lines is) first

stands_below : (file n : ℕ) (found : Option ℕ) → file < n → StandsIn file found → IsBelow n found
stands_below file n None below at = tt
stands_below file n (Some found) below at = omega (arith, below, at)

lt_more : (n m k : ℕ) → n ≤ m → nat_lt k n ≡ true → nat_lt k m ≡ true
lt_more n m k le h = grind (arith, nat_tests)

placed_more : (n m : ℕ) (entries : List Entry) → n ≤ m → placed_in n entries ≡ true → placed_in m entries ≡ true
placed_more n m [] le h = refl
placed_more n m (e ∷ es) le h =
    and_from (nat_lt e.place.file m) (placed_in m es) (lt_more n m e.place.file le (and_first (nat_lt e.place.file n) (placed_in n es) h))
    (placed_more n m es le (and_second (nat_lt e.place.file n) (placed_in n es) h))

all_push : (p : Entry → Bool) (entries : List Entry) (entry : Entry) → list_all p entries ≡ true → p entry ≡ true
    → list_all p (entries ++ entry ∷ []) ≡ true
all_push p [] entry h k = and_from (p entry) true k refl
all_push p (e ∷ es) entry h k = and_from (p e) (list_all p (es ++ entry ∷ [])) (and_first (p e) (list_all p es) h)
    (all_push p es entry (and_second (p e) (list_all p es) h) k)

fine_file : (loaded : LoadState) (path : List ℕ) → IsConsistent loaded → IsConsistent (with_file loaded path)
fine_file loaded path fine = record {
  placed = placed_more (length loaded.files) (length (loaded.files ++ path ∷ [])) loaded.entries
      (omega (arith, length-append loaded.files (path ∷ []))) fine.placed;
  unfolded = fine.unfolded;
}

fine_folder : (loaded : LoadState) → IsConsistent loaded → IsConsistent (with_folder loaded)
fine_folder loaded fine = record { placed = fine.placed; unfolded = fine.unfolded }

fine_entry : (loaded : LoadState) (entry : Entry) → IsConsistent loaded → entry.place.file < length loaded.files
    → is_include_entry entry.body ≡ false → IsConsistent (with_entry loaded entry)
fine_entry loaded entry fine at no_include =
    let test : nat_lt entry.place.file (length loaded.files) ≡ true = grind (arith, nat_tests) in
    record {
      placed = all_push (λ e. nat_lt e.place.file (length loaded.files)) loaded.entries entry fine.placed test;
      unfolded = all_push (λ e. not (is_include_entry e.body)) loaded.entries entry fine.unfolded (ap not no_include);
    }

-- After this many files at the least, all is fine.
abbrev pub FineAfter : ℕ → Outcome → Type 0
FineAfter n (Ok loaded) = IsConsistent loaded × (n ≤ length loaded.files)
FineAfter n (Err refusal) = IsInFiles refusal

fine_later : (n m : ℕ) (outcome : Outcome) → n ≤ m → FineAfter m outcome → FineAfter n outcome
fine_later n m (Ok loaded) le fine = (fine.0, omega (arith, fine.1))
fine_later n m (Err refusal) le fine = fine

-- An inclusion from a file that is read keeps all fine.
abbrev pub Keeps : Inclusion → Type 0
Keeps include = (loaded : LoadState) (place : Place) (path : List ℕ) (outcome : Outcome) → IsConsistent loaded
    → place.file < length loaded.files → include loaded place path outcome → FineAfter (length loaded.files) outcome

then_fine : (n : ℕ) (first : Outcome) (next : LoadState → Outcome → Type 0) (outcome : Outcome) → FineAfter n first
    → Then first next outcome
    → ((after : LoadState) → IsConsistent after → n ≤ length after.files → next after outcome
    → FineAfter (length after.files) outcome) → FineAfter n outcome
then_fine n (Ok after) next outcome fine onward goes = fine_later n (length after.files) outcome fine.1 (goes after fine.0 fine.1 onward)
then_fine n (Err refusal) next outcome fine onward goes = subst (FineAfter n) (sym onward) fine

ends_fine : (loaded : LoadState) (outcome : Outcome) → IsConsistent loaded → outcome ≡ Ok loaded → FineAfter (length loaded.files) outcome
ends_fine loaded outcome fine is = subst (FineAfter (length loaded.files)) (sym is) (fine, omega arith)

refused_fine : (n : ℕ) (refusal : Refusal) (outcome : Outcome) → IsInFiles refusal → outcome ≡ Err refusal → FineAfter n outcome
refused_fine n refusal outcome placed is = subst (FineAfter n) (sym is) placed

files_keep : (include : Inclusion) → Keeps include → (loaded : LoadState) (place : Place) (paths : List (List ℕ))
    (outcome : Outcome) → IsConsistent loaded → place.file < length loaded.files
    → FilesLoad include loaded place paths outcome → FineAfter (length loaded.files) outcome
files_keep include keeps loaded place [] outcome fine at loads = ends_fine loaded outcome fine loads
files_keep include keeps loaded place (path ∷ paths) outcome fine at (first, loads, onward) =
    then_fine (length loaded.files) first (λ after. FilesLoad include after place paths) outcome
    (keeps loaded place path first fine at loads) onward
    (λ after good more goes. files_keep include keeps after place paths outcome good (omega (arith, at, more)) goes)

names-keep : (include : Inclusion) → Keeps include → (loaded : LoadState) (place : Place) (path : List ℕ)
    (names : Option (List (List ℕ))) (outcome : Outcome) → IsConsistent loaded → place.file < length loaded.files
    → NamesLoad include loaded place path names outcome → FineAfter (length loaded.files) outcome
names-keep include keeps loaded place path None outcome fine at loads = refused_fine (length loaded.files) _ outcome tt loads
names-keep include keeps loaded place path (Some names) outcome fine at (ordered, order, loads) =
    files_keep include keeps (with_folder loaded) place (map (in_folder path) ordered) outcome (fine_folder loaded fine) at loads

if_fine : (n : ℕ) (b : Bool) (A B : Type 0) (outcome : Outcome) → IfElse b A B → (A → FineAfter n outcome)
    → (B → FineAfter n outcome) → FineAfter n outcome
if_fine n true A B outcome h f g = f h
if_fine n false A B outcome h f g = g h

folder_keeps : (include : Inclusion) → Keeps include → (supplies : List Supply) (loaded : LoadState) (place : Place)
    (path : List ℕ) (outcome : Outcome) → IsConsistent loaded → place.file < length loaded.files
    → FolderLoads include supplies loaded place path outcome → FineAfter (length loaded.files) outcome
folder_keeps include keeps supplies loaded place path outcome fine at loads =
    if_fine (length loaded.files) (nat_lt loaded.folders 1024)
    (NamesLoad include loaded place path (supplied_folder supplies path) outcome) _ outcome loads
    (λ h. names-keep include keeps loaded place path (supplied_folder supplies path) outcome fine at h)
    (λ h. refused_fine (length loaded.files) _ outcome at h)

include-keeps : (include : Inclusion) → Keeps include → (supplies : List Supply) (loaded : LoadState) (place : Place)
    (folder : Bool) (path : List ℕ) (outcome : Outcome) → IsConsistent loaded → place.file < length loaded.files
    → IncludeLoads include supplies loaded place folder path outcome → FineAfter (length loaded.files) outcome
include-keeps include keeps supplies loaded place true path outcome fine at loads =
    folder_keeps include keeps supplies loaded place path outcome fine at loads
include-keeps include keeps supplies loaded place false path outcome fine at loads = keeps loaded place path outcome fine at loads

entry_keeps : (include : Inclusion) → Keeps include → (supplies : List Supply) (file : List ℕ) (loaded : LoadState)
    (place : Place) (body : EntryBody) (outcome : Outcome) → IsConsistent loaded
    → place.file < length loaded.files → EntryLoadsBy include supplies loaded (record { place = place; body = body })
    (include_of file body) outcome → FineAfter (length loaded.files) outcome
entry_keeps include keeps supplies file loaded place (bodies.Aliases kind ds) outcome fine at loads =
    ends_fine (with_entry loaded (record { place = place; body = bodies.Aliases kind ds })) outcome (fine_entry loaded _ fine at refl) loads
entry_keeps include keeps supplies file loaded place (bodies.Defaults b ps) outcome fine at loads =
    ends_fine (with_entry loaded (record { place = place; body = bodies.Defaults b ps })) outcome (fine_entry loaded _ fine at refl) loads
entry_keeps include keeps supplies file loaded place (bodies.Rule us ss) outcome fine at loads =
    ends_fine (with_entry loaded (record { place = place; body = bodies.Rule us ss })) outcome (fine_entry loaded _ fine at refl) loads
entry_keeps include keeps supplies file loaded place (bodies.Include folder hash path) outcome fine at loads =
    include-keeps include keeps supplies loaded place folder _ outcome fine at loads

entries-keep : (include : Inclusion) → Keeps include → (supplies : List Supply) (file : List ℕ) (number : ℕ)
    (loaded : LoadState) (entries : List Entry) (outcome : Outcome) → IsConsistent loaded
    → number < length loaded.files → EntriesIn number entries
    → EntriesLoad include supplies file loaded entries outcome → FineAfter (length loaded.files) outcome
entries-keep include keeps supplies file number loaded [] outcome fine at ins loads = ends_fine loaded outcome fine loads
entries-keep include keeps supplies file number loaded (entry ∷ entries) outcome fine at ins (first, loads, onward) =
    then_fine (length loaded.files) first (λ after. EntriesLoad include supplies file after entries) outcome
    (entry_keeps include keeps supplies file loaded entry.place entry.body first fine (omega (arith, ins.0, at)) loads) onward
    (λ after good more goes. entries-keep include keeps supplies file number after entries outcome good
    (omega (arith, at, more)) ins.1 goes)

lines_keep : (include : Inclusion) → Keeps include → (supplies : List Supply) (file : List ℕ) (number : ℕ)
    (text : List ℕ) (loaded : LoadState) (read : Result (List Entry) ParseFault) (outcome : Outcome) → IsConsistent loaded
    → number < length loaded.files → HasContent number text read → LinesLoad include supplies file loaded read outcome
    → FineAfter (length loaded.files) outcome
lines_keep include keeps supplies file number text loaded (Ok entries) outcome fine at reads loads =
    entries-keep include keeps supplies file number loaded entries outcome fine at (read_in number text entries reads) loads
lines_keep include keeps supplies file number text loaded (Err fault) outcome fine at reads loads =
    refused_fine (length loaded.files) _ outcome (stands_below number (length loaded.files) (parse_file fault) at
    (read_fault_in number text fault reads)) loads

pub text-keeps : (include : Inclusion) → Keeps include
    → (supplies : List Supply) (loaded : LoadState) (path text : List ℕ) (outcome : Outcome) → IsConsistent loaded
    → TextLoads include supplies loaded path text outcome → FineAfter (length loaded.files) outcome
text-keeps include keeps supplies loaded path text outcome fine (read, reads, loads) =
    let more : length (loaded.files ++ path ∷ []) ≡ length loaded.files + 1 = omega (arith, length-append loaded.files (path ∷ [])) in
    fine_later (length loaded.files) (length (loaded.files ++ path ∷ [])) outcome (omega (arith, more))
    (lines_keep include keeps supplies path (length loaded.files) text (with_file loaded path) read outcome
    (fine_file loaded path fine) (omega (arith, more)) reads loads)

supplied_keeps : (include : Inclusion) → Keeps include → (supplies : List Supply) (loaded : LoadState) (place : Place)
    (path : List ℕ) (found : Option (Option (List ℕ))) (outcome : Outcome) → IsConsistent loaded → place.file < length loaded.files
    → SuppliedLoads include supplies loaded place path found outcome → FineAfter (length loaded.files) outcome
supplied_keeps include keeps supplies loaded place path None outcome fine at loads = refused_fine (length loaded.files) _ outcome tt loads
supplied_keeps include keeps supplies loaded place path (Some None) outcome fine at loads =
    refused_fine (length loaded.files) _ outcome at loads
supplied_keeps include keeps supplies loaded place path (Some (Some text)) outcome fine at loads =
    text-keeps include keeps supplies loaded path text outcome fine loads

pub file_keeps : (levels : ℕ) (supplies : List Supply) → Keeps (FileLoads levels supplies)
unfolding FileLoads
file_keeps zero supplies = λ loaded place path outcome fine at loads. refused_fine (length loaded.files) _ outcome at loads
file_keeps (suc levels) supplies = λ loaded place path outcome fine at loads.
    if_fine (length loaded.files) (nat_lt (length loaded.files) 1024)
    (SuppliedLoads (FileLoads levels supplies) supplies loaded place path (supplied_file supplies path) outcome) _ outcome loads
    (λ h. supplied_keeps (FileLoads levels supplies) (file_keeps levels supplies) supplies loaded place path
    (supplied_file supplies path) outcome fine at h)
    (λ h. refused_fine (length loaded.files) _ outcome at h)

-- What the main file unfolds to is fine.
pub unfolded_fine : (levels : ℕ) (path text : List ℕ) (supplies : List Supply) (loaded : LoadState)
    → TextLoads (FileLoads levels supplies) supplies nothing_loaded path text (Ok loaded) → IsConsistent loaded
unfolded_fine levels path text supplies loaded loads =
    (text-keeps (FileLoads levels supplies) (file_keeps levels supplies) supplies nothing_loaded path text (Ok loaded)
    (record { placed = refl; unfolded = refl }) loads).0

pub start-fine : (levels : ℕ) (path text : List ℕ) (supplies : List Supply) (start loaded : LoadState) → start ≡ nothing_loaded
    → TextLoads (FileLoads levels supplies) supplies start path text (Ok loaded) → IsConsistent loaded
start-fine levels path text supplies start loaded is loads =
    unfolded_fine levels path text supplies loaded
    (subst (λ s. TextLoads (FileLoads levels supplies) supplies s path text (Ok loaded)) is loads)

pub start-refused : (path p text : List ℕ) (supplies : List Supply) (start : LoadState) (refusal : Refusal)
    → start ≡ nothing_loaded → p ≡ path
    → TextLoads (FileLoads 128 supplies) supplies start p text (Err refusal) → IsLoad path text supplies (Err refusal)
start-refused path p text supplies start refusal is same loads = (
  Err refusal,
  subst (λ q. TextLoads (FileLoads 128 supplies) supplies nothing_loaded q text (Err refusal)) same
      (subst (λ s. TextLoads (FileLoads 128 supplies) supplies s p text (Err refusal)) is loads),
  refl,
)

-- So is a refusal's fault, where memory was not refused.
pub refusal-placed : (path text : List ℕ) (supplies : List Supply) (start : LoadState) (refusal : Refusal) → start ≡ nothing_loaded
    → (refusal.1 ≢ faults.Memory → TextLoads (FileLoads 128 supplies) supplies start path text (Err refusal)) → IsInFiles refusal
refusal-placed path text supplies start (files, fault) is loads = placed_unless files fault
    (λ no_memory. text-keeps (FileLoads 128 supplies) (file_keeps 128 supplies) supplies nothing_loaded path text
    (Err (files, fault)) (record { placed = refl; unfolded = refl })
    (subst (λ s. TextLoads (FileLoads 128 supplies) supplies s path text (Err (files, fault))) is (loads no_memory)))
  where
    placed_unless : (files : List (List ℕ)) (fault : LoadFault) → (fault ≢ faults.Memory → IsInFiles (files, fault))
        → IsInFiles (files, fault)
    placed_unless files (faults.Parse fault) h = h (λ e. cc)
    placed_unless files (faults.TooNested place) h = h (λ e. cc)
    placed_unless files (faults.TooMany place) h = h (λ e. cc)
    placed_unless files (faults.Wanted want) h = tt
    placed_unless files (faults.Missing place path) h = h (λ e. cc)
    placed_unless files faults.Memory h = tt

-- A definition past a limit stands where its entry does.
pub over_limit_placed : (n : ℕ) (room : Kind → ℕ) (entries : List Entry) (place : Place) → placed_in n entries ≡ true
    → over_limit_from room entries ≡ Some place → place.file < n
over_limit_placed n room [] place placed is = absurd cc
over_limit_placed n room (entry ∷ entries) place placed is = go (fits_room room entry.body) is
    (λ rest. over_limit_placed n (less room entry.body) entries place
    (and_second (nat_lt entry.place.file n) (placed_in n entries) placed) rest)
  where
    here : nat_lt entry.place.file n ≡ true → entry.place ≡ place → place.file < n
    here test same = grind (arith, nat_tests)

    go : (b : Bool) → (if b then over_limit_from (less room entry.body) entries else Some entry.place) ≡ Some place
        → (over_limit_from (less room entry.body) entries ≡ Some place → place.file < n) → place.file < n
    go true is later = later is
    go false is later = here (and_first (nat_lt entry.place.file n) (placed_in n entries) placed) cc
