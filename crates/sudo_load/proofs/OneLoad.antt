-- A file, with the provided files and folders, has one outcome.
use Rattle.std.proofs.Common.{◌≡◌, ℕ, zero, suc, Bool, true, false, List, [], ◌∷◌, length, Option, None, Some, Result}
use Rattle.std.proofs.Common.{Ok, Err, inl, inr, sym, ◌∙◌, ap, subst}
use Rattle.std.specs.Prelude.{filter, map, nat_lt}
use Rattle.sudo_text.specs.declared.line.Line.{Line}
use Rattle.sudo_text.specs.declared.line.Place.{Place}
use Rattle.sudo_text.specs.Lines.{lines_of}
use Rattle.sudo_grammar.specs.declared.policy.Entry.{Entry}
use Rattle.sudo_grammar.specs.declared.policy.Policy.{Policy}
use Rattle.sudo_grammar.specs.declared.fault.ParseFault.{ParseFault}
use Rattle.sudo_grammar.specs.declared.fault.ParseFault.TheVariants as parses
use Rattle.sudo_parser.specs.Parsed.{AreEntries, IsFirstFault, over_limit}
use Rattle.sudo_parser.proofs.OneReading.{one_entries, one_first_fault, entries-no-fault}
use Rattle.sudo_load.specs.declared.loading.LoadState.{LoadState}
use Rattle.sudo_load.specs.declared.supply.Supply.{Supply}
use Rattle.sudo_load.specs.Files.{HasContent}
use Rattle.sudo_load.specs.Load.{IsLoad, Closes, ClosesBy, SameLoad}
use Rattle.sudo_load.specs.Paths.{in_folder, is_kept}
use Rattle.sudo_load.specs.Supplies.{supplied_file, supplied_folder}
use Rattle.sudo_load.specs.Unfolding.{Refusal, Outcome, Inclusion, with_file, with_folder, with_entry, Then, IfElse}
use Rattle.sudo_load.specs.Unfolding.{IsFolderOrder, FilesLoad, NamesLoad, FolderLoads, IncludeLoads, EntryLoadsBy}
use Rattle.sudo_load.specs.Unfolding.{EntriesLoad, LinesLoad, TextLoads, SuppliedLoads, FileLoads, include_of}
use Rattle.sudo_load.proofs.ByteOrder.{one_sorted}

ok_is : {A E : Type 0} (r : Result A E) (a b : A) → r ≡ Ok a → r ≡ Ok b → a ≡ b
ok_is r a b is other = cc

err_is : {A E : Type 0} (r : Result A E) (a b : E) → r ≡ Err a → r ≡ Err b → a ≡ b
err_is r a b is other = cc

ok_err : {A E : Type 0} (r : Result A E) (a : A) (b : E) → r ≡ Ok a → r ≡ Err b → ⊥
ok_err r a b is other = absurd cc

one_lines : (file : ℕ) (text : List ℕ) (a b : List Line) → lines_of file text ≡ Ok a → lines_of file text ≡ Ok b → a ≡ b
one_lines file text a b is other = ok_is (lines_of file text) a b is other

has_content_apart : (file : ℕ) (text : List ℕ) (entries : List Entry) (fault : ParseFault)
    → HasContent file text (Ok entries) → HasContent file text (Err fault) → ⊥
has_content_apart file text entries fault (lines, is, are) (inl (why, other, same)) = ok_err (lines_of file text) lines why is other
has_content_apart file text entries fault (lines, is, are) (inr (lines2, other, first)) =
    entries-no-fault [] lines entries fault are
    (subst (λ ls. IsFirstFault ls fault) (sym (one_lines file text lines lines2 is other)) first)

one_fault_read : (file : ℕ) (text : List ℕ) (a b : ParseFault) → HasContent file text (Err a) → HasContent file text (Err b) → a ≡ b
one_fault_read file text a b (inl (why, is, same)) (inl (why2, is2, same2)) = same
    ∙ (ap parses.Text (err_is (lines_of file text) why why2 is is2) ∙ sym same2)
one_fault_read file text a b (inl (why, is, same)) (inr (lines, is2, first)) = absurd (ok_err (lines_of file text) lines why is2 is)
one_fault_read file text a b (inr (lines, is, first)) (inl (why, is2, same)) = absurd (ok_err (lines_of file text) lines why is is2)
one_fault_read file text a b (inr (lines, is, first)) (inr (lines2, is2, first2)) =
    one_first_fault [] lines a b first (subst (λ ls. IsFirstFault ls b) (sym (one_lines file text lines lines2 is is2)) first2)

one_read : (file : ℕ) (text : List ℕ) (a b : Result (List Entry) ParseFault) → HasContent file text a → HasContent file text b → a ≡ b
one_read file text (Ok a) (Ok b) (lines, is, are) (lines2, is2, are2) =
    ap Ok (one_entries [] lines a b are (subst (λ ls. AreEntries ls b) (sym (one_lines file text lines lines2 is is2)) are2))
one_read file text (Ok a) (Err b) reads other = absurd (has_content_apart file text a b reads other)
one_read file text (Err a) (Ok b) reads other = absurd (has_content_apart file text b a other reads)
one_read file text (Err a) (Err b) reads other = ap Err (one_fault_read file text a b reads other)

-- An inclusion has one outcome.
abbrev pub IsOne : Inclusion → Type 0
IsOne include = (loaded : LoadState) (place : Place) (path : List ℕ) (a b : Outcome) → include loaded place path a
    → include loaded place path b → a ≡ b

one_is : {A : Type 0} (c a b : A) → a ≡ c → b ≡ c → a ≡ b
one_is c a b is other = is ∙ sym other

then_one : (next : LoadState → Outcome → Type 0) (first second a b : Outcome) → first ≡ second → Then first next a → Then second next b
    → ((after : LoadState) → next after a → next after b → a ≡ b) → a ≡ b
then_one next (Ok after) second a b same onward other goes = goes after onward (subst (λ o. Then o next b) (sym same) other)
then_one next (Err refusal) second a b same onward other goes =
    one_is (Err refusal) a b onward (subst (λ o. Then o next b) (sym same) other)

files_one : (include : Inclusion) → IsOne include → (loaded : LoadState) (place : Place) (paths : List (List ℕ))
    (a b : Outcome) → FilesLoad include loaded place paths a → FilesLoad include loaded place paths b → a ≡ b
files_one include one loaded place [] a b loads other = one_is (Ok loaded) a b loads other
files_one include one loaded place (path ∷ paths) a b (first, loads, onward) (second, other, later) =
    then_one (λ after. FilesLoad include after place paths) first second a b (one loaded place path first second loads other) onward later
    (λ after x y. files_one include one after place paths a b x y)

order_one : (names a b : List (List ℕ)) → IsFolderOrder names a → IsFolderOrder names b → a ≡ b
order_one names a b is other = one_sorted (filter is_kept names) a b is.0 is.1 other.0 other.1

names-one : (include : Inclusion) → IsOne include → (loaded : LoadState) (place : Place) (path : List ℕ)
    (names : Option (List (List ℕ))) (a b : Outcome)
    → NamesLoad include loaded place path names a → NamesLoad include loaded place path names b → a ≡ b
names-one include one loaded place path None a b loads other = one_is _ a b loads other
names-one include one loaded place path (Some names) a b (ordered, order, loads) (ordered2, order2, other) =
    files_one include one (with_folder loaded) place (map (in_folder path) ordered) a b loads
    (subst (λ o. FilesLoad include (with_folder loaded) place (map (in_folder path) o) b)
    (sym (order_one names ordered ordered2 order order2)) other)

if_one : (test : Bool) (A B C D : Type 0) (a b : Outcome) → IfElse test A C → IfElse test B D → (A → B → a ≡ b) → (C → D → a ≡ b) → a ≡ b
if_one true A B C D a b is other f g = f is other
if_one false A B C D a b is other f g = g is other

folder_one : (include : Inclusion) → IsOne include → (supplies : List Supply) (loaded : LoadState) (place : Place)
    (path : List ℕ) (a b : Outcome)
    → FolderLoads include supplies loaded place path a → FolderLoads include supplies loaded place path b → a ≡ b
folder_one include one supplies loaded place path a b loads other =
    if_one (nat_lt loaded.folders 1024) (NamesLoad include loaded place path (supplied_folder supplies path) a)
    (NamesLoad include loaded place path (supplied_folder supplies path) b) _ _ a b loads other
    (λ x y. names-one include one loaded place path (supplied_folder supplies path) a b x y) (λ x y. one_is _ a b x y)

include-one : (include : Inclusion) → IsOne include → (supplies : List Supply) (loaded : LoadState) (place : Place)
    (folder : Bool) (path : List ℕ) (a b : Outcome)
    → IncludeLoads include supplies loaded place folder path a → IncludeLoads include supplies loaded place folder path b → a ≡ b
include-one include one supplies loaded place true path a b loads other = folder_one include one supplies loaded place path a b loads other
include-one include one supplies loaded place false path a b loads other = one loaded place path a b loads other

entry-one : (include : Inclusion) → IsOne include → (supplies : List Supply) (loaded : LoadState) (entry : Entry)
    (named : Option (Bool × List ℕ)) (a b : Outcome)
    → EntryLoadsBy include supplies loaded entry named a → EntryLoadsBy include supplies loaded entry named b → a ≡ b
entry-one include one supplies loaded entry None a b loads other = one_is (Ok (with_entry loaded entry)) a b loads other
entry-one include one supplies loaded entry (Some named) a b loads other =
    include-one include one supplies loaded entry.place named.0 named.1 a b loads other

entries-one : (include : Inclusion) → IsOne include → (supplies : List Supply) (file : List ℕ) (loaded : LoadState)
    (entries : List Entry) (a b : Outcome)
    → EntriesLoad include supplies file loaded entries a → EntriesLoad include supplies file loaded entries b → a ≡ b
entries-one include one supplies file loaded [] a b loads other = one_is (Ok loaded) a b loads other
entries-one include one supplies file loaded (entry ∷ entries) a b (first, loads, onward) (second, other, later) =
    then_one (λ after. EntriesLoad include supplies file after entries) first second a b
    (entry-one include one supplies loaded entry (include_of file entry.body) first second loads other) onward later
    (λ after x y. entries-one include one supplies file after entries a b x y)

lines_one : (include : Inclusion) → IsOne include → (supplies : List Supply) (file : List ℕ) (loaded : LoadState)
    (read : Result (List Entry) ParseFault) (a b : Outcome)
    → LinesLoad include supplies file loaded read a → LinesLoad include supplies file loaded read b → a ≡ b
lines_one include one supplies file loaded (Ok entries) a b loads other =
    entries-one include one supplies file loaded entries a b loads other
lines_one include one supplies file loaded (Err fault) a b loads other = one_is _ a b loads other

text-one : (include : Inclusion) → IsOne include → (supplies : List Supply) (loaded : LoadState) (path text : List ℕ) (a b : Outcome)
    → TextLoads include supplies loaded path text a → TextLoads include supplies loaded path text b → a ≡ b
text-one include one supplies loaded path text a b (read, reads, loads) (read2, reads2, other) =
    lines_one include one supplies path (with_file loaded path) read a b loads
    (subst (λ r. LinesLoad include supplies path (with_file loaded path) r b)
    (sym (one_read (length loaded.files) text read read2 reads reads2)) other)

supplied_one : (include : Inclusion) → IsOne include → (supplies : List Supply) (loaded : LoadState) (place : Place)
    (path : List ℕ) (found : Option (Option (List ℕ))) (a b : Outcome)
    → SuppliedLoads include supplies loaded place path found a → SuppliedLoads include supplies loaded place path found b → a ≡ b
supplied_one include one supplies loaded place path None a b loads other = one_is _ a b loads other
supplied_one include one supplies loaded place path (Some None) a b loads other = one_is _ a b loads other
supplied_one include one supplies loaded place path (Some (Some text)) a b loads other =
    text-one include one supplies loaded path text a b loads other

file_one : (levels : ℕ) (supplies : List Supply) → IsOne (FileLoads levels supplies)
unfolding FileLoads
file_one zero supplies = λ loaded place path a b loads other. one_is _ a b loads other
file_one (suc levels) supplies = λ loaded place path a b loads other.
    if_one (nat_lt (length loaded.files) 1024) (SuppliedLoads (FileLoads levels supplies) supplies loaded place path
    (supplied_file supplies path) a)
    (SuppliedLoads (FileLoads levels supplies) supplies loaded place path (supplied_file supplies path) b) _ _ a b loads other
    (λ x y. supplied_one (FileLoads levels supplies) (file_one levels supplies) supplies loaded place path
    (supplied_file supplies path) a b x y)
    (λ x y. one_is _ a b x y)

-- A refusal is the same as that which it is.
refused_both : (refusal : Refusal) (a b : Result Policy Refusal) → a ≡ Err refusal → b ≡ Err refusal → SameLoad a b
refused_both refusal (Ok a) b is other = absurd cc
refused_both refusal (Err a) (Ok b) is other = absurd cc
refused_both refusal (Err a) (Err b) is other = cc

closes_one : (loaded : LoadState) (over : Option Place) (a b : Result Policy Refusal) → Closes loaded over a
    → Closes loaded over b → SameLoad a b
closes_one loaded None (Ok a) (Ok b) is other = (is.0 ∙ sym other.0, is.1 ∙ sym other.1)
closes_one loaded None (Ok a) (Err b) is other = absurd other
closes_one loaded None (Err a) b is other = absurd is
closes_one loaded (Some place) a b is other = refused_both _ a b is other

closes_by_one : (outcome : Outcome) (a b : Result Policy Refusal) → ClosesBy outcome a → ClosesBy outcome b → SameLoad a b
closes_by_one (Ok loaded) a b is other = closes_one loaded (over_limit loaded.entries) a b is other
closes_by_one (Err refusal) a b is other = refused_both refusal a b is other

pub one_load : (path text : List ℕ) (supplies : List Supply) (a b : Result Policy Refusal)
    → IsLoad path text supplies a → IsLoad path text supplies b → SameLoad a b
one_load path text supplies a b (outcome, unfolds, closes) (outcome2, unfolds2, closes2) =
    let same : outcome ≡ outcome2 = text-one (FileLoads 128 supplies) (file_one 128 supplies) supplies
    (record { files = []; folders = 0; entries = [] }) path text outcome outcome2 unfolds unfolds2 in
    closes_by_one outcome a b closes (subst (λ o. ClosesBy o b) (sym same) closes2)
