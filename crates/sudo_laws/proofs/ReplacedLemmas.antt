-- What is loaded is what the lines of the main file give.
use Rattle.std.proofs.Common.{◌≡◌, ℕ, zero, suc, ◌+◌, Bool, true, false, List, [], ◌∷◌, ◌++◌, length, map, Option, None, Some, Result}
use Rattle.std.proofs.Common.{Ok, Err, refl, sym, ◌∙◌, ap, subst, append_assoc, length-append}
use Rattle.std.specs.Prelude.{nat_lt}
use Rattle.std.proofs.lemmas.List.{append-nil}
use Rattle.sudo_grammar.specs.declared.policy.Entry.{Entry}
use Rattle.sudo_grammar.specs.declared.policy.Policy.{Policy}
use Rattle.sudo_laws.specs.Replaced.{FileGives, FilesGive, IsReplaced, LinesGive, Names, file, include_line, line, no_file, no_line, read}
use Rattle.sudo_load.specs.Files.{HasContent}
use Rattle.sudo_load.specs.Load.{Closes, IsLoad}
use Rattle.sudo_load.specs.Paths.{in_folder}
use Rattle.sudo_load.specs.Supplies.{supplied_file, supplied_folder}
use Rattle.sudo_load.specs.Unfolding.{EntriesLoad, EntryLoadsBy, FileLoads, FilesLoad, FolderLoads, IfElse, IncludeLoads, Inclusion}
use Rattle.sudo_load.specs.Unfolding.{NamesLoad, SuppliedLoads, TextLoads, include_of, nothing_loaded}
use Rattle.sudo_load.specs.Unfolding.{with_entry, with_file, with_folder}
use Rattle.sudo_load.specs.declared.supply.Supply.{Supply}
use Rattle.sudo_parser.specs.Parsed.{over_limit}
use Rattle.sudo_text.specs.declared.line.Place.{Place}

-- The state of loading is a type of its crate alone: it is seen here by its lists of paths and of entries.

-- the lists before have gained these paths and entries
pub record Gains (files after_files : List (List ℕ)) (entries after_entries : List Entry) (paths : List (List ℕ))
    (more : List Entry) : Type 0 where
  pub files_are : after_files ≡ files ++ paths
  pub entries_are : after_entries ≡ entries ++ more

ok_is : {A E : Type 0} (a b : A) → ◌≡◌ {A = Result A E} (Ok a) (Ok b) → a ≡ b
ok_is a b h = cc

ok_err : {A E : Type 0} (a : A) (e : E) → Ok a ≡ Err e → ⊥
ok_err a e h = absurd cc

gains_none : (files : List (List ℕ)) (entries : List Entry) → Gains files files entries entries [] []
gains_none files entries = record { files_are = sym (append-nil files); entries_are = sym (append-nil entries) }

gains_both : (files mid_files after_files : List (List ℕ)) (entries mid_entries after_entries more rest : List Entry)
    (paths later : List (List ℕ)) → Gains files mid_files entries mid_entries paths more
    → Gains mid_files after_files mid_entries after_entries later rest
    → Gains files after_files entries after_entries (paths ++ later) (more ++ rest)
gains_both files mid_files after_files entries mid_entries after_entries more rest paths later a b = record {
  files_are = b.files_are ∙ ap (λ xs. xs ++ later) a.files_are ∙ append_assoc files paths later;
  entries_are = b.entries_are ∙ ap (λ xs. xs ++ rest) a.entries_are ∙ append_assoc entries more rest;
}

-- the number of the next file
next_number : (files mid_files : List (List ℕ)) (entries mid_entries more : List Entry) (paths : List (List ℕ))
    → Gains files mid_files entries mid_entries paths more → length mid_files ≡ length files + length paths
next_number files mid_files entries mid_entries more paths a = ap length a.files_are ∙ length-append files paths

module _ (supplies : List Supply) where
  -- what lines, a file and files give where they are loaded
  pub record GivenLines (file : List ℕ) (lines : List Entry) (files after_files : List (List ℕ)) (entries after_entries : List Entry)
      : Type 0 where
    pub more : List Entry
    pub paths : List (List ℕ)
    pub gives : LinesGive supplies file (length files) lines more paths
    pub gains : Gains files after_files entries after_entries paths more

  pub record GivenFile (path : List ℕ) (files after_files : List (List ℕ)) (entries after_entries : List Entry) : Type 0 where
    pub more : List Entry
    pub paths : List (List ℕ)
    pub gives : FileGives supplies (length files) path more paths
    pub gains : Gains files after_files entries after_entries paths more

  pub record GivenFiles (targets files after_files : List (List ℕ)) (entries after_entries : List Entry) : Type 0 where
    pub more : List Entry
    pub paths : List (List ℕ)
    pub gives : FilesGive supplies (length files) targets more paths
    pub gains : Gains files after_files entries after_entries paths more

  pub record GivenNames (folder : Bool) (path : List ℕ) (files after_files : List (List ℕ)) (entries after_entries : List Entry)
      : Type 0 where
    pub targets : List (List ℕ)
    pub names : Names supplies folder path targets
    pub given : GivenFiles targets files after_files entries after_entries

  abbrev GivesFiles : Inclusion → Type 0
  GivesFiles include = (loaded : _) (place : Place) (path : List ℕ) (after : _) → include loaded place path (Ok after)
      → GivenFile path loaded.files after.files loaded.entries after.entries

  none_given : (files : List (List ℕ)) (entries : List Entry) → GivenFiles [] files files entries entries
  none_given files entries =
      record { more = []; paths = []; gives = no_file (length files); gains = gains_none files entries }

  one_more : (path : List ℕ) (targets files mid_files after_files : List (List ℕ)) (entries mid_entries after_entries : List Entry)
      → GivenFile path files mid_files entries mid_entries → GivenFiles targets mid_files after_files mid_entries after_entries
      → GivenFiles (path ∷ targets) files after_files entries after_entries
  one_more path targets files mid_files after_files entries mid_entries after_entries a b = record {
    more = a.more ++ b.more;
    paths = a.paths ++ b.paths;
    gives = file (length files) path targets a.more b.more a.paths b.paths a.gives
        (subst (λ n. FilesGive supplies n targets b.more b.paths)
        (next_number files mid_files entries mid_entries a.more a.paths a.gains) b.gives);
    gains = gains_both files mid_files after_files entries mid_entries after_entries a.more b.more a.paths b.paths a.gains b.gains;
  }

  -- an entry that is no include line, and the lines after it
  other_line : (path : List ℕ) (entry : Entry) (lines : List Entry) (files after_files : List (List ℕ))
      (entries mid_entries after_entries : List Entry) → include_of path entry.body ≡ None
      → mid_entries ≡ entries ++ entry ∷ [] → GivenLines path lines files after_files mid_entries after_entries
      → GivenLines path (entry ∷ lines) files after_files entries after_entries
  other_line path entry lines files after_files entries mid_entries after_entries is one rest = record {
    more = entry ∷ rest.more;
    paths = rest.paths;
    gives = line path (length files) entry lines rest.more rest.paths is rest.gives;
    gains = record {
      files_are = rest.gains.files_are;
      entries_are = rest.gains.entries_are
          ∙ ap (λ es. es ++ rest.more) one
          ∙ append_assoc entries (entry ∷ []) rest.more;
    };
  }

  -- an include line, and the lines after it
  replaced_line : (path : List ℕ) (entry : Entry) (lines : List Entry) (folder : Bool) (target : List ℕ)
      (files mid_files after_files : List (List ℕ)) (entries mid_entries after_entries : List Entry)
      → include_of path entry.body ≡ Some (folder, target) → GivenNames folder target files mid_files entries mid_entries
      → GivenLines path lines mid_files after_files mid_entries after_entries
      → GivenLines path (entry ∷ lines) files after_files entries after_entries
  replaced_line path entry lines folder target files mid_files after_files entries mid_entries after_entries is named rest =
      let a = named.given in
      record {
        more = a.more ++ rest.more;
        paths = a.paths ++ rest.paths;
        gives = include_line path (length files) entry folder target named.targets lines a.more rest.more a.paths rest.paths
            is named.names a.gives
            (subst (λ n. LinesGive supplies path n lines rest.more rest.paths)
            (next_number files mid_files entries mid_entries a.more a.paths a.gains) rest.gives);
        gains = gains_both files mid_files after_files entries mid_entries after_entries a.more rest.more a.paths rest.paths
            a.gains rest.gains;
      }

  module _ (include : Inclusion) (gives : GivesFiles include) where
    files_given : (place : Place) (targets : List (List ℕ)) (loaded after : _)
        → FilesLoad include loaded place targets (Ok after)
        → GivenFiles targets loaded.files after.files loaded.entries after.entries
    files_given place [] loaded after loads =
        subst (λ s. GivenFiles [] loaded.files s.files loaded.entries s.entries) (sym (ok_is after loaded loads))
        (none_given loaded.files loaded.entries)
    files_given place (path ∷ targets) loaded after (Ok mid, loads, onward) =
        one_more path targets loaded.files mid.files after.files loaded.entries mid.entries after.entries
        (gives loaded place path mid loads) (files_given place targets mid after onward)
    files_given place (path ∷ targets) loaded after (Err refusal, loads, onward) = absurd (ok_err after refusal onward)

    names_given : (place : Place) (path : List ℕ) (names : Option (List (List ℕ))) (loaded after : _)
        → supplied_folder supplies path ≡ names → NamesLoad include loaded place path names (Ok after)
        → GivenNames true path loaded.files after.files loaded.entries after.entries
    names_given place path None loaded after is loads = absurd (ok_err after _ loads)
    names_given place path (Some names) loaded after is (ordered, order, loads) = record {
      targets = map (in_folder path) ordered;
      names = (names, ordered, is, order, refl);
      given = files_given place (map (in_folder path) ordered) (with_folder loaded) after loads;
    }

    if_given : (b : Bool) {A B C : Type 0} → IfElse b A B → (A → C) → (B → C) → C
    if_given true h f g = f h
    if_given false h f g = g h

    folder_given : (place : Place) (path : List ℕ) (loaded after : _)
        → FolderLoads include supplies loaded place path (Ok after)
        → GivenNames true path loaded.files after.files loaded.entries after.entries
    folder_given place path loaded after loads =
        if_given (nat_lt loaded.folders 1024) loads
        (λ h. names_given place path (supplied_folder supplies path) loaded after refl h) (λ h. absurd (ok_err after _ h))

    include_given : (place : Place) (folder : Bool) (path : List ℕ) (loaded after : _)
        → IncludeLoads include supplies loaded place folder path (Ok after)
        → GivenNames folder path loaded.files after.files loaded.entries after.entries
    include_given place true path loaded after loads = folder_given place path loaded after loads
    include_given place false path loaded after loads = record {
      targets = path ∷ [];
      names = refl;
      given = one_more path [] loaded.files after.files after.files loaded.entries after.entries after.entries
          (gives loaded place path after loads) (none_given after.files after.entries);
    }

    -- one line, and the lines after it
    line_given : (path : List ℕ) (entry : Entry) (lines : List Entry) (loaded mid : _) (after_files : List (List ℕ))
        (after_entries : List Entry) (named : Option (Bool × List ℕ)) → include_of path entry.body ≡ named
        → EntryLoadsBy include supplies loaded entry named (Ok mid)
        → GivenLines path lines mid.files after_files mid.entries after_entries
        → GivenLines path (entry ∷ lines) loaded.files after_files loaded.entries after_entries
    line_given path entry lines loaded mid after_files after_entries None is loads rest =
        let same = ok_is mid (with_entry loaded entry) loads in
        other_line path entry lines loaded.files after_files loaded.entries (loaded.entries ++ entry ∷ []) after_entries is refl
        (subst (λ s. GivenLines path lines s.files after_files s.entries after_entries) same rest)
    line_given path entry lines loaded mid after_files after_entries (Some (folder, target)) is loads rest =
        replaced_line path entry lines folder target loaded.files mid.files after_files loaded.entries mid.entries after_entries is
        (include_given entry.place folder target loaded mid loads) rest

    lines_given : (path : List ℕ) (lines : List Entry) (loaded after : _)
        → EntriesLoad include supplies path loaded lines (Ok after)
        → GivenLines path lines loaded.files after.files loaded.entries after.entries
    lines_given path [] loaded after loads =
        subst (λ s. GivenLines path [] loaded.files s.files loaded.entries s.entries) (sym (ok_is after loaded loads))
        (record {
          more = [];
          paths = [];
          gives = no_line path (length loaded.files);
          gains = gains_none loaded.files loaded.entries;
        })
    lines_given path (entry ∷ lines) loaded after (Ok mid, loads, onward) =
        line_given path entry lines loaded mid after.files after.entries (include_of path entry.body) refl loads
        (lines_given path lines mid after onward)
    lines_given path (entry ∷ lines) loaded after (Err refusal, loads, onward) = absurd (ok_err after refusal onward)

    -- a text whose lines are loaded
    pub record GivenText (path text : List ℕ) (files after_files : List (List ℕ)) (entries after_entries : List Entry) : Type 0 where
      pub lines : List Entry
      pub more : List Entry
      pub paths : List (List ℕ)
      pub content : HasContent (length files) text (Ok lines)
      pub gives_lines : LinesGive supplies path (length files + 1) lines more paths
      pub gains : Gains files after_files entries after_entries (path ∷ paths) more

    pub text_given : (path text : List ℕ) (loaded after : _) → TextLoads include supplies loaded path text (Ok after)
        → GivenText path text loaded.files after.files loaded.entries after.entries
    text_given path text loaded after (Err fault, reads, loads) = absurd (ok_err after _ loads)
    text_given path text loaded after (Ok lines, reads, loads) =
        let a = lines_given path lines (with_file loaded path) after loads in
        record {
          lines = lines;
          more = a.more;
          paths = a.paths;
          content = reads;
          gives_lines = subst (λ n. LinesGive supplies path n lines a.more a.paths) (length-append loaded.files (path ∷ [])) a.gives;
          gains = record {
            files_are = a.gains.files_are ∙ append_assoc loaded.files (path ∷ []) a.paths;
            entries_are = a.gains.entries_are;
          };
        }

    supplied_given : (place : Place) (path : List ℕ) (found : Option (Option (List ℕ))) (loaded after : _)
        → supplied_file supplies path ≡ found → SuppliedLoads include supplies loaded place path found (Ok after)
        → GivenFile path loaded.files after.files loaded.entries after.entries
    supplied_given place path None loaded after is loads = absurd (ok_err after _ loads)
    supplied_given place path (Some None) loaded after is loads = absurd (ok_err after _ loads)
    supplied_given place path (Some (Some text)) loaded after is loads =
        let a = text_given path text loaded after loads in
        record {
          more = a.more;
          paths = path ∷ a.paths;
          gives = read (length loaded.files) path text a.lines a.more a.paths is a.content a.gives_lines;
          gains = a.gains;
        }

  file_given : (levels : ℕ) → GivesFiles (FileLoads levels supplies)
  unfolding FileLoads
  file_given zero = λ loaded place path after loads. absurd (ok_err after _ loads)
  file_given (suc levels) = λ loaded place path after loads.
      if_given (FileLoads levels supplies) (file_given levels) (nat_lt (length loaded.files) 1024) loads
      (λ h. supplied_given (FileLoads levels supplies) (file_given levels) place path (supplied_file supplies path) loaded after refl h)
      (λ h. absurd (ok_err after _ h))

  closed : (path text : List ℕ) (policy : Policy) (loaded : _) (over : Option Place) → Closes loaded over (Ok policy)
      → GivenText (FileLoads 128 supplies) (file_given 128) path text [] loaded.files [] loaded.entries
      → IsReplaced supplies path text policy
  closed path text policy loaded None closes a = record {
    lines = a.lines;
    paths = a.paths;
    content = a.content;
    gives = subst (λ es. LinesGive supplies path 1 a.lines es a.paths) (sym a.gains.entries_are ∙ sym closes.1) a.gives_lines;
    files = closes.0 ∙ a.gains.files_are;
  }
  closed path text policy loaded (Some place) closes a = absurd (ok_err policy _ closes)

pub load_replaced : (supplies : List Supply) (path text : List ℕ) (policy : Policy)
    → IsLoad path text supplies (Ok policy) → IsReplaced supplies path text policy
load_replaced supplies path text policy (Err refusal, unfolds, closes) = absurd (ok_err policy refusal closes)
load_replaced supplies path text policy (Ok loaded, unfolds, closes) =
    closed supplies path text policy loaded (over_limit loaded.entries) closes
    (text_given supplies (FileLoads 128 supplies) (file_given supplies 128) path text nothing_loaded loaded unfolds)
