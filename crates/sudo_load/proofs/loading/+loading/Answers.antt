use Rattle.std.proofs.Common.{rules, refl, sym, ◌∙◌, ap, None, Some, List, ℕ, ◌-◌}
use Rattle.sudo_load.specs.Supplies.{supplied_file, supplied_folder}
use Rattle.sudo_load.specs.Unfolding.{FileLoads, FilesLoad, TextLoads, FolderLoads, with_folder}
use Rattle.sudo_load.proofs.LoadLemmas.{nested, full, supplied, folder_supplied, names-load, gives}
use Rattle.sudo_load.proofs.loading.+loading.Goals as goal

pub load_file-returns-then-levels-eq0 : goal.load_file-returns-then-levels-eq0
load_file-returns-then-levels-eq0 t c =
    (λ no_memory. nested c.args.levels c.args.supplies.now c.args.loaded c.args.place c.args.path (search rules), λ memory. (cc))

pub load_file-returns-then-len-ge-READING_LIMIT : goal.load_file-returns-then-len-ge-READING_LIMIT
load_file-returns-then-len-ge-READING_LIMIT t c = (
  λ no_memory. full c.args.levels c.args.supplies.now c.args.loaded c.args.place c.args.path (search rules) (search rules),
  λ memory. (cc),
)

pub load_file-returns-in-None : goal.load_file-returns-in-None
load_file-returns-in-None t c = (
  λ no_memory. supplied c.args.levels c.args.supplies.now c.args.loaded c.args.place c.args.path None _ (search rules) (search rules)
      (c.in-None.ensures ∙ ap (supplied_file c.args.supplies.now) c.as_slice.ensures) refl,
  λ memory. (cc),
)

pub load_file-returns-in-Some-None : goal.load_file-returns-in-Some-None
load_file-returns-in-Some-None t c = (
  λ no_memory. supplied c.args.levels c.args.supplies.now c.args.loaded c.args.place c.args.path (Some None) _ (search rules) (search rules)
      (sym (ap Some c.in-Some-None.field-0-is) ∙ c.in-Some-None.ensures ∙ ap (supplied_file c.args.supplies.now) c.as_slice.ensures) refl,
  λ memory. (cc),
)

pub load_file-returns-in-Some-Some : goal.load_file-returns-in-Some-Some
load_file-returns-in-Some-Some t c =
    let text = c.as_slice-in-Some-Some.result.now in
    let include = FileLoads (c.args.levels - 1) c.args.supplies.now in
    gives (TextLoads include c.args.supplies.now c.args.loaded c.args.path text)
    (FileLoads c.args.levels c.args.supplies.now c.args.loaded c.args.place c.args.path)
    c.load_text.result c.load_text.ensures
    (λ outcome loads.
    supplied c.args.levels c.args.supplies.now c.args.loaded c.args.place c.args.path (Some (Some text)) outcome
    (search rules) (search rules)
    (ap (λ (t : List ℕ). Some (Some t)) c.as_slice-in-Some-Some.ensures ∙ sym (ap Some c.in-Some-Some.field-0-is) ∙ c.in-Some-Some.ensures
    ∙ ap (supplied_file c.args.supplies.now) c.as_slice.ensures)
    loads)

pub load_folder-returns : goal.load_folder-returns
load_folder-returns t c =
    let include = FileLoads c.args.levels c.args.supplies.now in
    gives (FilesLoad include (with_folder c.args.loaded) c.args.place c.in-Ok.paths.items)
    (FolderLoads include c.args.supplies.now c.args.loaded c.args.place c.args.path)
    c.load_files.result c.load_files.ensures
    (λ outcome loads.
    folder_supplied include c.args.supplies.now c.args.loaded c.args.place c.args.path (Some c.in-Some.names.now) outcome (search rules)
    (c.in-Some.ensures ∙ ap (supplied_folder c.args.supplies.now) c.as_slice.ensures)
    (names-load include c.args.loaded c.args.place c.args.path c.as_slice-2.result.now c.in-Some.names.now
    c.as_slice-3.result.now c.in-Ok.paths.items outcome
    c.as_slice-2.ensures c.as_slice-3.ensures c.in-Ok.ensures loads))
