-- The content of a file of links to folders.
use Rattle.std.specs.Prelude.{◌==◌, ◌-◌, ◌&&◌, Bool, not, nat_lt, ℕ, List, [], ◌∷◌, codes, filter_map, length, slice_index_or}
use Rattle.std.specs.Prelude.{Option, Some, None, Result, if◌then◌else◌}
use Rattle.audit_files.specs.Files.{value_in_file}
use Rattle.audit_files.specs.Rows.{Fields, records_of}
use Rattle.audit_files.specs.Users.{row_fault}
use Rattle.audit_files.specs.declared.fault.FileFault.{FileFault}

abbrev pub links_header : Fields
links_header = codes "from" ∷ codes "to" ∷ []

-- an absolute path that does not end in a slash (47)
abbrev pub is_folder_path : List ℕ → Bool
is_folder_path path =
    nat_lt 1 (length path) && (slice_index_or path 0 0 == 47 && not (slice_index_or path (length path - 1) 0 == 47))

-- the path of a link, and that of the folder to which it leads
abbrev pub link_of : Fields → Option (List ℕ × List ℕ)
link_of (from ∷ to ∷ []) = if is_folder_path from && is_folder_path to then Some (from, to) else None
link_of _ = None

abbrev pub link_fault : List Fields → Fields → Option FileFault
link_fault before fields = row_fault before (link_of fields)

-- the links that the bytes of such a file state, or its first fault
abbrev pub links : List ℕ → Result (List (List ℕ × List ℕ)) FileFault
links text = value_in_file links_header link_fault (filter_map link_of) (records_of text)
