-- The content of a file: from the bytes of a reader to its records, and to the value that they. Only proofs of bodies use these.
use Rattle.std.specs.Prelude.{ℕ, List, [], slice_index_or, Option, Some}
use Rattle.std.specs.Prelude.{None}
use Rattle.audit_files.specs.Rows.{Fields, first_fault}
use Rattle.audit_files.specs.declared.fault.FileFault.{FileFault}
use Rattle.audit_files.specs.declared.fault.FileFault.TheVariants.{Header}

-- the field at this index
abbrev pub field_in : Fields → ℕ → List ℕ
field_in fields at = slice_index_or fields at []

-- the first fault of the records after the header, or `Header` without a header
abbrev pub first_record_fault : (List Fields → Fields → Option FileFault) → Option (List Fields) → Option FileFault
first_record_fault fault None = Some Header
first_record_fault fault (Some rest) = first_fault fault [] rest
