-- The content of a file: from the bytes of a reader to its records, and to the value that they
-- state.
use Rattle.std.specs.Prelude.{◌≡◌, ⊤, ℕ, Bool, List, [], ◌∷◌, length, nat_eq, nat_lt, Option, Some}
use Rattle.std.specs.Prelude.{None, Result, Ok, Err, if◌then◌else◌}
use Rattle.std.specs.Cmp.Lexicographic.{pointwise}
use Rattle.audit_files.specs.Feeding.{Ahead}
use Rattle.audit_files.specs.Faults.{IsNotOutOfMemory, unless}
use Rattle.audit_files.specs.Rows.{Fields, first_fault}
use Rattle.audit_files.specs.declared.fault.FileFault.{FileFault}
use Rattle.audit_files.specs.declared.fault.FileFault.TheVariants.{Header, TooMany, Read}

-- the same fields, byte by byte
abbrev pub same_fields : Fields → Fields → Bool
same_fields = pointwise (pointwise nat_eq)

-- the records after the header, if the first record is the header
abbrev pub after_header : Fields → List Fields → Option (List Fields)
after_header header [] = None
after_header header (first ∷ rest) = if same_fields first header then Some rest else None

-- the value that the records after the header state, or their fault
abbrev pub stated_by : {T : Type 0} → (List Fields → Fields → Option FileFault) → (List Fields → T)
    → Option (List Fields) → Result T FileFault
stated_by fault value None = Err Header
stated_by fault value (Some rest) = unless (first_fault fault [] rest) (value rest)

-- the value that the records of a file state under this header; `Header` if the header is another
-- or missing
abbrev pub value_in_file : {T : Type 0} → Fields → (List Fields → Fields → Option FileFault) → (List Fields → T)
    → List Fields → Result T FileFault
value_in_file header fault value all = stated_by fault value (after_header header all)

-- the most bytes that a file may have
abbrev pub byte_limit : ℕ
byte_limit = 268435456

-- the bytes that are read up to a limit: `TooMany` above the limit before all else, then `Read` if
-- reading fails after them
abbrev pub bytes_upto : ℕ → Ahead → Result (List ℕ) FileFault
bytes_upto limit a =
    if nat_lt limit (length a.bytes) then Err TooMany
    else if a.fails then Err Read
    else Ok a.bytes

-- the bytes of a file, as they are read
abbrev pub bytes_read : Ahead → Result (List ℕ) FileFault
bytes_read a = bytes_upto byte_limit a

-- the value that these bytes state
abbrev pub stated_in : {T : Type 0} → (List ℕ → Result T FileFault) → Result (List ℕ) FileFault → Result T FileFault
stated_in meaning (Ok bytes) = meaning bytes
stated_in meaning (Err e) = Err e

abbrev pub read_as : {T : Type 0} → (List ℕ → Result T FileFault) → Ahead → Result T FileFault
read_as meaning a = stated_in meaning (bytes_read a)

-- the bytes that a reader may have ahead: those that it specifies, or any if it specifies none
abbrev pub MayBeAhead : Option Ahead → Ahead → Type 0
MayBeAhead None a = ⊤
MayBeAhead (Some readable_bytes) a = a ≡ readable_bytes

-- these may be the bytes ahead of the reader, and this result is read from them
pub record IsRead {T : Type 0} (meaning : List ℕ → Result T FileFault) (readable_bytes : Option Ahead)
    (result : Result T FileFault) : Type 0 where
  pub ahead : Ahead
  pub gives : MayBeAhead readable_bytes ahead
  pub states : read_as meaning ahead ≡ result

-- the result is what some possible bytes of the reader state; out of memory is unspecified
abbrev pub IsStatedBy : {T : Type 0} → (List ℕ → Result T FileFault) → Option Ahead → Result T FileFault → Type 0
IsStatedBy meaning readable_bytes (Ok x) = IsRead meaning readable_bytes (Ok x)
IsStatedBy meaning readable_bytes (Err e) = IsNotOutOfMemory e → IsRead meaning readable_bytes (Err e)

-- the bytes themselves, as a value
abbrev pub itself : List ℕ → Result (List ℕ) FileFault
itself bytes = Ok bytes
