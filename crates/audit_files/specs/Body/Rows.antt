-- The records of a file, and its first fault. Only proofs of bodies use these.
use Rattle.std.specs.Prelude.{◌≡◌, ◌+◌, ℕ, List, [], length, Option, Some, None, IsSome}
use Rattle.std.specs.Borrow.{Bor}
use Rattle.csv.specs.declared.parser.State.{State}
use Rattle.csv.specs.declared.reader.Reader.{Reader}
use Rattle.csv.specs.declared.reader.Trim.TheVariants as trim
use Rattle.csv.specs.Reading.{Ready, default_config, reader_config, reader_state, reader_trim, records_from, source_of}
use Rattle.audit_files.specs.declared.rows.Rows.{Rows}
use Rattle.audit_files.specs.Rows.{Fields}

-- the records from this state of the reader on
abbrev pub left_from : State → Option (List ℕ) → List Fields
left_from s None = []
left_from s (Some xs) = records_from default_config (length xs + 1) s xs

-- a reader of memory
abbrev pub MemoryReader : Type 0
MemoryReader = Reader (Bor (List ℕ))

-- the bytes that a reader of memory has still ahead
abbrev pub bytes_left : MemoryReader → Option (List ℕ)
bytes_left r = source_of (λ (s : Bor (List ℕ)). Some s.now) r

-- the records that a reader of memory has still ahead
abbrev pub records_left : MemoryReader → List Fields
records_left r = left_from (reader_state r) (bytes_left r)

-- the next read is of one record, untrimmed, of specified bytes
abbrev pub IsReader : MemoryReader → Type 0
IsReader r = (reader_trim r ≡ trim.None) × Ready r × (reader_config r ≡ default_config) × IsSome (bytes_left r)

-- the records that are still ahead
abbrev pub rows_left : Rows → List Fields
rows_left r = records_left r.reader

abbrev pub IsReading : Rows → Type 0
IsReading r = IsReader r.reader
