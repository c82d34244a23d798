-- All bytes of a reader, up to a limit.
use Rattle.std.specs.Prelude.{ℕ, List, length, ⊤, Result, Ok, Err, nat_lt, if◌then◌else◌}
use Rattle.audit_files.specs.Feeding.{Ahead}
use Rattle.audit_files.specs.declared.whole.ReadFault.{ReadFault}
use Rattle.audit_files.specs.declared.whole.ReadFault.TheVariants.{TooLong, Failed, Memory}

-- the whole text: too long above the limit, whatever follows; else all bytes, unless reading then
-- fails
abbrev pub whole_of : ℕ → Ahead → Result (List ℕ) ReadFault
whole_of limit a =
    if nat_lt limit (length a.bytes) then Err TooLong
    else if a.fails then Err Failed
    else Ok a.bytes

-- a fault of the text or of reading it: every fault but out of memory
abbrev pub IsOfReader : ReadFault → Type 0
IsOfReader TooLong = ⊤
IsOfReader Failed = ⊤
IsOfReader Memory = ⊥

-- 1 if it is a failed read, else 0
abbrev pub fault_failures : ReadFault → ℕ
fault_failures TooLong = 0
fault_failures Failed = 1
fault_failures Memory = 0

abbrev pub failure_of : {T : Type 0} → Result T ReadFault → ℕ
failure_of (Ok text) = 0
failure_of (Err e) = fault_failures e
