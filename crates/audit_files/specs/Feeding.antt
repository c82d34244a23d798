-- The bytes that a reader has ahead, if it specifies them.
use Rattle.std.specs.Prelude.{◌≡◌, ◌<◌, ◌+◌, ◌-◌, ◌*◌, ℕ, Bool, true, false, List, [], ◌++◌, length, take, min}
use Rattle.std.specs.Prelude.{nat_lt, if◌then◌else◌, ⊤, Option, Some, None, Result, Ok, Err}
use Rattle.audit_files.specs.declared.failed.Failed.{Failed}

-- the bytes that reads will return from here on, and whether reading then fails or ends
pub record Ahead : Type 0 where
  pub bytes : List ℕ
  pub fails : Bool

-- 1 if the call failed, else 0
abbrev pub failures_of : {T E : Type 0} → Result T E → ℕ
failures_of (Ok x) = 0
failures_of (Err e) = 1

-- a read: it returns the next bytes, and none only at the end or for an empty buffer; it fails only
-- if no byte is left and reading then fails, and each later read fails too
abbrev pub Reads : Option Ahead → Option Ahead → Result ℕ Failed → List ℕ → Type 0
Reads None new result buffer = ⊤
Reads (Some a) None result buffer = ⊥
Reads (Some a) (Some b) (Ok n) buffer = (a.bytes ≡ take n buffer ++ b.bytes) × (a.fails ≡ b.fails)
    × (n ≡ 0 → 0 < length buffer → (a.bytes ≡ []) × (a.fails ≡ false))
Reads (Some a) (Some b) (Err e) buffer = (a.bytes ≡ []) × (a.fails ≡ true) × (b ≡ a)

-- how many bytes the reads before the read with this number return, each a whole step as long as
-- enough are left; `None` if they return all bytes and the end too
abbrev pub given_before_call : ℕ → ℕ → ℕ → Option ℕ
given_before_call call step left =
    if nat_lt ((call - 1) * step) (left + step) then Some (min ((call - 1) * step) left) else None

-- reading fails after these bytes, or is unchanged
abbrev pub failing_after : Option ℕ → Ahead → Ahead
failing_after None a = a
failing_after (Some n) a = record { bytes = take n a.bytes; fails = true }

-- the read with this number, from 1, fails
abbrev pub failing : ℕ → ℕ → Ahead → Ahead
failing call step a = failing_after (given_before_call call step (length a.bytes)) a
