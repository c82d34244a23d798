-- What becomes of a table that is written as it is made, where it stops before its end.
use Rattle.std.specs.Prelude.{◌≡◌, ◌<◌, ◌≤◌, ℕ, ◌^◌, ◌-◌, List, length, min, take, Option, Result, Ok, Err}
use Rattle.std.specs.Io.KnownBytes.{Appends}
use Rattle.review_grants.specs.declared.writing.Stopped.{Stopped}
use Rattle.review_grants.specs.declared.writing.Stopped.TheVariants as stops

-- the first bytes of the text were written and no more: not all of them where a write failed, whose fault says how many,
-- as far as numbers of 64 bits go
abbrev pub IsStopped : Option (List ℕ) → Option (List ℕ) → List ℕ → Stopped → Type 0
IsStopped before after text (stops.Write fault) = (count : ℕ) × (count < length text)
    × Appends before after (take count text) × (fault.written ≡ min count (2 ^ 64 - 1))
IsStopped before after text stops.Memory = (count : ℕ) × (count ≤ length text) × Appends before after (take count text)

abbrev pub failures_at : Stopped → ℕ
failures_at (stops.Write fault) = 1
failures_at stops.Memory = 0

-- how many writes failed
abbrev pub failures_of : {T : Type 0} → Result T Stopped → ℕ
failures_of (Ok written) = 0
failures_of (Err stop) = failures_at stop
