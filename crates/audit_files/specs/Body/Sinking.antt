-- The bytes written to a writer, and its failures. Only proofs of bodies use these.
use Rattle.std.specs.Prelude.{ℕ, ◌≡◌, Option, None, Some, suc, zero, ⊤, Result, Ok, Err}

-- the call fails
abbrev pub IsError : {T E : Type 0} → Result T E → Type 0
IsError (Ok x) = ⊥
IsError (Err e) = ⊤

-- one write of a writer of which this many writes succeed before one fails: it counts one down, and
-- fails at zero
abbrev pub CountsDown : {E : Type 0} → Option ℕ → Option ℕ → Result ℕ E → Type 0
CountsDown None new result = new ≡ None
CountsDown (Some zero) new result = (new ≡ Some 0) × IsError result
CountsDown (Some (suc n)) new result = new ≡ Some n
