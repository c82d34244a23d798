-- The bytes that a script still returns, and those written to it.
use Rattle.std.specs.Prelude.{ℕ, List, Option, drop, max}
use Rattle.audit_files.specs.Count.{times}
use Rattle.audit_files.specs.Feeding.{Ahead}
use Rattle.audit_files.specs.declared.script.Script.{Script}

-- the bytes ahead
abbrev pub ahead_of : Script → Ahead
ahead_of s = record { bytes = drop s.at s.text.items; fails = s.fails }

-- the bytes that were written
abbrev pub taken_of : Script → List ℕ
taken_of s = s.written.items

-- the number of writes that have failed or written no byte
abbrev pub stalled_of : Script → ℕ
stalled_of s = times s.stalled_writes

-- the most bytes that a call moves
abbrev pub step_of : Script → ℕ
step_of s = max s.step 1

-- how many writes succeed before one fails; `None` if none fails
abbrev pub writes_of : Script → Option ℕ
writes_of s = s.writes_left
