use Rattle.std.proofs.Common.{length, ◌-◌, ◌≡◌, ◌≤◌, take}
use Rattle.std.specs.Io.KnownBytes.{Appends}
use Rattle.audit_files.proofs.sink.write_all_of.Given as goal

-- the bytes before `written` went out, and no write has stalled
abbrev pub invariant-loop-written : goal.invariant-loop-written
invariant-loop-written g l = (l.written ≤ length l.bytes)
    × Appends (g.W.Sink.taken l.fn.writer) (g.W.Sink.taken l.writer) (take l.written l.bytes)
    × (g.W.Sink.stalled_writes l.writer ≡ g.W.Sink.stalled_writes l.fn.writer)

abbrev pub decreases-loop-written : goal.decreases-loop-written
decreases-loop-written g l = length l.bytes - l.written
