use Rattle.std.proofs.Common.{◌≡◌, ◌+◌, ◌-◌, ◌≤◌, vec_len}
use Rattle.audit_files.proofs.WholeReads.{Took}
use Rattle.audit_files.proofs.whole.read_whole.Given as goal

-- the text so far was read and no read has failed
abbrev pub invariant-loop-count : goal.invariant-loop-count
invariant-loop-count g l = (vec_len l.text ≤ l.limit)
    × Took (g.R.Feed.ahead l.fn.reader) (g.R.Feed.ahead l.reader) l.text.items
    × (g.R.Feed.failed_reads l.reader ≡ g.R.Feed.failed_reads l.fn.reader)

abbrev pub decreases-loop-count : goal.decreases-loop-count
decreases-loop-count g l = l.limit + 1 - vec_len l.text
