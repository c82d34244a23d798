use Rattle.std.proofs.Common.{◌≡◌, ◌++◌, flat_map, option_copied, take}
use Rattle.audit_files.specs.Report.{line}
use Rattle.sudo_verdict.specs.Grants.{entry_grants}
use Rattle.review_grants.specs.Body.Heads.{lines_of}
use Rattle.review_grants.specs.Body.Pending.{IsOnItsWay}
use Rattle.review_grants.specs.GrantRows.{grants_header}
use Rattle.review_grants.proofs.writing.write_table.Given as goal

-- the header and the records of the entries so far are on their way
abbrev pub invariant-loop-entry : goal.invariant-loop-entry
invariant-loop-entry g l =
    IsOnItsWay (g.O.Sink.taken l.fn.out) (g.O.Sink.taken l.out) l.pending (line grants_header
    ++ flat_map (λ e. lines_of l.table.checked.now l.table.directory.now (option_copied l.table.scope.user)
    (option_copied l.table.scope.host) (entry_grants l.table.checked.now e)) (take l.entry-index l.entry-items))
    × (g.O.Sink.stalled_writes l.out ≡ g.O.Sink.stalled_writes l.fn.out)
