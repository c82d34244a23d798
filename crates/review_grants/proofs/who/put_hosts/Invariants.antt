use Rattle.std.proofs.Common.{◌≡◌, flat_map, take}
use Rattle.review_grants.specs.Body.Pending.{Puts}
use Rattle.review_grants.specs.Body.Who.{IsRequestOf}
use Rattle.review_grants.specs.WhoRows.{sought_by, host_line}
use Rattle.review_grants.proofs.who.put_hosts.Given as goal

-- the request is still that of the user, and the records on the hosts so far come behind what was made before
abbrev pub invariant-loop-machine : goal.invariant-loop-machine
invariant-loop-machine g l =
    IsRequestOf (sought_by l.judged.sought) l.fn.row.request.user l.row.request
    × Puts (g.O.Sink.taken l.fn.out) (g.O.Sink.taken l.out) l.fn.pending l.pending
    (flat_map (host_line l.judged.checked.now l.judged.directory.now (sought_by l.judged.sought) l.fn.row.request.user)
    (take l.machine-index l.machine-items))
    × (g.O.Sink.stalled_writes l.out ≡ g.O.Sink.stalled_writes l.fn.out)
