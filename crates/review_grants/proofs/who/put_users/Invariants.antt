use Rattle.std.proofs.Common.{◌≡◌, flat_map, take}
use Rattle.review_grants.specs.Body.Pending.{Puts}
use Rattle.review_grants.specs.WhoRows.{sought_by, user_lines}
use Rattle.review_grants.proofs.who.put_users.Given as goal

-- the records of the users so far come behind what was made before
abbrev pub invariant-loop-person : goal.invariant-loop-person
invariant-loop-person g l =
    Puts (g.O.Sink.taken l.fn.out) (g.O.Sink.taken l.out) l.fn.pending l.pending
    (flat_map (user_lines l.judged.checked.now l.judged.directory.now (sought_by l.judged.sought))
    (take l.person-index l.person-items))
    × (g.O.Sink.stalled_writes l.out ≡ g.O.Sink.stalled_writes l.fn.out)
