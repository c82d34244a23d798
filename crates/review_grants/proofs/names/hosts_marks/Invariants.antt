use Rattle.std.proofs.Common.{◌≡◌, map, take}
use Rattle.sudo_verdict.specs.Values.{host_allowed}
use Rattle.review_grants.proofs.names.hosts_marks.Given as goal

abbrev pub invariant-loop-machine : goal.invariant-loop-machine
invariant-loop-machine l = l.marks.items ≡ map (host_allowed l.checked l.hosts) (take l.machine-index l.machines)
