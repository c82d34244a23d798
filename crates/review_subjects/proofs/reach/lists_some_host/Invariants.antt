use Rattle.std.proofs.Common.{◌≡◌, drop}
use Rattle.std.specs.List.{list_any}
use Rattle.sudo_verdict.specs.Values.{host_allowed}
use Rattle.review_subjects.proofs.reach.lists_some_host.Given as goal

abbrev pub invariant-loop-machine : goal.invariant-loop-machine
invariant-loop-machine l =
    list_any (host_allowed l.checked l.hosts) (drop l.machine-index l.machines) ≡ list_any (host_allowed l.checked l.hosts) l.machines
