use Rattle.std.proofs.Common.{take}
use Rattle.review_compare.specs.Body.Classes.{AreFoundOn}
use Rattle.review_compare.proofs.host_class.hosts_by_found.Given as goal

abbrev pub invariant-loop-class : goal.invariant-loop-class
invariant-loop-class l = AreFoundOn (take l.class-index l.classes) l.index l.groups.items
