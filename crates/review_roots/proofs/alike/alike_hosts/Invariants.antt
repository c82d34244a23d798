use Rattle.std.proofs.Common.{◌≡◌, length}
use Rattle.review_roots.specs.Body.Alike.{AreFirsts, host_list}
use Rattle.review_roots.proofs.alike.alike_hosts.Given as goal

abbrev pub invariant-loop-index : goal.invariant-loop-index
invariant-loop-index l = record {
  long : length l.firsts.items ≡ l.index;
  are : AreFirsts host_list l.blocks l.firsts.items;
}
