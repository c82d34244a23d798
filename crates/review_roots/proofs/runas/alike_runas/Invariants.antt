use Rattle.std.proofs.Common.{◌≡◌, length}
use Rattle.review_roots.specs.Body.Alike.{AreFirstsBy, HaveAlikeRunas}
use Rattle.review_roots.proofs.runas.alike_runas.Given as goal

abbrev pub invariant-loop-index : goal.invariant-loop-index
invariant-loop-index l = record {
  long : length l.firsts.items ≡ l.index;
  are : AreFirstsBy HaveAlikeRunas l.blocks l.firsts.items;
}
