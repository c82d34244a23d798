use Rattle.std.proofs.Common.{◌≡◌}
use Rattle.run_base.specs.Holding.{AreHeld}
use Rattle.run_base.proofs.loading.read_ahead.Given as goal

abbrev pub invariant-loop-turn : goal.invariant-loop-turn
invariant-loop-turn g l = record {
  held : AreHeld (g.F.Files.held l.files) l.supplies.items;
  same : l.files ≡ l.fn.files;
}
