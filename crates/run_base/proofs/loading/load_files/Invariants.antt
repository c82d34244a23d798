use Rattle.std.proofs.Common.{◌≡◌, ◌≤◌, Some, length}
use Rattle.run_base.specs.Holding.{AreHeld}
use Rattle.run_base.proofs.loading.load_files.Given as goal

abbrev pub invariant-loop-call : goal.invariant-loop-call
invariant-loop-call g l = record {
  main : (g.F.Files.held l.fn.files).is_file l.fn.path (Some l.text);
  held : AreHeld (g.F.Files.held l.files) l.supplies.items;
  same : l.files ≡ l.fn.files;
  as_many : l._call ≤ length l.supplies.items;
}
