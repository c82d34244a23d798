use Rattle.std.proofs.Common.{◌≡◌, length}
use Rattle.run_base.specs.Holding.{file_at}
use Rattle.review_commands.proofs.file_texts.supplied.Given as goal

abbrev pub invariant-loop-supply : goal.invariant-loop-supply
invariant-loop-supply l = file_at l.supplies l.path ≡ file_at l.left l.path

abbrev pub decreases-loop-supply : goal.decreases-loop-supply
decreases-loop-supply l = length l.left
