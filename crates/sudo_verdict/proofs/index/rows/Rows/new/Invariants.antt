use Rattle.std.proofs.Common.{◌≡◌, length}
use Rattle.sudo_verdict.proofs.index.rows.Rows.new.Given as goal

abbrev pub invariant-loop : goal.invariant-loop
invariant-loop l = length l.rows.items ≡ l.counter
