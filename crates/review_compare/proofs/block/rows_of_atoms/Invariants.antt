use Rattle.std.proofs.Common.{◌≡◌, map}
use Rattle.review_compare.specs.Body.Heads.{row_answered, signed_answered}
use Rattle.review_compare.proofs.block.rows_of_atoms.Given as goal

abbrev pub invariant-loop-signed : goal.invariant-loop-signed
invariant-loop-signed l = map row_answered l.rows.items ≡ map (signed_answered l.tags) l.yielded
