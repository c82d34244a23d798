use Rattle.std.proofs.Common.{◌≡◌, map, take}
use Rattle.review_compare.specs.Body.Shown.{ruling_of}
use Rattle.review_compare.proofs.compared.have_same_rulings.Given as goal

-- those passed answer the same
abbrev pub invariant-loop-index : goal.invariant-loop-index
invariant-loop-index l = map ruling_of (take l.index l.rows) ≡ map ruling_of (take l.index l.others)
