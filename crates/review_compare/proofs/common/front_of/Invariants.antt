use Rattle.review_compare.specs.Body.Unchanged.{IsFront}
use Rattle.review_compare.proofs.common.front_of.Given as goal

abbrev pub invariant-loop-front : goal.invariant-loop-front
invariant-loop-front l = IsFront l.old.checked.now l.old.blocks.items l.new.checked.now l.new.blocks.items l.front
