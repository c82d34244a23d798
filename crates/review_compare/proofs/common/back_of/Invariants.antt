use Rattle.review_compare.specs.Body.Unchanged.{IsBack}
use Rattle.review_compare.proofs.common.back_of.Given as goal

abbrev pub invariant-loop-back : goal.invariant-loop-back
invariant-loop-back l = IsBack l.old.checked.now l.old.blocks.items l.new.checked.now l.new.blocks.items l.back
