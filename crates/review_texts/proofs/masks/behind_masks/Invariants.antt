use Rattle.sudo_text.specs.declared.line.Line.{Line}
use Rattle.review_texts.specs.Masks.{IsBehind}
use Rattle.review_texts.proofs.masks.behind_masks.Given as goal

abbrev pub invariant-loop-left : goal.invariant-loop-left
invariant-loop-left l = (masked : Line) → IsBehind l.fn.readable l.left l.line masked → IsBehind l.fn.readable l.fn.most l.fn.line masked

abbrev pub decreases-loop-left : goal.decreases-loop-left
decreases-loop-left l = l.left
