use Rattle.std.proofs.Common.{◌≡◌, length}
use Rattle.review_texts.specs.Words.{has_word as has_word_in}
use Rattle.review_texts.proofs.words.has_word.Given as goal

abbrev pub invariant-loop-first : goal.invariant-loop-first
invariant-loop-first l = has_word_in l.fn.text ≡ has_word_in l.left

abbrev pub decreases-loop-first : goal.decreases-loop-first
decreases-loop-first l = length l.left
