use Rattle.std.proofs.Common.{◌≡◌, ◌++◌, drop, map}
use Rattle.review_cautions.specs.Classes.{class_name}
use Rattle.review_commands.proofs.words.classes_named.Given as goal

abbrev pub invariant-loop-word : goal.invariant-loop-word
invariant-loop-word l = map class_name l.classes.items ++ map (λ w. w.now) (drop l.word-index l.words) ≡ map (λ w. w.now) l.words
