use Rattle.std.proofs.Common.{◌≡◌, ◌++◌, drop}
use Rattle.std.specs.Prelude.{option_map}
use Rattle.review_compare.specs.Simply.{chars_text}
use Rattle.review_compare.proofs.shape.single_text.Given as goal

-- the text so far, and that of the rest
abbrev pub invariant-loop-ch : goal.invariant-loop-ch
invariant-loop-ch l = chars_text l.chars ≡ option_map (λ t. l.text.items ++ t) (chars_text (drop l.ch-index l.chars))
