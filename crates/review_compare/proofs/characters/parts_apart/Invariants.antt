use Rattle.std.proofs.Common.{◌≡◌, length, map}
use Rattle.review_compare.specs.Covering.{parts_apart}
use Rattle.review_compare.specs.Simply.{char_part}
use Rattle.review_compare.proofs.characters.parts_apart.Given as goal

-- what was passed does not tell them apart
abbrev pub invariant-loop-ch : goal.invariant-loop-ch
invariant-loop-ch l = parts_apart l.slash l.other_slash (map char_part l.first) (map char_part l.second)
    ≡ parts_apart l.slash l.other_slash (map char_part l.own) (map char_part l.left)

abbrev pub decreases-loop-ch : goal.decreases-loop-ch
decreases-loop-ch l = length l.own
