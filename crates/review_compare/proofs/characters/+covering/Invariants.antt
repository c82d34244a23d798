use Rattle.std.proofs.Common.{◌≡◌, ◌≤◌, ◌+◌, ◌*◌, length, map}
use Rattle.review_compare.specs.Covering.{parts_cover, star_covers}
use Rattle.review_compare.specs.Simply.{char_part}
use Rattle.review_compare.proofs.characters.+covering.Given as goal

-- a star is left out before the rest is tried
abbrev pub decreases-star_covers : goal.decreases-star_covers
decreases-star_covers l = 2 * length l.rest.now + length l.others.now + 1

abbrev pub decreases-parts_cover : goal.decreases-parts_cover
decreases-parts_cover l = 2 * length l.first.now + length l.others.now

-- the star takes what was passed
abbrev pub invariant-star_covers-loop-other : goal.invariant-star_covers-loop-other
invariant-star_covers-loop-other l = record {
  within : length l.left ≤ length l.others;
  same : star_covers l.slash (parts_cover l.slash (map char_part l.rest)) (map char_part l.others)
      ≡ star_covers l.slash (parts_cover l.slash (map char_part l.rest)) (map char_part l.left);
}

abbrev pub decreases-star_covers-loop-other : goal.decreases-star_covers-loop-other
decreases-star_covers-loop-other l = length l.left

-- what was passed is covered
abbrev pub invariant-parts_cover-loop-ch : goal.invariant-parts_cover-loop-ch
invariant-parts_cover-loop-ch l = record {
  own_within : length l.own ≤ length l.first;
  within : length l.left ≤ length l.others;
  same : parts_cover l.slash (map char_part l.first) (map char_part l.others)
      ≡ parts_cover l.slash (map char_part l.own) (map char_part l.left);
}

abbrev pub decreases-parts_cover-loop-ch : goal.decreases-parts_cover-loop-ch
decreases-parts_cover-loop-ch l = length l.own
