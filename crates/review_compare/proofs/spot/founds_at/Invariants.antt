use Rattle.std.proofs.Common.{[], ◌∷◌, All, take}
use Rattle.review_compare.specs.Body.Classes.{AreRightIn}
use Rattle.review_compare.specs.Body.Comparisons.{AreRight}
use Rattle.review_compare.proofs.spot.founds_at.Given as goal

abbrev pub invariant-loop-class : goal.invariant-loop-class
invariant-loop-class l =
    AreRightIn l.pair l.spot.user (l.spot.host ∷ []) (take l.class-index l.classes) l.founds.items
    × AreRight l.pair l.comparisons
