use Rattle.review_texts.proofs.FormPlaces.{mask_within}
use Rattle.review_texts.proofs.masks.mask_line.Goals as goal

pub behind-requires : goal.behind-requires
behind-requires c =
    let is = rw c.in-Some.is at c.in_ok-mask.ensures in
    mask_within c.args.readable.now c.args.line.now c.in-Some.mask is
