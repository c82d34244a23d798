use Rattle.review_texts.proofs.FormPlaces.{unrefused, masked_by}
use Rattle.review_texts.proofs.masks.mask_of.Goals as goal

pub returns-in_default : goal.returns-in_default
returns-in_default c =
    let none = rw c.in_default.is at c.in_ok-form.ensures in
    unrefused c.args.readable.now c.args.line.now none

pub returns : goal.returns
returns c =
    let refused = rw c.in-Some.is at c.in_ok-form.ensures in
    masked_by c.args.readable.now c.args.line.now c.in-Some.form c.in_ok-found.found (cc (c.is_fit.ensures.fit)) refused
    c.in_ok-found.ensures
