use Rattle.std.proofs.Common.{◌∙◌, sym}
use Rattle.review_roots.proofs.LikeLemmas.{same-answers}
use Rattle.review_roots.proofs.layer.is_as_allowed.Goals as goal

pub returns : goal.returns
returns c = λ is.
    sym c.as_slice.ensures.value ∙ same-answers c.as_slice.result.now c.as_slice-2.result.now c.eq.result c.eq.ensures is
    ∙ c.as_slice-2.ensures.value
