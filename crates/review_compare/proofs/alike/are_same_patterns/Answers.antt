use Rattle.std.proofs.Common.{◌∙◌, sym}
use Rattle.review_compare.proofs.SimplyLemmas.{chars-same}
use Rattle.review_compare.proofs.alike.are_same_patterns.Goals as goal

pub returns : goal.returns
returns c = λ e.
    sym c.as_slice.ensures ∙ chars-same c.as_slice.result.now c.as_slice-2.result.now (sym c.same_chars.ensures ∙ e)
    ∙ c.as_slice-2.ensures
