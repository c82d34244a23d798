use Rattle.std.proofs.Common.{◌≡◌, ◌∙◌, Some, sym}
use Rattle.review_compare.proofs.ComparedLemmas.{answer_same}
use Rattle.review_compare.proofs.alike.are_same_tags.Goals as goal

pub returns : goal.returns
returns c = λ e. let same : Some c.args.tags ≡ Some c.args.other = answer_same (Some c.args.tags) (Some c.args.other)
    (sym c.is_same_answer.ensures ∙ e) in cc
