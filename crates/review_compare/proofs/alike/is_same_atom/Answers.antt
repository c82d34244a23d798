use Rattle.std.proofs.Common.{◌∙◌, sym}
use Rattle.review_compare.proofs.SimplyLemmas.{chars-same, arguments-same}
use Rattle.review_compare.proofs.alike.is_same_atom.Goals as goal

pub returns-else-not-same_chars : goal.returns-else-not-same_chars
returns-else-not-same_chars c = λ e.
    let path = sym c.as_slice.ensures
    ∙ chars-same c.as_slice.result.now c.as_slice-in-Command-Command.result.now (sym c.same_chars.ensures ∙ c.if-not-same_chars.false)
    ∙ c.as_slice-in-Command-Command.ensures in
    let args = arguments-same c.in-Command-Command.args c.in-Command-Command.other_args (sym c.are_same_arguments.ensures ∙ e) in
    cc
