use Rattle.std.proofs.Common.{◌∙◌, sym}
use Rattle.std.proofs.lemmas.Bool.{and_right}
use Rattle.review_cautions.proofs.lines.is_marked.Goals as goal

pub returns-else-line_holds : goal.returns-else-line_holds
returns-else-line_holds c =
    c.if-line_holds.false ∙ sym (and_right _ _ (sym c.line_holds.ensures ∙ c.if-line_holds.false))
