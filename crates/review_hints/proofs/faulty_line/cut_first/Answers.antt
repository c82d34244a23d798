use Rattle.std.proofs.Common.{arith}
use Rattle.std.proofs.lemmas.Grind.{common_steps}
use Rattle.sudo_text.proofs.Cuts.{cut-first_line}
use Rattle.review_hints.proofs.faulty_line.cut_first.Goals as goal

pub returns-then-end-text-clause-cut : goal.returns-then-end-text-clause-cut
returns-then-end-text-clause-cut c =
    let whole = cut-first_line c.args.text.now c.line_end-end.result c.requires c.line_end-end.ensures.at in
    grind (arith, common_steps, whole)

pub returns-clause-cut : goal.returns-clause-cut
returns-clause-cut c =
    let whole = cut-first_line c.args.text.now c.line_end-end.result c.requires c.line_end-end.ensures.at in
    grind (arith, common_steps, whole)
