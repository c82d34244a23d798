use Rattle.std.proofs.Common.{◌-◌, ◌∙◌, Option, length, subst, sym}
use Rattle.std.specs.Prelude.{IfSome}
use Rattle.review_compare.specs.declared.ruling.Ruled.{Ruled}
use Rattle.review_compare.specs.Body.Shown.{IsRow}
use Rattle.review_compare.proofs.UnsettledLemmas.{got-row}
use Rattle.review_compare.proofs.compared.last_row.Goals as goal

pub returns : goal.returns
returns c =
    let rows = c.args.rows.now in
    subst (λ (o : Option Ruled). IfSome o (IsRow rows)) (sym (c.copied.ensures ∙ c.last.ensures.value)) (got-row rows (length rows - 1))
