use Rattle.std.proofs.Common.{◌≡◌, ◌<◌, ◌∙◌, List, ap, get_or, length, subst}
use Rattle.review_compare.specs.declared.ruling.Ruled.{Ruled}
use Rattle.review_compare.proofs.NoteLemmas.{marks-more}
use Rattle.review_compare.proofs.noted_policy.NotedPolicy.marks.Goals as goal

pub loop-row-preserved : goal.loop-row-preserved
loop-row-preserved c =
    let self = c.args.self.now in
    let rows = c.args.cases.now.noted.items in
    let i = c.loop-row.row-index in
    let r = c.row-item.result in
    let same = c.deref-row-items.ensures.value in
    let less : i < length rows = subst (λ (rs : List Ruled). i < length rs) same c.loop-row-test.true in
    let is : r ≡ get_or rows i r = c.row-item.is ∙ ap (λ (rs : List Ruled). get_or rs i r) same in
    marks-more self.checked.now rows i r c.loop-row.marks c.marks.result c.joined-marks.result less is c.joined-marks.ensures
    (c.marks.ensures ∙ self.marked r.place) c.loop-row.invariant
