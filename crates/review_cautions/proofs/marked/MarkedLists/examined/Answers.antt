use Rattle.std.proofs.Common.{◌∙◌, List, ap, map, sym}
use Rattle.review_cautions.specs.declared.scanned.ScannedList.{ScannedList}
use Rattle.review_cautions.specs.Cautions.{list_cautions}
use Rattle.review_cautions.specs.Body.Looking.{scanned_view}
use Rattle.review_cautions.proofs.LookLaws.{marked-cautions}
use Rattle.review_cautions.proofs.marked.MarkedLists.examined.Goals as goal

pub returns-then-needs_mark : goal.returns-then-needs_mark
returns-then-needs_mark c =
    let class = c.args.class in
    ap (λ (ls : List ScannedList). list_cautions class (map scanned_view ls)) c.deref.ensures.value
    ∙ ap (list_cautions class) c.args.self.now.are_marked
    ∙ marked-cautions class (sym c.needs_mark.ensures ∙ c.if-needs_mark.true) (map scanned_view c.args.self.now.lists.items)
