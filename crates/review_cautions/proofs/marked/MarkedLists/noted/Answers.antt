use Rattle.std.proofs.Common.{◌∙◌, List, ap, map}
use Rattle.review_cautions.specs.declared.scanned.ScannedList.{ScannedList}
use Rattle.review_cautions.specs.Cautions.{noted_cautions}
use Rattle.review_cautions.specs.Body.Looking.{scanned_view}
use Rattle.review_cautions.proofs.LookLaws.{marked-notes}
use Rattle.review_cautions.proofs.marked.MarkedLists.noted.Goals as goal

pub returns : goal.returns
returns c =
    ap (λ (ls : List ScannedList). noted_cautions (map scanned_view ls)) c.deref.ensures.value
    ∙ ap noted_cautions c.args.self.now.are_marked
    ∙ marked-notes (map scanned_view c.args.self.now.lists.items)
