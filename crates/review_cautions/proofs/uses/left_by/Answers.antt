use Rattle.std.proofs.Common.{◌∙◌, ◌++◌, List, ap, map, sym}
use Rattle.std.proofs.lemmas.List.{map-append}
use Rattle.review_cautions.specs.declared.scanned.ScannedList.{ScannedList}
use Rattle.review_cautions.specs.Body.Looking.{scanned_view}
use Rattle.review_cautions.proofs.UseLaws.{none_ahead}
use Rattle.review_cautions.proofs.uses.left_by.Goals as goal

pub returns-then-is_empty : goal.returns-then-is_empty
returns-then-is_empty c =
    let left : List ScannedList = c.loop-rest.left.items in
    let rest : List ScannedList = c.loop-rest.rest.now in
    ap (map scanned_view) c.in_ok-extend_from_slice.ensures.items
    ∙ map-append scanned_view left rest
    ∙ ap (λ ls. map scanned_view left ++ ls)
    (sym (none_ahead c.loop-rest.ahead.now (map scanned_view rest) (sym c.is_empty.ensures ∙ c.if-is_empty.true)))
    ∙ c.loop-rest.invariant
