use Rattle.std.proofs.Common.{ap, arith, length, length-drop}
use Rattle.review_compare.proofs.ChangedLemmas.{behind, tails-same}
use Rattle.review_compare.proofs.OverlapLemmas.{ends-of, same-by}
use Rattle.review_compare.proofs.overlap.tried_overlap.Goals as goal

pub returns-clause-none : goal.returns-clause-none
returns-clause-none c = λ none.
    let old = c.args.trial.now.old_rows.now in
    let new = c.args.trial.now.new_rows.now in
    let front = c.same_front-front in
    let back = c.same_back-back in
    let rows = c.in_ok-rows.rows in
    let is = c.in_ok-rows.ensures in
    let own = ap length (behind old front.result) in
    let its = ap length (behind new front.result) in
    same-by rows.old.now rows.new.now old new rows.front front.result rows.old_end rows.new_end back.result is.rows.0 is.rows.1
    is.ends.0 is.ends.1 is.ends.2
    (ends-of old new front.result back.result front.ensures.within.0 front.ensures.within.1
    (omega (arith, own, length-drop front.result old, back.ensures.within.0))
    (omega (arith, its, length-drop front.result new, back.ensures.within.1))
    front.ensures.same (tails-same old new front.result back.result back.ensures.same))
    (c.first_unlike.ensures.none none)
