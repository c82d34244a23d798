use Rattle.std.proofs.Common.{◌∙◌, ap, map}
use Rattle.std.proofs.lemmas.Result.{IfOk-weaker}
use Rattle.review_roots.proofs.NamingLemmas.{rows-are}
use Rattle.review_roots.proofs.naming.naming.Goals as goal

pub returns : goal.returns
returns c =
    let ground = c.args.ground in
    IfOk-weaker c.rows_by.result _ _
    (λ rows made.
    rows-are ground.checked.now ground.blocks.now ground.groups.now c.deref.result.now rows.items
    (ap (map (λ v. v.items)) c.deref.ensures.value ∙ c.in_ok-lists.ensures) made)
    c.rows_by.ensures
