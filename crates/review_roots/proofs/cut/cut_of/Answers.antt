use Rattle.std.proofs.Common.{◌-◌, ◌∙◌, ap, drop, length}
use Rattle.std.specs.List.{list_all}
use Rattle.review_roots.specs.Blocks.{block_resolves}
use Rattle.review_roots.proofs.CutLemmas.{drop-all, take-all}
use Rattle.review_roots.proofs.DecidingLemmas.{deciding-all}
use Rattle.review_roots.proofs.cut.cut_of.Goals as goal

pub named_ids-requires-clause-blocks : goal.named_ids-requires-clause-blocks
named_ids-requires-clause-blocks c =
    ap (list_all (block_resolves c.args.checked.now)) c.deciding.ensures
    ∙ deciding-all (block_resolves c.args.checked.now) c.args.least c.args.blocks.now c.requires

pub named_ids-requires-2-clause-blocks : goal.named_ids-requires-2-clause-blocks
named_ids-requires-2-clause-blocks c =
    let start = c.start_of-start.result in
    let bs = c.args.blocks.now in
    take-all (block_resolves c.args.checked.now) (length bs - start) (drop start bs)
    (drop-all (block_resolves c.args.checked.now) start bs c.requires)
