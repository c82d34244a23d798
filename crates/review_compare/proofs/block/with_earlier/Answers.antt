use Rattle.std.proofs.Common.{rules}
use Rattle.sudo_verdict.proofs.TagLists.{IsWhole, or_tags-at}
use Rattle.review_compare.proofs.block.with_earlier.Goals as goal

pub returns : goal.returns
returns c =
    let whole : IsWhole c.args.tags = search (rules, c.well_formed) in
    rw c.or.ensures (or_tags-at c.args.tags c.args.tag c.position-position.result whole c.position-position.ensures)
