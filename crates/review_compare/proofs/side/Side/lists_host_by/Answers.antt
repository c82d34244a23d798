use Rattle.std.proofs.Common.{◌∙◌, sym}
use Rattle.review_compare.proofs.side.Side.lists_host_by.Goals as goal

pub returns-in-Some : goal.returns-in-Some
returns-in-Some c = c.requires c.args.index c.in-Some.lists (sym c.mark_at.ensures ∙ c.in-Some.is)
