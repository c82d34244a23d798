use Rattle.std.proofs.Common.{◌∙◌}
use Rattle.review_cautions.proofs.SignFinds.{found_sign}
use Rattle.review_cautions.proofs.signs.has_sign.Goals as goal

pub returns : goal.returns
returns c = c.is_some.ensures ∙ found_sign c.args.line.now c.memchr3.result c.memchr3.ensures
