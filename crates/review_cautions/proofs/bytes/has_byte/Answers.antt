use Rattle.std.proofs.Common.{◌∙◌}
use Rattle.memchr.specs.Find.{is_byte}
use Rattle.review_cautions.proofs.SignFinds.{found_byte}
use Rattle.review_cautions.proofs.bytes.has_byte.Goals as goal

pub returns : goal.returns
returns c = c.is_some.ensures ∙ found_byte (is_byte c.args.byte) c.args.line.now c.memchr.result c.memchr.ensures
