use Rattle.std.proofs.Common.{sym}
use Rattle.review_texts.proofs.standing.ipv6_standing.Goals as goal

pub returns-in-Some : goal.returns-in-Some
returns-in-Some c = rw (c.in-Some.is, sym c.as_slice.ensures) c.member_standing.ensures
