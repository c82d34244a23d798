use Rattle.std.proofs.Common.{ap, sym}
use Rattle.review_grants.specs.Depends.{depends_text}
use Rattle.review_grants.proofs.NotedLemmas.{none-in}
use Rattle.review_grants.proofs.depends.NotedPlaces.depends.Goals as goal

pub returns-then-is_empty : goal.returns-then-is_empty
returns-then-is_empty c = sym (ap depends_text (none-in c.args.self.now c.args.at (c.is_empty.ensures.0 c.if-is_empty.true)))
