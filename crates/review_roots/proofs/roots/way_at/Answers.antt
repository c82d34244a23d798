use Rattle.std.proofs.Common.{subst, sym}
use Rattle.review_roots.specs.Body.Found.{AreStarts, any_sought}
use Rattle.review_roots.proofs.FreeLemmas.{none-of}
use Rattle.review_roots.proofs.roots.way_at.Goals as goal

pub returns-in-None : goal.returns-in-None
returns-in-None c =
    let found = c.args.chains.now.any.items in
    none-of c.args.steps.now c.args.target c.args.level c.requires.lead.level c.args.user c.requires.known (any_sought c.args.target) found
    c.requires.lead.any
    (c.in-None.ensures found (subst (AreStarts found) (sym c.deref.ensures.value) c.requires.lead.are.any_starts))
