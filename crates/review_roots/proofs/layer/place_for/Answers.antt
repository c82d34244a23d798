use Rattle.std.proofs.Common.{arith, inr}
use Rattle.review_roots.proofs.NotedLemmas.{far-before}
use Rattle.review_roots.proofs.layer.place_for.Goals as goal

pub returns-else-first-layer : goal.returns-else-first-layer
returns-else-first-layer c =
    far-before c.args.steps.now c.args.candidate.now c.requires.candidate c.args.firsts.now c.args.layer.now.start c.first_for-first.result
    c.first_for-first.ensures.user c.first_for-first.ensures.blocks c.args.layer.now.aims.items c.requires.layer.aimed
    c.requires.layer.noted c.requires.layer.order _ (inr (omega (arith, c.if-first-layer.false)))
