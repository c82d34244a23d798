use Rattle.std.proofs.Common.{refl}
use Rattle.review_roots.proofs.LoopLemmas.{traced-is, way-is}
use Rattle.review_roots.proofs.way.way_of.Goals as goal

pub returns-clause-chain : goal.returns-clause-chain
returns-clause-chain c = (
  refl,
  λ q f are order at.
      way-is c.args.steps.now q c.args.level c.args.found.now c.args.index _ f c.in_ok-chain.field-0.chain c.in_ok-chain.field-0.password
      c.in_ok-chain.field-0.marks c.requires.level are order
      c.requires.given c.requires.inside at c.in_ok-chain.ensures.leads c.in_ok-chain.ensures.along
      c.in_ok-chain.ensures.inside c.in_ok-chain.ensures.row
      c.in_ok-chain.ensures.password c.in_ok-chain.ensures.marks,
)

pub returns-clause-traced : goal.returns-clause-traced
returns-clause-traced c =
    traced-is c.args.steps.now c.args.level c.args.found.now c.args.index _ c.in_ok-chain.field-0.chain c.in_ok-chain.field-0.password
    c.in_ok-chain.field-0.marks c.requires.given c.requires.inside c.in_ok-chain.ensures.leads c.in_ok-chain.ensures.along
    c.in_ok-chain.ensures.inside c.in_ok-chain.ensures.row c.in_ok-chain.ensures.password c.in_ok-chain.ensures.marks
