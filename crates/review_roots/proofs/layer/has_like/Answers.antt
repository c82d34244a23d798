use Rattle.std.proofs.Common.{arith, sym}
use Rattle.review_roots.proofs.layer.has_like.Goals as goal

pub returns-then-is_like : goal.returns-then-is_like
returns-then-is_like c = λ is. (
  c.index-aims-at-then-not-aims-at.result,
  (
    (_, omega (arith, c.loop-at-test.true, c.loop-at.invariant), sym c.index-aims-at-then-not-aims-at.is),
    c.is_like.ensures c.if-is_like.true,
  ),
)
