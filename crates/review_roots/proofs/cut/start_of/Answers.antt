use Rattle.std.proofs.Common.{option_copied, subst}
use Rattle.std.proofs.lemmas.List.Elements.{All-more}
use Rattle.review_roots.specs.Body.Deciding.{IsPassed}
use Rattle.review_roots.proofs.cut.start_of.Goals as goal

pub loop-index-preserved : goal.loop-index-preserved
loop-index-preserved c =
    let passed = IsPassed c.args.least (option_copied c.args.name) in
    All-more passed c.args.blocks.now c.loop-index.index c.index-blocks-index.result c.loop-index-test.true c.loop-index.invariant
    (subst passed c.index-blocks-index.is (c.is_passed.ensures c.if-not-is_passed.false))
