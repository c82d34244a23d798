use Rattle.std.proofs.Common.{◌∙◌, arith, subst, take}
use Rattle.std.specs.Prelude.{All}
use Rattle.std.proofs.lemmas.List.{take_all}
use Rattle.std.proofs.lemmas.List.Elements.{All-more, All-weaker}
use Rattle.review_roots.specs.Body.Firsts.{IsBounded}
use Rattle.review_roots.proofs.firsts.Firsts.first_for.Goals as goal

pub loop-index-preserved : goal.loop-index-preserved
loop-index-preserved c =
    let on = c.args.steps.now.on.items in
    let blocks = c.args.self.now.blocks.items in
    let strong = c.deref-index-items.result.now in
    let n = c.loop-index.index-index in
    let less = c.or_noted-first.ensures.lesser in
    record {
      user = λ i noted. let most = c.loop-index.invariant.user i noted in omega (arith, most, less);
      blocks = All-more (IsBounded on blocks c.args.start c.or_noted-first.result) strong n 0 c.loop-index-test.true
          (All-weaker (IsBounded on blocks c.args.start c.loop-index.first) (IsBounded on blocks c.args.start c.or_noted-first.result)
          (λ k bounded here i noted. let most = bounded here i noted in omega (arith, most, less)) (take n strong)
          c.loop-index.invariant.blocks)
          c.or_noted-first.ensures.bounded;
    }

pub returns-clause-blocks : goal.returns-clause-blocks
returns-clause-blocks c =
    let n = c.loop-index.index-index in
    let items = c.deref-index-items.result.now in
    subst (All (IsBounded c.args.steps.now.on.items c.args.self.now.blocks.items c.args.start c.loop-index.first))
    (take_all n items (omega (arith, c.loop-index-test.false)) ∙ c.deref-index-items.ensures.value) c.loop-index.invariant.blocks
