use Rattle.std.proofs.Common.{arith}
use Rattle.review_compare.proofs.WhoeverLemmas.{forms-more}
use Rattle.review_compare.proofs.side.Side.forms_of.Goals as goal

pub loop-index-preserved : goal.loop-index-preserved
loop-index-preserved c =
    forms-more c.args.self.now.checked.now c.args.self.now.blocks.items c.args.indices.now c.loop-index.forms.items
    c.push_form.new.forms.items c.loop-index.index-index c.in_ok-push_form.ensures.kept c.loop-index.invariant
    c.in_ok-push_form.ensures.has

pub returns : goal.returns
returns c = λ k less. c.loop-index.invariant k (omega (arith, less, c.loop-index-test.false))
