use Rattle.std.proofs.lemmas.Result.{IfOk-weaker}
use Rattle.review_compare.specs.declared.compared.Compared.{Compared}
use Rattle.review_compare.proofs.SpotLemmas.{class-right}
use Rattle.review_compare.proofs.spot.found_at.Goals as goal

pub returns : goal.returns
returns c = record {
  found = IfOk-weaker c.found_on.result _ _
      (λ (f : Compared) is. class-right c.args.pair.now c.args.spot c.args.class.now f c.requires.spot c.requires.class is)
      c.found_on.ensures.found;
  right = c.found_on.ensures.right;
}
