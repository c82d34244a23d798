use Rattle.std.proofs.Common.{◌∙◌, subst, sym}
use Rattle.review_roots.specs.Body.Towards.{AllowAlone}
use Rattle.review_roots.proofs.LikeLemmas.{same-answers}
use Rattle.review_roots.proofs.toward.beside.Goals as goal

pub returns-clause-toward : goal.returns-clause-toward
returns-clause-toward c = λ p d gs bs is alone. record {
  state = is.state;
  allowed = is.allowed;
  alone = λ same.
      subst (AllowAlone p d bs c.args.toward.state.user)
      (sym (sym c.as_slice.ensures.value
      ∙ same-answers c.as_slice.result.now c.args.alone.now c.eq-as_alone.result c.eq-as_alone.ensures same)) alone;
}
