use Rattle.std.proofs.Common.{◌∙◌, sym}
use Rattle.std.proofs.lemmas.Bool.{ne_eqb, not-true}
use Rattle.review_roots.proofs.LikeLemmas.{barred}
use Rattle.review_roots.proofs.host.HostSteps.is_barred.Goals as goal

pub returns-then-candidate-toward : goal.returns-then-candidate-toward
returns-then-candidate-toward c = λ is k l above.
    barred c.args.self.now c.args.candidate.now c.requires.candidate c.args.toward.now c.requires.toward
    (ne_eqb c.args.candidate.now.state.user c.args.toward.now.state.user c.if-candidate-toward.true)
    (sym c.may_reach.ensures ∙ not-true c.may_reach.result is) k l above
