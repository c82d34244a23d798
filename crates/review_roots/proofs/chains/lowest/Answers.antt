use Rattle.std.proofs.Common.{subst, sym}
use Rattle.std.specs.Prelude.{IfOk}
use Rattle.review_roots.specs.declared.level.Level.TheVariants as level
use Rattle.review_roots.specs.Body.Found.{IsLowerSpread, lower_spread}
use Rattle.review_roots.proofs.chains.lowest.Goals as goal

pub returns-in-Some : goal.returns-in-Some
returns-in-Some c =
    subst (λ o. IfOk c.lower.result (λ s. IsLowerSpread c.args.steps.now c.args.target level.Listed
    (lower_spread c.args.all.now.found.items o) s)) (sym c.in-Some.is) c.lower.ensures

pub returns-in-None : goal.returns-in-None
returns-in-None c =
    subst (λ o. IfOk c.lower-in-None.result (λ s. IsLowerSpread c.args.steps.now c.args.target level.Listed
    (lower_spread c.args.all.now.found.items o) s)) (sym c.in-None.is) c.lower-in-None.ensures
