use Rattle.std.proofs.Common.{◌∙◌, Option, Some, None, ap, subst}
use Rattle.std.specs.Borrow.{Bor}
use Rattle.review_roots.specs.declared.toward.Toward.{Toward}
use Rattle.review_roots.specs.Body.Found.{IsTowardOf}
use Rattle.review_roots.specs.Body.Towards.{HasStrong}
use Rattle.review_roots.proofs.TowardLemmas.{toward-itself}
use Rattle.review_roots.proofs.host.HostSteps.known_toward.Goals as goal

-- what is borrowed, or another one
abbrev now-or : Toward → Option (Bor Toward) → Toward
now-or t None = t
now-or t (Some b) = b.now

pub returns-in-Some-toward-clause-toward : goal.returns-in-Some-toward-clause-toward
returns-in-Some-toward-clause-toward c = λ t is.
    let h = c.args.self.now in
    let known = c.known.ensures c.in-Some.known c.in-Some.is in
    let toward = known.1.toward c.in-Some-toward.toward c.in-Some-toward.is in
    subst (IsTowardOf h c.args.state) (ap (now-or c.in-Some-toward.toward) is)
    (toward.state ∙ known.0, toward-itself h c.in-Some.known.now.state c.in-Some-toward.toward toward)

pub returns-in-Some-toward-clause-strong : goal.returns-in-Some-toward-clause-strong
returns-in-Some-toward-clause-strong c = λ t is.
    let known = c.known.ensures c.in-Some.known c.in-Some.is in
    subst (HasStrong c.args.self.now.least c.args.self.now.blocks.now) (ap (now-or c.in-Some-toward.toward) is)
    (known.1.strong_to c.in-Some-toward.toward c.in-Some-toward.is)
