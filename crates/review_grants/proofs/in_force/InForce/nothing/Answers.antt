use Rattle.sudo_verdict.specs.Tagged.{runas_before}
use Rattle.review_grants.proofs.in_force.InForce.nothing.Goals as goal

pub returns : goal.returns
unfolding runas_before
returns c = λ p. record { runas = c.new.ensures.items; tags = c.tags_before_end.ensures }
