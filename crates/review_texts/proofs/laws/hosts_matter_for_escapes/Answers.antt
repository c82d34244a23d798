use Rattle.review_texts.proofs.HostLaws.{unmasked_too, masked_too}
use Rattle.review_texts.proofs.laws.hosts_matter_for_escapes.Goals as goal

pub returns-clause-unmasked : goal.returns-clause-unmasked
returns-clause-unmasked c = λ r host line none other unmasked. unmasked_too r host line none other unmasked

pub returns-clause-masked : goal.returns-clause-masked
returns-clause-masked c = λ r host line masked none other is. masked_too r host line masked none other is
