use Rattle.sudo_policy.specs.Written.{writing}
use Rattle.sudo_policy.proofs.FollowingLemmas.{reading_same}
use Rattle.sudo_policy.proofs.law.written_form_is_one.Goals as goal

pub returns : goal.returns
returns c kind p ms a b f g = reading_same writing kind p f.steps g.steps ms a b f.reads g.reads
