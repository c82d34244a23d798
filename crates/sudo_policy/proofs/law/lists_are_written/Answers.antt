use Rattle.sudo_policy.proofs.SoundLemmas.{are_written}
use Rattle.sudo_policy.proofs.law.lists_are_written.Goals as goal

pub returns : goal.returns
returns c = are_written c.args.checked.now c.policy-policy.ensures.sound
