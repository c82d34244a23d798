use Rattle.sudo_laws.proofs.DecisionLemmas.{alias_decides}
use Rattle.sudo_laws.proofs.members.alias_decides_as_its_list.Goals as goal

pub returns : goal.returns
returns c = alias_decides c.args.checked.now c.policy-policy.ensures.sound
