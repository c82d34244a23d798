use Rattle.sudo_policy.proofs.FoundLemmas.{AreFindings-same}
use Rattle.sudo_policy.proofs.law.findings_are_one_list.Goals as goal

pub returns : goal.returns
returns c = AreFindings-same
