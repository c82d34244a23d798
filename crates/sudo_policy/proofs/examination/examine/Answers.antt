use Rattle.sudo_policy.proofs.IndexLemmas.{IsIndex-survey}
use Rattle.sudo_policy.proofs.examination.examine.Goals as goal

pub returns-clause-index : goal.returns-clause-index
returns-clause-index c = IsIndex-survey c.args.policy.now c.in_ok-survey.survey c.in_ok-survey.ensures
