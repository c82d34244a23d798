use Rattle.sudo_laws.proofs.FindingOutcomes.{never_both, passes_or_fails, policy_findings}
use Rattle.sudo_laws.proofs.existence.policies_pass_or_fail.Goals as goal

pub returns-clause-findings : goal.returns-clause-findings
returns-clause-findings c = policy_findings

pub returns-clause-passes : goal.returns-clause-passes
returns-clause-passes c = passes_or_fails

pub returns-clause-apart : goal.returns-clause-apart
returns-clause-apart c = never_both
