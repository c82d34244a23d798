use Rattle.std.proofs.Common.{rules}
use Rattle.review_commands.proofs.Refusals.{rules_without_workers}
use Rattle.review_commands.proofs.words.asked_rules.Goals as goal

pub returns-in_default-workers-clause-nothing : goal.returns-in_default-workers-clause-nothing
returns-in_default-workers-clause-nothing c other = rules_without_workers _ (c.workers.ensures.none (search rules))
