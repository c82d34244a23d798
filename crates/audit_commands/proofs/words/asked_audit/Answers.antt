use Rattle.std.proofs.Common.{rules}
use Rattle.audit_commands.proofs.Refusals.{audit_without_workers}
use Rattle.audit_commands.proofs.words.asked_audit.Goals as goal

pub returns-in_default-workers-clause-nothing : goal.returns-in_default-workers-clause-nothing
returns-in_default-workers-clause-nothing c other = audit_without_workers _ (c.workers.ensures.none (search rules))
