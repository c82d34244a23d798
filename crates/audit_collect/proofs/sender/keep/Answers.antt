use Rattle.std.proofs.Common.{rules}
use Rattle.sudo_base.proofs.Options.{on_ok}
use Rattle.audit_collect.proofs.Lookups.{answer_at-waits}
use Rattle.audit_collect.proofs.sender.keep.Goals as goal

pub returns-else-number-len-clause-ok : goal.returns-else-number-len-clause-ok
returns-else-number-len-clause-ok c =
    on_ok c.wait.result (answer_at-waits c.args.released.now.items c.args.waiting.now.entries
    c.wait.new.waiting.entries c.args.answer.request.number c.args.answer (search rules)) c.wait.ensures.ok
