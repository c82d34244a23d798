use Rattle.audit_commands.proofs.Steps.{no_alias}
use Rattle.audit_commands.proofs.expand.expand_output.Goals as goal

pub returns-clause-fault : goal.returns-clause-fault
returns-clause-fault g c =
    no_alias (g.F.Files.held c.args.files.now) c.args.path.now c.args.kind c.args.name.now c.in-Ok.checked
    c.in-Err-alias_lines.fault c.in-Ok.ensures.checked c.in-Err-alias_lines.ensures.fault
