use Rattle.audit_files.proofs.InterfaceLemmas.{interface_is}
use Rattle.audit_files.proofs.hosts.interface.Goals as goal

pub returns : goal.returns
returns c = interface_is c.args.addr c.args.bits _
