use Rattle.std.specs.Prelude.{codes}
use Rattle.sudo_base.proofs.Options.{on_ok}
use Rattle.audit_files.proofs.report.put_header.Goals as goal

pub returns : goal.returns
returns c = on_ok c.push_four.result (λ h. h (codes "sender") c.args.text.now.items c.in_ok-push_field.ensures) c.push_four.ensures
