use Rattle.run_base.proofs.Steps.{not_passed}
use Rattle.run_base.proofs.loading.checked_files.Goals as goal

pub returns-in-Err-clause-fault : goal.returns-in-Err-clause-fault
returns-in-Err-clause-fault g c = not_passed (g.F.Files.held c.args.files.now) c.args.path.now c.in_ok-text.field-0.policy c.in-Err.fault
    (c.in_ok-text.field-0.text, c.in_ok-text.field-0.supplies, c.in_ok-text.ensures.loaded) c.in-Err.ensures.fault
