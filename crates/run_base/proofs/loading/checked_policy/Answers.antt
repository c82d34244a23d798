use Rattle.run_base.proofs.Steps.{not_passed_of}
use Rattle.run_base.proofs.loading.checked_policy.Goals as goal

pub returns-clause-fault : goal.returns-clause-fault
returns-clause-fault g c = not_passed_of (g.F.Files.held c.args.files.now) c.args.path.now c.in_ok-policy.policy
    c.checked_or_errors.result c.in_ok-policy.ensures.loaded c.checked_or_errors.ensures.fault
