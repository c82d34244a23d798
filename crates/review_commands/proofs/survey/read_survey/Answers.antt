use Rattle.std.proofs.Common.{◌≢◌, rules}
use Rattle.audit_commands.specs.declared.fault.DirectoryFault.TheVariants as directories
use Rattle.review_commands.proofs.ReportSteps.{checked_of}
use Rattle.review_commands.proofs.survey.read_survey.Goals as goal

pub returns : goal.returns
returns g c =
    let other : c.in-Err-directory_of.fault ≢ directories.Memory = search rules in
    record {
      surveyed = tt;
      fault = (
        other,
        (c.in-Ok.checked.policy, checked_of _ _ _ _ _ c.in-Ok.ensures.loaded c.in-Ok.ensures.passes),
        c.in-Err-directory_of.ensures.fault,
      );
    }
