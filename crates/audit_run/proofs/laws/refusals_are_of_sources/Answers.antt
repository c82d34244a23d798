use Rattle.audit_run.proofs.SourceContent.{all_owned, all_rise}
use Rattle.audit_run.proofs.Refusals.{refused_of_sources}
use Rattle.audit_run.specs.Parts.{parts_by_owner}
use Rattle.audit_run.specs.Roster.{roster}
use Rattle.audit_run.proofs.laws.refusals_are_of_sources.Goals as goal

pub returns : goal.returns
returns c = λ names sources readable_bytes states workers outcomes why read all refused.
    refused_of_sources names (roster sources) workers (parts_by_owner sources states) outcomes
    (all_rise sources readable_bytes states read) (all_owned sources states) all why refused
