use Rattle.audit_run.proofs.SourceContent.{all_rise}
use Rattle.audit_run.proofs.Twice.{ask_in_two}
use Rattle.audit_run.specs.Parts.{parts_by_owner}
use Rattle.audit_run.proofs.laws.doubles_are_of_two_sources.Goals as goal

pub returns : goal.returns
returns c = λ sources readable_bytes states sender number read twice.
    ask_in_two sender number (parts_by_owner sources states) (all_rise sources readable_bytes states read) twice
