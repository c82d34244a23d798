use Rattle.audit_files.specs.Places.{place_text}
use Rattle.review_subjects.specs.Kinds.{fault_name, kind_name}
use Rattle.review_commands.proofs.RowSteps.{line-four}
use Rattle.review_commands.proofs.subject_rows.push_subject.Goals as goal

pub returns : goal.returns
returns c =
    let s = c.args.subject.now in
    line-four c.args.text.now.items _ _ _
    (place_text c.args.files.now s.place) c.name.result.now c.as_slice.result.now c.name-2.result.now (kind_name s.kind) s.name
    (fault_name s.fault) c.in_ok-push_first.ensures c.name.ensures c.as_slice.ensures c.name-2.ensures c.in_ok-push_three.ensures
    c.in_ok-push.ensures.items
