use Rattle.std.proofs.Common.{◌≡◌, ◌++◌, flat_map, take}
use Rattle.audit_files.specs.Report.{line}
use Rattle.review_commands.specs.SubjectRows.{subject_fields, subjects_header}
use Rattle.review_commands.proofs.subject_rows.subjects_text.Given as goal

-- the header and the records so far were written
abbrev pub invariant-loop-subject : goal.invariant-loop-subject
invariant-loop-subject l = l.text.items ≡ line subjects_header ++ flat_map (λ s. line (subject_fields l.files s)) (take l.subject-index
    l.found)
