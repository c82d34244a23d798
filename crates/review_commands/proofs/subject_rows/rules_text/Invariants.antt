use Rattle.std.proofs.Common.{◌≡◌, ◌++◌, flat_map, take}
use Rattle.audit_files.specs.Report.{line}
use Rattle.review_commands.specs.SubjectRows.{rule_fields, rules_header}
use Rattle.review_commands.proofs.subject_rows.rules_text.Given as goal

-- the header and the records so far were written
abbrev pub invariant-loop-row : goal.invariant-loop-row
invariant-loop-row l = l.text.items ≡ line rules_header ++ flat_map (λ s. line (rule_fields l.policy s)) (take l.row-index l.rows)
