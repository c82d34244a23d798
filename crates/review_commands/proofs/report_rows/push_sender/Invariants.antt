use Rattle.std.proofs.Common.{◌≡◌, ◌++◌, take, flat_map}
use Rattle.csv.specs.Writing.{default_writer, field_text}
use Rattle.audit_files.specs.Report.{line}
use Rattle.review_commands.specs.Rows.{answer_fields}
use Rattle.review_commands.proofs.report_rows.push_sender.Given as goal

-- the records of the answers so far were written
abbrev pub invariant-loop-answer : goal.invariant-loop-answer
invariant-loop-answer l = (l.scratch.sender.items ≡ field_text default_writer l.sender.name)
    × (l.text.items ≡ l.fn.text.items ++ flat_map (λ a. line (answer_fields l.policy l.sender.name a)) (take l.answer-index l.answer-items))
