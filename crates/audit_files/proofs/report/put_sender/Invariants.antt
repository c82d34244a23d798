use Rattle.std.proofs.Common.{◌≡◌, ◌++◌, take, flat_map}
use Rattle.csv.specs.Writing.{default_writer, field_text}
use Rattle.audit_files.specs.Report.{answer_fields, line}
use Rattle.audit_files.proofs.report.put_sender.Given as goal

-- the records of the answers so far were written
abbrev pub invariant-loop-answer : goal.invariant-loop-answer
invariant-loop-answer l = (l.scratch.sender.items ≡ field_text default_writer l.sender.name)
    × (l.text.items ≡ l.fn.text.items ++ flat_map (λ a. line (answer_fields l.files l.sender.name a)) (take l.answer-index l.answer-items))
