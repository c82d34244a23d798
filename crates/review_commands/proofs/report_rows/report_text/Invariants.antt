use Rattle.std.proofs.Common.{◌≡◌, ◌++◌, take, flat_map}
use Rattle.audit_files.specs.Report.{line}
use Rattle.review_commands.specs.Rows.{header, sender_text}
use Rattle.review_commands.proofs.report_rows.report_text.Given as goal

-- the header and the records of the senders so far were written
abbrev pub invariant-loop-sender : goal.invariant-loop-sender
invariant-loop-sender l = l.text.items ≡ line header ++ flat_map (sender_text l.policy) (take l.sender-index l.sender-items)
