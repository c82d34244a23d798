use Rattle.std.proofs.Common.{◌≡◌, ◌++◌, drop, flat_map}
use Rattle.std.specs.Prelude.{◌||◌}
use Rattle.std.specs.List.{list_any}
use Rattle.audit_files.specs.Report.{line}
use Rattle.review_program.specs.Changes.{are_noted, change_header, is_changed, sender_changes}
use Rattle.review_program.proofs.change_rows.changes_table.Given as goal

abbrev pub invariant-loop-sender : goal.invariant-loop-sender
invariant-loop-sender l = record {
  text : l.text.items
      ++ flat_map (sender_changes l.judges.old.now l.judges.new.now l.judges.directory.now) (drop l.sender-index l.sender-items)
      ≡ line (change_header (are_noted l.judges.old.now l.judges.new.now))
      ++ flat_map (sender_changes l.judges.old.now l.judges.new.now l.judges.directory.now) l.sender-items;
  changed : (l.changed || list_any (λ s. list_any (is_changed l.judges.old.now l.judges.new.now l.judges.directory.now) s.answers)
      (drop l.sender-index l.sender-items))
      ≡ list_any (λ s. list_any (is_changed l.judges.old.now l.judges.new.now l.judges.directory.now) s.answers) l.sender-items;
}
