use Rattle.std.proofs.Common.{◌≡◌, ◌++◌, drop, flat_map}
use Rattle.std.specs.Prelude.{◌||◌}
use Rattle.std.specs.List.{list_any}
use Rattle.review_program.specs.Changes.{change_record, is_changed}
use Rattle.review_program.proofs.change_rows.push_sender.Given as goal

abbrev pub invariant-loop-answer : goal.invariant-loop-answer
invariant-loop-answer l = record {
  text : l.text.items
      ++ flat_map (change_record l.judges.old.now l.judges.new.now l.judges.directory.now l.sender.name)
      (drop l.answer-index l.answer-items)
      ≡ l.initial.text.items
      ++ flat_map (change_record l.judges.old.now l.judges.new.now l.judges.directory.now l.sender.name) l.answer-items;
  changed : (l.changed || list_any (is_changed l.judges.old.now l.judges.new.now l.judges.directory.now)
      (drop l.answer-index l.answer-items))
      ≡ list_any (is_changed l.judges.old.now l.judges.new.now l.judges.directory.now) l.answer-items;
}
