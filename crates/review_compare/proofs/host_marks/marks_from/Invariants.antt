use Rattle.std.proofs.Common.{◌≡◌, ◌≤◌, ◌+◌, length}
use Rattle.review_compare.specs.Body.HostMarks.{HaveMarksFrom}
use Rattle.review_compare.proofs.host_marks.marks_from.Given as goal

abbrev pub invariant-loop-host : goal.invariant-loop-host
invariant-loop-host l =
    record {
      within : l.host ≤ l.first + l.count;
      long : l.first + length l.marks.items ≡ l.host;
      are : HaveMarksFrom l.first l.old l.new l.directory.machines l.marks.items;
    }
