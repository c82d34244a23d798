use Rattle.std.proofs.Common.{◌≡◌, ◌++◌, ◌*◌, length}
use Rattle.std.specs.Vec.Iter.{into_iter_items}
use Rattle.review_compare.specs.Body.HostMarks.{HaveHostMarks}
use Rattle.review_compare.proofs.host_marks.joined_marks.Given as goal

abbrev pub invariant-loop-part : goal.invariant-loop-part
invariant-loop-part l =
    record {
      can_next : (goal.iterator-loop-part).can_next l.part-iterator;
      is_finite : (goal.iterator-loop-part).is_finite l.part-iterator;
      rest : l.yielded ++ into_iter_items l.part-iterator ≡ l.fn.parts.items;
      long : length l.marks.items ≡ length l.yielded * l.count;
      are : HaveHostMarks l.old l.new l.directory.machines l.marks.items;
    }
