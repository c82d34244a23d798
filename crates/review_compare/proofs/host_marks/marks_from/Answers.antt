use Rattle.std.proofs.Common.{◌∙◌, ◌++◌, ◌∷◌, [], ap, arith, length, length-append, List, subst, sym}
use Rattle.review_compare.specs.declared.host_marks.HostMarks.{HostMarks}
use Rattle.review_compare.specs.Body.HostMarks.{HaveMarksFrom}
use Rattle.review_compare.proofs.HostMarksLemmas.{marks-more}
use Rattle.review_compare.proofs.host_marks.marks_from.Goals as goal

pub loop-host-preserved : goal.loop-host-preserved
loop-host-preserved c =
    let old = c.args.old.now in
    let new = c.args.new.now in
    let ms = c.args.directory.now.machines in
    let ks = c.loop-host.marks.items in
    let k = c.in_ok-marks_at.field-0 in
    let items = c.in_ok-push.ensures.items in
    let so_far = c.loop-host.invariant.long in
    let one = ap length items ∙ length-append ks (k ∷ []) in
    record {
      within = omega (arith, c.loop-host-test.true, c.loop-host.invariant.within);
      long = omega (arith, so_far, one);
      are = subst (λ (js : List HostMarks). HaveMarksFrom c.args.first old new ms js) (sym items)
          (marks-more c.args.first old new ms ks k c.loop-host.host so_far c.loop-host.invariant.are c.in_ok-marks_at.ensures);
    }
