use Rattle.std.proofs.Common.{length, refl, sym, ap, ◌∙◌}
use Rattle.std.proofs.lemmas.Option.{slice_get_read}
use Rattle.sudo_verdict.specs.Numbers.{group_mark}
use Rattle.sudo_verdict.specs.Body.NumberSets.{has_mark}
use Rattle.sudo_verdict.proofs.KeyLaws.{marks_more, no_marks}
use Rattle.sudo_verdict.proofs.index.number_set.MarkSet.of_groups.Goals as goal

pub loop-group-init : goal.loop-group-init
loop-group-init c = no_marks _

pub loop-group-preserved : goal.loop-group-preserved
loop-group-preserved c =
    let groups = c.args.groups.now in
    let there = slice_get_read groups (length groups) c.loop-group.group-index c.group-item.result refl
    c.loop-group-test.true c.group-item.is in
    marks_more c.loop-group.marks.words c.add.new.self.words groups c.loop-group.group-index c.group-item.result there c.add.ensures.keeps
    (ap (has_mark c.add.new.self.words) (sym (c.group_mark.ensures ∙ ap group_mark c.as_slice.ensures))
    ∙ c.add.ensures.adds) c.loop-group.invariant
