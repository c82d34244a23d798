use Rattle.sudo_verdict.specs.Questions.{question_as}
use Rattle.std.proofs.Common.{option_copied, sym}
use Rattle.review_compare.proofs.UnchangedLemmas.{quiet-same}
use Rattle.review_compare.proofs.pair.Pair.may_differ_at.Goals as goal

pub returns-else-is_for_asker : goal.returns-else-is_for_asker
returns-else-is_for_asker c = λ e m.
    let self = c.args.self.now in
    rw (sym c.person_at.ensures, sym c.group_at.ensures)
    (quiet-same self.old.checked.now self.new.checked.now self.old.blocks.items self.new.blocks.items self.common
    (question_as self.directory.now c.args.person.now m (option_copied c.person_at.result) (option_copied c.group_at.result))
    self.old.are_blocks self.new.are_blocks self.are_common
    (c.is_for_asker.ensures c.if-is_for_asker.false m) (c.is_for_asker-else-is_for_asker.ensures e m))
