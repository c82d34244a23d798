use Rattle.std.proofs.Common.{option_copied, sym}
use Rattle.sudo_verdict.specs.Questions.{question_as}
use Rattle.review_compare.proofs.UnchangedLemmas.{quiet-same}
use Rattle.review_compare.proofs.pair.Pair.may_differ_asked.Goals as goal

pub returns-else-may_allow : goal.returns-else-may_allow
returns-else-may_allow c = λ e u m.
    let self = c.args.self.now in
    rw (sym c.person_at.ensures, sym c.group_at.ensures)
    (quiet-same self.old.checked.now self.new.checked.now self.old.blocks.items self.new.blocks.items self.common
    (question_as self.directory.now u m (option_copied c.person_at.result) (option_copied c.group_at.result))
    self.old.are_blocks self.new.are_blocks self.are_common
    (c.may_allow.ensures c.if-may_allow.false u m) (c.may_allow-else-may_allow.ensures e u m))
