use Rattle.review_compare.proofs.UnchangedLemmas.{quiet-same}
use Rattle.review_compare.proofs.pair.Pair.may_differ_for.Goals as goal

pub returns-else-is_for_user : goal.returns-else-is_for_user
returns-else-is_for_user c = λ e q own.
    let self = c.args.self.now in
    quiet-same self.old.checked.now self.new.checked.now self.old.blocks.items self.new.blocks.items self.common q self.old.are_blocks
    self.new.are_blocks self.are_common (c.is_for_user.ensures c.if-is_for_user.false q own)
    (c.is_for_user-else-is_for_user.ensures e q own)
