use Rattle.review_compare.proofs.UnchangedLemmas.{quiet-same}
use Rattle.review_compare.proofs.pair.Pair.may_differ_on.Goals as goal

pub returns-else-is_for_spot : goal.returns-else-is_for_spot
returns-else-is_for_spot c = λ e q own on.
    let self = c.args.self.now in
    quiet-same self.old.checked.now self.new.checked.now self.old.blocks.items self.new.blocks.items self.common q self.old.are_blocks
    self.new.are_blocks self.are_common (c.is_for_spot.ensures c.if-is_for_spot.false q own on)
    (c.is_for_spot-else-is_for_spot.ensures e q own on)
