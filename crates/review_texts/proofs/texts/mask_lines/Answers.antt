use Rattle.review_texts.proofs.Blocks.{along_more}
use Rattle.review_texts.proofs.texts.mask_lines.Goals as goal

pub loop-line-preserved : goal.loop-line-preserved
loop-line-preserved c = along_more c.args.readable.now c.args.lines.now c.loop-line.left.now c.in-Some.after.now c.in-Some.line.now
    c.args.text.now c.loop-line.rest.now _ _ c.loop-line.masked _
    c.loop-line.invariant c.in-Some.ensures.cases.0 c.cut_written.ensures.front c.cut_written.ensures.rest c.in_ok-push_block.ensures
