use Rattle.std.proofs.Common.{◌-◌, ◌∙◌, ap, arith, drop, length, map, sym}
use Rattle.review_compare.specs.Cells.{ruling_by}
use Rattle.review_compare.specs.Body.Chosen.{chosen}
use Rattle.review_compare.proofs.SettledLemmas.{behind-more, drop-length}
use Rattle.review_compare.proofs.settled.twins_behind.Goals as goal

pub loop-back-init : goal.loop-back-init
loop-back-init c =
    ap (λ is. map ruling_by (chosen c.args.parts.now.old.items is)) (drop-length c.args.old.now)
    ∙ sym (ap (λ is. map ruling_by (chosen c.args.parts.now.new.items is)) (drop-length c.args.new.now))

pub loop-back-preserved : goal.loop-back-preserved
loop-back-preserved c =
    behind-more c.args.parts.now c.args.twins.now c.args.old.now c.args.new.now c.loop-back.back c.requires
    (omega (arith, c.loop-back-test.true, c.min-most.ensures)) (omega (arith, c.loop-back-test.true, c.min-most.ensures))
    (c.is_twin.ensures c.if-not-is_twin.false) c.loop-back.invariant
