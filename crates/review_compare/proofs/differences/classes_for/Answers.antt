use Rattle.std.proofs.Common.{arith, option_copied, length, ap}
use Rattle.review_compare.specs.Body.AskClasses.{HaveAsk}
use Rattle.review_compare.specs.Body.Progress.{asking}
use Rattle.review_compare.proofs.ClassLemmas.{hosts-more}
use Rattle.review_compare.proofs.DifferenceLemmas.{each-before}
use Rattle.review_compare.proofs.differences.classes_for.Goals as goal

pub loop-host-preserved : goal.loop-host-preserved
loop-host-preserved c = (
  hosts-more c.args.pair.now c.loop-host.classes.items c.add_host.new.classes.items c.args.user c.loop-host.host
      (option_copied c.args.scope) (HaveAsk (asking c.args.pair.now) c.args.asked.now)
      c.loop-host.invariant.0 c.in_ok-add_host.ensures.added,
  c.in_ok-add_host.ensures.classes,
  c.in_ok-add_host.ensures.right,
)

pub returns : goal.returns
returns c =
    let long = ap length c.machines-machines.ensures in
    record {
      all = λ cell at. c.loop-host.invariant.0 cell (each-before c.args.pair.now (option_copied c.args.scope) c.args.user c.loop-host.host
          (HaveAsk (asking c.args.pair.now) c.args.asked.now) cell (omega (arith, long, c.loop-host-test.false)) at);
      classes = c.loop-host.invariant.1;
      right = c.loop-host.invariant.2;
    }
