use Rattle.std.proofs.Common.{arith, option_copied, refl}
use Rattle.review_roots.proofs.LoopLemmas.{asked-all}
use Rattle.review_roots.proofs.host.HostSteps.asked.Goals as goal

pub returns : goal.returns
returns c =
    asked-all c.args.self.now c.args.candidate.now (option_copied c.args.target) (option_copied c.args.group) c.loop-index.given
    c.loop-index.index-index c.args.candidate.now.listed.items c.requires refl (omega arith) c.loop-index.invariant
