use Rattle.std.proofs.Common.{option_copied}
use Rattle.std.proofs.lemmas.Result.{IfOk-weaker}
use Rattle.review_roots.proofs.TowardLemmas.{allowed-all}
use Rattle.review_roots.proofs.toward.allowed.Goals as goal

pub returns : goal.returns
returns c =
    IfOk-weaker c.allowed_to.result _ _
    (λ v is. allowed-all c.args.ground.checked.now c.args.ground.directory.now c.args.ground.blocks.now c.args.target.now
    c.in_ok-stranger.stranger _ (option_copied c.args.group) v.items c.in_ok-stranger.ensures is)
    c.allowed_to.ensures
