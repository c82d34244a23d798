use Rattle.std.proofs.Common.{slice_get}
use Rattle.review_commands.specs.RootRows.{is_zero}
use Rattle.review_commands.proofs.RootSteps.{zero-next}
use Rattle.review_commands.proofs.root_rows.targets.Goals as goal

pub loop-user-preserved : goal.loop-user-preserved
loop-user-preserved c = zero-next (λ i. is_zero (slice_get c.args.directory.now.people i)) c.loop-user.user
    c.loop-user.targets.items c.push_zero.new.targets.items c.loop-user.invariant c.in_ok-push_zero.ensures
