use Rattle.review_program.proofs.NotedSteps.{may_depends, undepending_hold, unlisted_say_same, unnoted_by_verdicts}
use Rattle.review_program.proofs.changes.changes_hold.Goals as goal

pub returns : goal.returns
returns c = record { unlisted = unlisted_say_same; held = undepending_hold; may = may_depends; unnoted = unnoted_by_verdicts }
