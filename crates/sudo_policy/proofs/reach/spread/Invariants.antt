use Rattle.std.proofs.Common.{◌+◌, ◌*◌, length}
use Rattle.sudo_policy.specs.Body.Marking.{unmarked_count}
use Rattle.sudo_policy.proofs.PastLemmas.{Spreads}
use Rattle.sudo_policy.proofs.reach.spread.Given as goal

abbrev pub invariant-loop-alias : goal.invariant-loop-alias
invariant-loop-alias l = Spreads l.links l.roots l.fn.marks l.found.items l.marks l.work.items

abbrev pub decreases-loop-alias : goal.decreases-loop-alias
decreases-loop-alias l = 2 * unmarked_count l.marks + length l.work.items
