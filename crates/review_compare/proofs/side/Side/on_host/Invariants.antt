use Rattle.std.proofs.Common.{◌≡◌, take}
use Rattle.std.specs.Prelude.{filter}
use Rattle.review_compare.specs.Body.Chosen.{host_at}
use Rattle.review_compare.proofs.side.Side.on_host.Given as goal

abbrev pub invariant-loop-index : goal.invariant-loop-index
invariant-loop-index l = l.on.items
    ≡ filter (host_at l.self.checked.now l.self.blocks.items l.host) (take l.index-index l.indices)
