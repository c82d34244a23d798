use Rattle.std.proofs.Common.{◌<◌, ℕ, get_or}
use Rattle.review_compare.specs.Body.Whoever.{HasForm}
use Rattle.review_compare.proofs.side.Side.forms_of.Given as goal

abbrev pub invariant-loop-index : goal.invariant-loop-index
invariant-loop-index l = (k : ℕ) → k < l.index-index →
    HasForm l.self.checked.now l.self.blocks.items l.forms.items (get_or l.indices k 0)
