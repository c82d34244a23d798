use Rattle.std.proofs.Common.{◌≡◌, take, true, ℕ, Bool}
use Rattle.std.specs.List.{list_all}
use Rattle.sudo_verdict.specs.Questions.{Question}
use Rattle.review_compare.specs.Body.Chosen.{standing_among, listed_at}
use Rattle.review_compare.proofs.side.Side.listed_on.Given as goal

abbrev pub invariant-loop-index : goal.invariant-loop-index
invariant-loop-index l = record {
  all : (q : Question) (on : ℕ → Bool) → q.host ≡ l.host →
      standing_among l.self.checked.now l.self.blocks.items q on l.indices.items
      ≡ standing_among l.self.checked.now l.self.blocks.items q on (take l.index-index l.listed);
  each : list_all (listed_at l.self.checked.now l.self.blocks.items l.user l.host) l.indices.items ≡ true;
}
