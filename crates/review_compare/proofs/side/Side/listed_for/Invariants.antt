use Rattle.std.proofs.Common.{◌≡◌, take, true, ℕ, Bool}
use Rattle.std.specs.List.{list_all}
use Rattle.sudo_verdict.specs.Questions.{Question}
use Rattle.review_compare.specs.Body.Chosen.{standing_among, user_at}
use Rattle.review_compare.proofs.side.Side.listed_for.Given as goal

abbrev pub invariant-loop-index : goal.invariant-loop-index
invariant-loop-index l = record {
  all : (q : Question) (on : ℕ → Bool) → q.user ≡ l.user →
      standing_among l.self.checked.now l.self.blocks.items q on l.indices.items
      ≡ standing_among l.self.checked.now l.self.blocks.items q on (take l.index-index l.near);
  each : list_all (user_at l.self.checked.now l.self.blocks.items l.user) l.indices.items ≡ true;
}
