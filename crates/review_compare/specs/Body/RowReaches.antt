-- Up to where the blocks of a policy have a row that applies wherever a row of the change does; only proofs of bodies use these.
use Rattle.std.specs.Prelude.{◌≡◌, ℕ, List, All, map}
use Rattle.review_compare.specs.declared.block.Block.{Block}
use Rattle.review_compare.specs.declared.near.Parts.{Parts}
use Rattle.review_compare.specs.declared.row_reaches.Reaches.{Reaches}
use Rattle.review_compare.specs.declared.row_reaches.RowReaches.{RowReaches}
use Rattle.review_compare.specs.Lines.{Lined}
use Rattle.review_compare.specs.Body.Chosen.{deciders_of}
use Rattle.review_compare.specs.Body.Reaches.{reach}

-- the row
abbrev pub lined_by : RowReaches → Lined
lined_by r = record { before = r.before.now; atom = r.atom }

-- how many rows of a block there are up to the last that applies wherever the command does
abbrev pub reach_in : Lined → Block → ℕ
reach_in a b = reach (deciders_of b) a

-- the reaches of the row in these blocks
abbrev pub AreReaches : List Block → RowReaches → Type 0
AreReaches bs r = r.counts.items ≡ map (reach_in (lined_by r)) bs

-- the reaches of rows in the parts of both policies
pub record HaveReaches (p : Parts) (r : Reaches) : Type 0 where
  pub old : All (AreReaches p.old.items) r.old.items
  pub new : All (AreReaches p.new.items) r.new.items
