-- Blocks by their indices, and blocks without which no level is reached; only proofs of bodies need these definitions.
use Rattle.std.specs.Prelude.{ℕ, ◌+◌, Bool, false, not, ◌&&◌, ◌||◌, if◌then◌else◌, List, [], ◌∷◌, slice_get, Option, Some, None}
use Rattle.std.specs.List.{list_any}
use Rattle.review_roots.specs.declared.block.Block.{Block}
use Rattle.review_roots.specs.declared.block.Sign.{Sign}
use Rattle.review_roots.specs.declared.level.Level.{Level}
use Rattle.review_roots.specs.declared.level.Level.TheVariants as level
use Rattle.review_roots.specs.Ranks.{is_at_least}

-- the indices of the blocks that pass a test, where the first one has this index
abbrev pub indices_from : (Block → Bool) → ℕ → List Block → List ℕ
indices_from t k [] = []
indices_from t k (b ∷ bs) = if t b then k ∷ indices_from t (k + 1) bs else indices_from t (k + 1) bs

abbrev pub indices : (Block → Bool) → List Block → List ℕ
indices t bs = indices_from t 0 bs

-- there is a block, and it passes the test
abbrev pub passes : (Block → Bool) → Option Block → Bool
passes t None = false
passes t (Some b) = t b

-- the block at an index passes the test
abbrev pub passes_at : (Block → Bool) → List Block → ℕ → Bool
passes_at t bs i = passes t (slice_get bs i)

-- a sign behind which the level is the least one or a better one, whatever it was before
abbrev pub raises : Level → Sign → Bool
raises least s = not s.negated && (s.all || is_at_least least level.Listed)

abbrev pub block_raises : Level → Block → Bool
block_raises least b = list_any (raises least) b.signs.items
