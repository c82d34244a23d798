-- Blocks behind which what is given does not depend on what was given before them; only proofs of bodies need these definitions.
use Rattle.std.specs.Prelude.{◌==◌, ℕ, Bool, false, not, ◌&&◌, if◌then◌else◌, List, flat_map, slice_get, Option, Some, None}
use Rattle.review_roots.specs.declared.block.Block.{Block}
use Rattle.review_roots.specs.declared.effect.Effect.{Effect}
use Rattle.review_roots.specs.declared.given.Given.{Given}
use Rattle.review_roots.specs.Asked.{nothing}
use Rattle.review_roots.specs.Blocks.{with_rows}
use Rattle.review_roots.specs.Body.Candidates.{both_at, part_at}
use Rattle.review_roots.specs.Ranks.{rank}

-- both hold, or none does
abbrev pub agree : Bool → Bool → Bool
agree a b = if a then b else not b

-- one of the rows allows, none has a note, and what they make of what was given before them is the same for each
abbrev pub settles : Effect → Bool
settles e =
    e.clears && (e.allows && ((rank e.none == rank e.all) && ((rank e.listed == rank e.all) && ((rank e.all_but == rank e.all)
    && (agree e.newly_free e.free && agree e.newly_unasked e.unasked)))))

-- there is a block, and its rows settle what is given
abbrev pub settles_of : Option Block → Bool
settles_of None = false
settles_of (Some b) = settles b.effect

-- the block at the index is for the host, allows the target, and settles what is given
abbrev pub settles_at : List Bool → List Bool → List Block → ℕ → Bool
settles_at on allowed bs i = both_at on allowed i && settles_of (slice_get bs i)

-- what the rows of the blocks at these indices give that are for the host and allow the target
abbrev pub given_at : List Bool → List Bool → List Block → List ℕ → Given
given_at on allowed bs is = with_rows nothing (flat_map (part_at (λ i b. both_at on allowed i) bs) is)
