-- What rows may give at best, where it is not known which blocks stand; only proofs of bodies need these definitions.
use Rattle.std.specs.Prelude.{ℕ, Bool, true, false, ◌||◌, if◌then◌else◌, List, fold, slice_get, Option, Some, None}
use Rattle.std.specs.List.{slice_index_or}
use Rattle.review_roots.specs.declared.block.Block.{Block}
use Rattle.review_roots.specs.declared.effect.Effect.{Effect}
use Rattle.review_roots.specs.declared.given.Counted.{Counted}
use Rattle.review_roots.specs.declared.given.Counted.TheVariants as counted
use Rattle.review_roots.specs.declared.level.Level.{Level}
use Rattle.review_roots.specs.declared.level.Level.TheVariants as level
use Rattle.review_roots.specs.declared.may.May.{May}
use Rattle.review_roots.specs.Body.Effects.{free_by, level_by, unasked_by}
use Rattle.review_roots.specs.Ranks.{best, is_at_least}

abbrev pub may_nothing : May
may_nothing = record { level = level.None; unasked = level.None; free = false }

-- the best level behind the rows of an effect where a command may go unasked
abbrev pub unasked_behind : May → Effect → Level
unasked_behind m e =
    if unasked_by e false then level_by e m.level else (if unasked_by e true then level_by e m.unasked else level.None)

-- what may be given with the rows of a further block, whether it stands or not
abbrev pub may_with : May → Block → May
may_with m b = record {
  level = best m.level (level_by b.effect m.level);
  unasked = best m.unasked (unasked_behind m b.effect);
  free = m.free || free_by b.effect m.free;
}

-- the same of a block that may stand, if it passes
abbrev pub may_if : Bool → May → Block → May
may_if passes m b = if passes then may_with m b else m

-- the same of a block for the host
abbrev pub may_of : Bool → May → Option Block → May
may_of on m None = m
may_of on m (Some b) = may_if on m b

abbrev pub may_at : List Bool → List Block → May → ℕ → May
may_at on bs m i = may_of (slice_index_or on i false) m (slice_get bs i)

-- the best level of a step that counts
abbrev pub may_for : Counted → May → Level
may_for counted.Any m = m.level
may_for counted.Unasked m = m.unasked
may_for counted.Free m = if m.free then m.level else level.None

-- a step that counts may have the least level, whichever of the blocks for the host stand that list the user
abbrev pub may_reach : List Bool → List Block → Level → Counted → List ℕ → Bool
may_reach on bs least k listed = is_at_least least (may_for k (fold (may_at on bs) may_nothing listed))

-- the same, where that is not looked up if all steps count
abbrev pub may_count : List Bool → List Block → Level → Counted → List ℕ → Bool
may_count on bs least counted.Any listed = true
may_count on bs least k listed = may_reach on bs least k listed
