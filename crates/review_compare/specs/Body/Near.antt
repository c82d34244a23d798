-- The blocks near a change: those with a row that may fit a command that a changed row fits; only proofs of bodies need these.
use Rattle.std.specs.Prelude.{◌≡◌, ◌-◌, ◌++◌, ◌∷◌, ℕ, Bool, true, if◌then◌else◌, List, [], filter, length}
use Rattle.std.specs.List.{list_any, range_with_len}
use Rattle.sudo_grammar.specs.declared.policy.Policy.{Policy}
use Rattle.sudo_verdict.specs.Questions.{Question}
use Rattle.sudo_text.specs.declared.line.Place.{Place}
use Rattle.review_compare.specs.declared.block.Block.{Block}
use Rattle.review_compare.specs.declared.block.BlockRow.{BlockRow}
use Rattle.review_compare.specs.declared.common.Common.{Common}
use Rattle.review_compare.specs.declared.compared.Compared.{Compared}
use Rattle.review_compare.specs.declared.compared.Compared.TheVariants as compared
use Rattle.review_compare.specs.declared.spot.Listed.{Listed}
use Rattle.review_compare.specs.Cells.{Decider}
use Rattle.review_compare.specs.Unsettled.{IsUnsettled}
use Rattle.review_compare.specs.Witnesses.{IsCompared}
use Rattle.review_compare.specs.Body.ChangedRows.{is_near}
use Rattle.review_compare.specs.Body.Chosen.{chosen, deciders_at, deciders_of, standing_among}

-- the indices of the blocks between the common prefix and suffix
abbrev pub middle : Common → List Block → List ℕ
middle c bs = range_with_len c.front (length bs - c.back - c.front)

-- the rows of these blocks of both policies
abbrev pub changed_rows : Common → List Block → List Block → List Decider
changed_rows c bs cs = chosen bs (middle c bs) ++ chosen cs (middle c cs)

-- one of the rows is near the changed ones
abbrev pub has_near : List Decider → List Decider → Bool
has_near changed ds = list_any (is_near changed) ds

-- the rows, if one of them is near
abbrev pub if_near : List Decider → List Decider → List Decider
if_near changed ds = if has_near changed ds then ds else []

-- the indices of the near blocks
abbrev pub near_at : List Decider → List Block → List ℕ
near_at changed bs = filter (λ i. has_near changed (deciders_at bs i)) (range_with_len 0 (length bs))

-- the near blocks of both policies
pub record AreNear (c : Common) (bs cs : List Block) (l : Listed) : Type 0 where
  pub old : l.old.items ≡ near_at (changed_rows c bs cs) bs
  pub new : l.new.items ≡ near_at (changed_rows c bs cs) cs

-- what a row of a block at this place answers
abbrev pub row_decider : Place → BlockRow → Decider
row_decider place r = record { place = place; answer = r.answer; before = r.before.now; atom = r.shape.atom }

-- the rows that are near
abbrev pub near_of : List Decider → List Decider → List Decider
near_of changed ds = filter (is_near changed) ds

-- the blocks, each with its near rows alone
abbrev pub AreParts : List Decider → List Block → List Block → Type 0
AreParts changed [] [] = Unit {0}
AreParts changed (b ∷ bs) (part ∷ parts) = (deciders_of part ≡ near_of changed (deciders_of b)) × AreParts changed bs parts
AreParts changed _ _ = ⊥

-- so it is, block by block
abbrev pub HaveParts : List Decider → List Block → List Block → Type 0
HaveParts changed bs parts = (i : ℕ) → near_of changed (deciders_at bs i) ≡ deciders_at parts i

abbrev pub each_one : ℕ → Bool
each_one i = true

-- what the near blocks answer that stand
abbrev pub near_deciders : Policy → List Block → List ℕ → Question → List Decider
near_deciders p bs near q = standing_among p bs q each_one near

-- what is found of two lists of rows; where it is not settled, of the near ones of each
abbrev pub IsFoundNear : List Decider → List Decider → List Decider → Compared → Type 0
IsFoundNear changed ds es compared.Same = IsCompared ds es compared.Same
IsFoundNear changed ds es (compared.Differs ws) = IsCompared ds es (compared.Differs ws)
IsFoundNear changed ds es (compared.May r s) = IsUnsettled (near_of changed ds) (near_of changed es) r s
