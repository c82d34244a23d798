-- Blocks that decide whether a step has the least level; only proofs of bodies need these definitions.
use Rattle.std.specs.Prelude.{◌≡◌, ◌<◌, ℕ, Bool, true, false, not, ◌&&◌, ◌||◌, if◌then◌else◌, is_some, List, [], ◌∷◌, flat_map, Option}
use Rattle.std.specs.Prelude.{All, Some, None, bytes_eq, drop, option_copied, take}
use Rattle.std.specs.List.{list_all}
use Rattle.sudo_grammar.specs.declared.policy.Policy.{Policy}
use Rattle.sudo_match.specs.declared.people.Group.{Group}
use Rattle.sudo_match.specs.declared.people.Machine.{Machine}
use Rattle.sudo_match.specs.declared.people.Person.{Person}
use Rattle.sudo_match.specs.KnownRows.{KnownRows}
use Rattle.sudo_verdict.specs.Questions.{question_as}
use Rattle.sudo_verdict.specs.RunasForms.{is_same_user}
use Rattle.review_roots.specs.declared.block.Block.{Block}
use Rattle.review_roots.specs.declared.cut.Cut.{Cut}
use Rattle.review_roots.specs.declared.given.Given.{Given}
use Rattle.review_roots.specs.declared.level.Level.{Level}
use Rattle.review_roots.specs.Asked.{better, nothing}
use Rattle.review_roots.specs.Blocks.{lists, standing_rows, with_rows}
use Rattle.review_roots.specs.Body.Raising.{block_raises}
use Rattle.review_roots.specs.Body.Settled.{settles}
use Rattle.review_roots.specs.Body.Unnamed.{AreGroupIds, AreUserIds}

-- the block does not raise, or it settles what is given
abbrev pub is_settled : Level → Block → Bool
is_settled least b = not (block_raises least b) || settles b.effect

-- the blocks from the first one on that raises
abbrev pub from_raising : Level → List Block → List Block
from_raising least [] = []
from_raising least (b ∷ bs) = if block_raises least b then b ∷ bs else from_raising least bs

-- the same, if each block that raises settles what is given; otherwise all
abbrev pub deciding : Level → List Block → List Block
deciding least bs = if list_all (is_settled least) bs then from_raising least bs else bs

-- the user has the name, if there is one
abbrev pub is_called : Option (List ℕ) → Person → Bool
is_called None u = false
is_called (Some name) u = bytes_eq name u.name

-- the block does not raise, or lists no user of another name
abbrev pub IsPassed : Level → Option (List ℕ) → Block → Type 0
IsPassed least name b =
    block_raises least b ≡ true → (p : Policy) (u : Person) → is_called name u ≡ false → lists p u b ≡ false

-- the blocks in front of an index are so; and each block that raises settles what is given, if there are any
pub record IsCut (least : Level) (name : Option (List ℕ)) (bs : List Block) (start : ℕ) : Type 0 where
  pub settled : 0 < start → list_all (is_settled least) bs ≡ true
  pub front : All (IsPassed least name) (take start bs)

-- the blocks that decide whether a step of a user has the least level: for a user of another name those from an index on
abbrev pub deciding_for : Level → Option (List ℕ) → ℕ → List Block → Person → List Block
deciding_for least name start bs u = if is_called name u then deciding least bs else drop start bs

-- the IDs that a cut gives for the user of its name, and for the others
pub record AreCutIds (p : Policy) (least : Level) (bs : List Block) (groups : List Group) (c : Cut) : Type 0 where
  pub cut : IsCut least (option_copied c.name) bs c.start
  pub own_users : AreUserIds p (deciding least bs) groups c.own_ids.items
  pub own_groups : AreGroupIds p bs groups c.own_ids.items
  pub other_users : AreUserIds p (drop c.start bs) groups c.ids.items
  pub other_groups : AreGroupIds p bs groups c.ids.items

-- ---- What some blocks give

-- what the rows of these blocks give a user that asks for a target, if any, and for a group, if any
abbrev pub asked_by : Policy → KnownRows → List Block → Person → Machine → Option Person → Option Group → Given
asked_by p d bs u m t g = with_rows nothing (flat_map (standing_rows p (question_as d u m t g)) bs)

-- what they give a user that asks for a group alone
abbrev pub alone_by : Policy → KnownRows → List Block → Machine → Person → Person → Option Group → Given
alone_by p d bs m u v g = if is_same_user v u && is_some g then asked_by p d bs u m None g else nothing

-- what they give a user on the way to another one with a group, if any
abbrev pub towards_by : Policy → KnownRows → List Block → Machine → Person → Person → Option Group → Given
towards_by p d bs m u v g = better (asked_by p d bs u m (Some v) g) (alone_by p d bs m u v g)
