-- Users that may take a step, with what a program knows of each on all hosts.
use Rattle.std.specs.Prelude.{◌≡◌, ◌==◌, ℕ, Bool, true, false, not, ◌&&◌, if◌then◌else◌, List, [], All, map, slice_get}
use Rattle.std.specs.Prelude.{Option, Some, None}
use Rattle.std.specs.List.{list_any, slice_index_or}
use Rattle.sudo_grammar.specs.declared.policy.Policy.{Policy}
use Rattle.sudo_match.specs.declared.people.Group.{Group}
use Rattle.sudo_match.specs.declared.people.Person.{Person}
use Rattle.sudo_match.specs.KnownRows.{KnownRows}
use Rattle.review_roots.specs.declared.block.Block.{Block}
use Rattle.review_roots.specs.declared.candidate.Candidate.{Candidate}
use Rattle.review_roots.specs.declared.level.Level.{Level}
use Rattle.review_roots.specs.declared.state.State.{State}
use Rattle.review_roots.specs.declared.toward.Toward.{Toward}
use Rattle.review_roots.specs.Blocks.{Row, block_rows, lists}
use Rattle.review_roots.specs.States.{person_of}
use Rattle.review_roots.specs.Body.Raising.{block_raises, indices}
use Rattle.review_roots.specs.Body.Towards.{HasStrong, IsToward}

-- ---- Blocks by their indices

-- the rows of a block that passes a test, if there is one
abbrev pub part_of : (Block → Bool) → Option Block → List Row
part_of t None = []
part_of t (Some b) = if t b then block_rows b else []

-- the rows of the block at an index, if it passes the test
abbrev pub part_at : (ℕ → Block → Bool) → List Block → ℕ → List Row
part_at t bs i = part_of (t i) (slice_get bs i)

-- both lists have true at the index
abbrev pub both_at : List Bool → List Bool → ℕ → Bool
both_at xs ys i = slice_index_or xs i false && slice_index_or ys i false

-- ---- Blocks without which no level is reached

-- the block raises, and its user list allows the user
abbrev pub raises_for : Policy → Level → Person → Block → Bool
raises_for p least u b = block_raises least b && lists p u b

-- ---- Candidates

-- the candidate is the user of its state; the blocks that list it, and those of them that raise, are known, and so is what steps
-- to it depend on, if that is kept
pub record Qualifies (p : Policy) (d : KnownRows) (groups : List Group) (least : Level) (bs : List Block) (c : Candidate) : Type 0 where
  pub person : person_of d groups c.state ≡ Some c.person
  pub listed : c.listed.items ≡ indices (lists p c.person) bs
  pub strong : c.strong.items ≡ indices (raises_for p least c.person) bs
  pub toward : (t : Toward) → c.toward ≡ Some t → IsToward p d groups bs c.state t
  pub strong_to : (t : Toward) → c.toward ≡ Some t → HasStrong least bs t

-- no block that raises lists the user of the state
abbrev pub IsSilent : Policy → KnownRows → List Group → Level → List Block → State → Type 0
IsSilent p d groups least bs s = (u : Person) → person_of d groups s ≡ Some u → list_any (raises_for p least u) bs ≡ false

abbrev pub states_of : List Candidate → List State
states_of cs = map (λ c. c.state) cs

abbrev pub same_added : Option ℕ → Option ℕ → Bool
same_added None None = true
same_added (Some i) (Some k) = i == k
same_added _ _ = false

abbrev pub same_state : State → State → Bool
same_state s t = (s.user == t.user) && same_added s.added t.added

-- the state is among these
abbrev pub has_state : List State → State → Bool
has_state states s = list_any (same_state s) states

-- the candidates of some of these states; each other one is silent
pub record AreCandidates (p : Policy) (d : KnownRows) (groups : List Group) (least : Level) (bs : List Block) (states : List State)
    (cs : List Candidate) : Type 0 where
  pub known : All (Qualifies p d groups least bs) cs
  pub inside : All (λ c. has_state states c.state ≡ true) cs
  pub covered : All (λ s. has_state (states_of cs) s ≡ false → IsSilent p d groups least bs s) states

-- a block on the host that raises lists the candidate, which is not the target
abbrev pub is_heard : List Bool → ℕ → Candidate → Bool
is_heard on target c = not (c.state.user == target) && list_any (λ i. slice_index_or on i false) c.strong.items
