-- The blocks that stand for a question, by their indices; only proofs of bodies need these definitions.
use Rattle.std.specs.Prelude.{◌≡◌, ℕ, Bool, true, false, ◌&&◌, if◌then◌else◌, List, [], flat_map, get_or, map, slice_get, Option, Some}
use Rattle.std.specs.Prelude.{None, is_none, is_some, option_copied, ◌||◌}
use Rattle.sudo_grammar.specs.declared.policy.Runas.{Runas}
use Rattle.std.specs.List.{list_all}
use Rattle.sudo_grammar.specs.declared.policy.Policy.{Policy}
use Rattle.sudo_match.specs.declared.people.Machine.{Machine}
use Rattle.sudo_match.specs.declared.people.Person.{Person}
use Rattle.sudo_verdict.specs.Values.{user_allowed, host_allowed}
use Rattle.sudo_verdict.specs.RunasForms.{runas_allows}
use Rattle.sudo_verdict.specs.Questions.{Question}
use Rattle.review_compare.specs.declared.block.Block.{Block}
use Rattle.review_compare.specs.Cells.{Decider}
use Rattle.review_compare.specs.Blocks.{block_decider, standing}

-- the user list of the block at an index allows the user
abbrev pub user_if : Policy → Person → Option Block → Bool
user_if p u None = false
user_if p u (Some b) = user_allowed p b.users.now u

abbrev pub host_if : Policy → Machine → Option Block → Bool
host_if p m None = false
host_if p m (Some b) = host_allowed p b.hosts.now m

abbrev pub runas_if : Policy → Question → Option Block → Bool
runas_if p q None = false
runas_if p q (Some b) = runas_allows p q (option_copied b.runas)

-- what the block answers
abbrev pub deciders_of : Block → List Decider
deciders_of b = map (block_decider b) b.rows.items

abbrev pub deciders_if : Option Block → List Decider
deciders_if None = []
deciders_if (Some b) = deciders_of b

-- what the block answers, if it stands
abbrev pub standing_if : Policy → Question → Option Block → List Decider
standing_if p q None = []
standing_if p q (Some b) = standing p q b

abbrev pub user_at : Policy → List Block → Person → ℕ → Bool
user_at p bs u i = user_if p u (slice_get bs i)

abbrev pub host_at : Policy → List Block → Machine → ℕ → Bool
host_at p bs m i = host_if p m (slice_get bs i)

abbrev pub runas_at : Policy → List Block → Question → ℕ → Bool
runas_at p bs q i = runas_if p q (slice_get bs i)

-- both lists of the block at an index allow
abbrev pub listed_at : Policy → List Block → Person → Machine → ℕ → Bool
listed_at p bs u m i = user_at p bs u i && host_at p bs m i

abbrev pub deciders_at : List Block → ℕ → List Decider
deciders_at bs i = deciders_if (slice_get bs i)

-- what the blocks at these indices answer
abbrev pub chosen : List Block → List ℕ → List Decider
chosen bs indices = flat_map (deciders_at bs) indices

-- what the block at an index answers, if it stands and passes a further test
abbrev pub standing_at : Policy → List Block → Question → (ℕ → Bool) → ℕ → List Decider
standing_at p bs q on i = if on i then standing_if p q (slice_get bs i) else []

abbrev pub standing_among : Policy → List Block → Question → (ℕ → Bool) → List ℕ → List Decider
standing_among p bs q on indices = flat_map (standing_at p bs q on) indices

-- of the blocks at some indices, all that stand for the user have these, whatever else is asked
abbrev pub HaveAllOf : Policy → List Block → List ℕ → Person → List ℕ → Type 0
HaveAllOf p bs among u indices = (q : Question) (on : ℕ → Bool) → q.user ≡ u →
    standing_among p bs q on indices ≡ standing_among p bs q on among

-- and all that stand for the host
abbrev pub HaveAllOn : Policy → List Block → List ℕ → Machine → List ℕ → Type 0
HaveAllOn p bs among m indices = (q : Question) (on : ℕ → Bool) → q.host ≡ m →
    standing_among p bs q on indices ≡ standing_among p bs q on among

-- and for the user on the host, all of which allow both
pub record AreListed (p : Policy) (bs : List Block) (among : List ℕ) (u : Person) (m : Machine) (indices : List ℕ) : Type 0 where
  pub all : (q : Question) (on : ℕ → Bool) → q.user ≡ u → q.host ≡ m →
      standing_among p bs q on indices ≡ standing_among p bs q on among
  pub each : list_all (listed_at p bs u m) indices ≡ true

-- the runas may allow the target to one user and not to another: it has a list of groups, or no list at all
abbrev pub depends_on_user : Option Runas → Option Person → Bool
depends_on_user r None = true
depends_on_user None (Some t) = false
depends_on_user (Some r) (Some t) = is_some r.groups || is_none r.users

-- where it was looked up, this is whether the host list of the block at an index allows the host
abbrev pub AreMarks : Policy → List Block → Machine → List (Option Bool) → Type 0
AreMarks p bs m marks = (i : ℕ) (b : Bool) → get_or marks i None ≡ Some b → b ≡ host_at p bs m i
