-- What the steps of users of another name to one state depend on, on all hosts; only proofs of bodies need these definitions.
use Rattle.std.specs.Prelude.{◌≡◌, ℕ, Bool, true, false, filter, List, [], map, slice_get, Option, Some, None, option_copied}
use Rattle.std.specs.List.{slice_index_or}
use Rattle.sudo_grammar.specs.declared.policy.Policy.{Policy}
use Rattle.sudo_match.specs.declared.people.Group.{Group}
use Rattle.sudo_match.specs.declared.people.Machine.{Machine}
use Rattle.sudo_match.specs.declared.people.Person.{Person}
use Rattle.sudo_match.specs.KnownRows.{KnownRows}
use Rattle.sudo_verdict.specs.declared.listing.Asker.{Asker}
use Rattle.sudo_verdict.specs.Questions.{question_as}
use Rattle.sudo_verdict.specs.RunasForms.{is_same_user, runas_allows}
use Rattle.review_roots.specs.declared.block.Block.{Block}
use Rattle.review_roots.specs.declared.level.Level.{Level}
use Rattle.review_roots.specs.declared.state.State.{State}
use Rattle.review_roots.specs.declared.toward.Toward.{Toward}
use Rattle.review_roots.specs.States.{group_at}
use Rattle.review_roots.specs.Body.Raising.{block_raises, indices}

-- the runas of the block allows what is asked
abbrev pub asker_allowed : Policy → KnownRows → Asker → Block → Bool
asker_allowed p d a b =
    runas_allows p (question_as d a.user.now a.host.now (option_copied a.target) (option_copied a.group)) (option_copied b.runas)

-- the runas of the block allows the target and the group to the user, on the machine
abbrev pub block_allows : Policy → KnownRows → Person → Machine → Person → Option Group → Block → Bool
block_allows p d u m v g b = runas_allows p (question_as d u m (Some v) g) (option_copied b.runas)

-- for each block, whether its runas allows the target and the group to each user of another name, on each machine
abbrev pub AreAllowed : Policy → KnownRows → List Block → Person → Option Group → List Bool → Type 0
AreAllowed p d bs v g allowed =
    (u : Person) (m : Machine) → is_same_user v u ≡ false → allowed ≡ map (block_allows p d u m v g) bs

-- the same of a user that may be unknown
abbrev pub AllowOf : Policy → KnownRows → List Block → Option Person → Option Group → List Bool → Type 0
AllowOf p d bs o g allowed = ((v : Person) → o ≡ Some v → AreAllowed p d bs v g allowed) × (o ≡ None → allowed ≡ [])

-- the same of the user of an index, without an added group
abbrev pub AllowAlone : Policy → KnownRows → List Block → ℕ → List Bool → Type 0
AllowAlone p d bs user allowed = AllowOf p d bs (slice_get d.people user) None allowed

-- what the steps to a state depend on
pub record IsToward (p : Policy) (d : KnownRows) (groups : List Group) (bs : List Block) (s : State) (t : Toward) : Type 0 where
  pub state : t.state ≡ s
  pub allowed : (v : Person) → slice_get d.people s.user ≡ Some v → AreAllowed p d bs v (group_at groups s.added) t.allowed.items
  pub alone : t.as_alone ≡ true → AllowAlone p d bs s.user t.allowed.items

-- if the same blocks are known to allow both as without a group, they are the same for both
abbrev pub AgreeAlone : Toward → Toward → Type 0
AgreeAlone t u = t.as_alone ≡ true → u.as_alone ≡ true → t.allowed.items ≡ u.allowed.items

-- the indices of the blocks that raise, and allow what is sought
abbrev pub HasStrong : Level → List Block → Toward → Type 0
HasStrong least bs t = t.strong.items ≡ filter (λ i. slice_index_or t.allowed.items i false) (indices (block_raises least) bs)
