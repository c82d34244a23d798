-- Which blocks name a group among their users, and which list a user without an added group; only proofs of bodies need these
-- definitions.
use Rattle.std.specs.Prelude.{◌≡◌, ℕ, Bool, if◌then◌else◌, List, [], Vec, map, slice_get, Option, Some, None}
use Rattle.std.specs.Global.{Global}
use Rattle.std.specs.List.{list_any}
use Rattle.sudo_grammar.specs.declared.kind.Kind.TheVariants as kind
use Rattle.sudo_grammar.specs.declared.kind.Signed.{Signed}
use Rattle.sudo_grammar.specs.declared.policy.Policy.{Policy}
use Rattle.sudo_match.specs.declared.people.Group.{Group}
use Rattle.sudo_match.specs.declared.people.Person.{Person}
use Rattle.sudo_match.specs.KnownRows.{KnownRows}
use Rattle.sudo_policy.specs.Written.{written_form}
use Rattle.review_roots.specs.declared.base.Base.{Base}
use Rattle.review_roots.specs.declared.block.Block.{Block}
use Rattle.review_roots.specs.Blocks.{lists}
use Rattle.review_roots.specs.Body.Towards.{AllowAlone}
use Rattle.review_roots.specs.KnownGroups.{list_names}

-- the user list of the block, written out
abbrev pub user_list : Policy → Block → List Signed
user_list p b = written_form kind.User p b.users.now

abbrev pub names_in : Policy → Group → Block → Bool
names_in p g b = list_names g (user_list p b)

-- nothing in place of a list without true
abbrev pub trimmed : List Bool → List Bool
trimmed xs = if list_any (λ b. b) xs then xs else []

-- for each block, whether its user list names the group
abbrev pub row_of : Policy → List Block → Group → List Bool
row_of p bs g = trimmed (map (names_in p g) bs)

abbrev pub AreRows : Policy → List Block → List Group → List (Vec Bool Global) → Type 0
AreRows p bs groups rows = map (λ v. v.items) rows ≡ map (row_of p bs) groups

-- the row of an added group; none without one
abbrev pub row_in : Option (Vec Bool Global) → List Bool
row_in None = []
row_in (Some row) = row.items

abbrev pub row_at : List (Vec Bool Global) → Option ℕ → List Bool
row_at rows None = []
row_at rows (Some i) = row_in (slice_get rows i)

-- for each block, whether its user list allows the user, if it is known, and whether its runas does
pub record IsBase (p : Policy) (d : KnownRows) (bs : List Block) (base : Base) : Type 0 where
  pub passes : (u : Person) → slice_get d.people base.user ≡ Some u → base.passes.items ≡ map (lists p u) bs
  pub allowed : AllowAlone p d bs base.user base.allowed.items
