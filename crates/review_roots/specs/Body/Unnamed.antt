-- Groups that no list of some blocks of a policy names; only proofs of bodies need these definitions.
use Rattle.std.specs.Prelude.{◌≡◌, ◌==◌, ℕ, Bool, false, true, not, ◌||◌, List, [], ◌++◌, bytes_eq, filter, map, slice_get}
use Rattle.std.specs.Prelude.{Option, Some, None, option_copied}
use Rattle.std.specs.List.{list_any, range_with_len, Contains}
use Rattle.sudo_grammar.specs.declared.kind.Atom.{Atom}
use Rattle.sudo_grammar.specs.declared.kind.Atom.TheVariants as atom
use Rattle.sudo_grammar.specs.declared.kind.Kind.TheVariants as kind
use Rattle.sudo_grammar.specs.declared.kind.Member.{Member}
use Rattle.sudo_grammar.specs.declared.kind.Signed.{Signed}
use Rattle.sudo_grammar.specs.declared.policy.Policy.{Policy}
use Rattle.sudo_grammar.specs.declared.policy.Runas.{Runas}
use Rattle.sudo_match.specs.declared.people.Group.{Group}
use Rattle.sudo_policy.specs.Written.{written_form}
use Rattle.review_roots.specs.declared.block.Block.{Block}
use Rattle.review_roots.specs.KnownGroups.{list_names}

-- the atom of a list of groups is the group, and not ALL
abbrev pub fits_by_name : Group → Atom → Bool
fits_by_name g (atom.Name name) = bytes_eq name g.name
fits_by_name g (atom.Group name) = bytes_eq name g.name
fits_by_name g (atom.Uid id) = id == g.gid
fits_by_name g (atom.Gid id) = id == g.gid
fits_by_name g _ = false

abbrev pub lists_group : Group → List Signed → Bool
lists_group g ws = list_any (λ w. fits_by_name g w.atom) ws

-- the written form of a list of a runas; without that list, no atoms
abbrev pub runas_list : Policy → Option (List Member) → List Signed
runas_list p None = []
runas_list p (Some members) = written_form kind.Runas p members

abbrev pub runas_users : Policy → Option Runas → List Signed
runas_users p None = []
runas_users p (Some r) = runas_list p r.users

abbrev pub runas_groups : Policy → Option Runas → List Signed
runas_groups p None = []
runas_groups p (Some r) = runas_list p r.groups

-- the lists in which a group is one that a user has
abbrev pub user_atoms : Policy → List Member → Option Runas → List Signed
user_atoms p users r = written_form kind.User p users ++ runas_users p r

-- no atom of these lists is the group
abbrev pub IsAbsent : Policy → Group → List Member → Option Runas → Type 0
IsAbsent p g users r = (list_names g (user_atoms p users r) ≡ false) × (lists_group g (runas_groups p r) ≡ false)

-- no list of users, of runas users or of runas groups of the blocks names the group
abbrev pub IsUnnamed : Policy → List Block → Group → Type 0
IsUnnamed p bs g = (b : Block) → Contains bs b → IsAbsent p g b.users.now (option_copied b.runas)

-- ---- The same, by blocks and by IDs

abbrev pub block_users : Policy → Block → List Signed
block_users p b = user_atoms p b.users.now (option_copied b.runas)

abbrev pub block_groups : Policy → Block → List Signed
block_groups p b = runas_groups p (option_copied b.runas)

-- an atom of the one list or of the other names the group
abbrev pub is_named : List Signed → List Signed → Group → Bool
is_named users groups g = list_names g users || lists_group g groups

-- the IDs of the groups that an atom names
abbrev pub named_ids : List Signed → List Signed → List Group → List ℕ
named_ids users groups gs = map (λ g. g.gid) (filter (is_named users groups) gs)

-- the group has none of these IDs
abbrev pub is_unnamed : List ℕ → Group → Bool
is_unnamed ids g = not (list_any (λ i. i == g.gid) ids)

-- the groups that have none of these IDs are unnamed
abbrev pub AreIds : Policy → List Block → List Group → List ℕ → Type 0
AreIds p bs groups ids = (g : Group) → Contains groups g → is_unnamed ids g ≡ true → IsUnnamed p bs g

-- no list of users, or of runas users, of the blocks names a group that has none of these IDs
abbrev pub AreUserIds : Policy → List Block → List Group → List ℕ → Type 0
AreUserIds p bs groups ids =
    (g : Group) → Contains groups g → is_unnamed ids g ≡ true → (b : Block) → Contains bs b → list_names g (block_users p b) ≡ false

-- no list of groups of the blocks names a group that has none of these IDs
abbrev pub AreGroupIds : Policy → List Block → List Group → List ℕ → Type 0
AreGroupIds p bs groups ids =
    (g : Group) → Contains groups g → is_unnamed ids g ≡ true → (b : Block) → Contains bs b → lists_group g (block_groups p b) ≡ false

-- there is a group, and it has none of these IDs
abbrev pub unnamed_if : List ℕ → Option Group → Bool
unnamed_if ids None = false
unnamed_if ids (Some g) = is_unnamed ids g

abbrev pub unnamed_at : List ℕ → List Group → ℕ → Bool
unnamed_at ids groups i = unnamed_if ids (slice_get groups i)

-- the indices of the groups that have one of these IDs, and of those that have none
abbrev pub named_indices : List ℕ → List Group → ℕ → List ℕ
named_indices ids groups n = filter (λ i. not (unnamed_at ids groups i)) (range_with_len 0 n)

abbrev pub unnamed_indices : List ℕ → List Group → ℕ → List ℕ
unnamed_indices ids groups n = filter (unnamed_at ids groups) (range_with_len 0 n)
