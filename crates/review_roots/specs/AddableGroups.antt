-- The groups that may be added on the way to a target. sudo(8), option -g; sudoers(5), "Runas_Spec".
use Rattle.std.specs.Prelude.{◌≡◌, ◌<◌, ℕ, Bool, false, if◌then◌else◌, List, [], Option, None, Some, count_by, is_some, slice_get}
use Rattle.std.specs.declared.cmp.Ordering.{Ordering}
use Rattle.std.specs.Ordering.{is_gt, nat_cmp, ordering_then}
use Rattle.std.specs.Cmp.Lexicographic.{slice_cmp}
use Rattle.std.specs.List.{list_any}
use Rattle.sudo_grammar.specs.declared.policy.CommandSpec.{CommandSpec}
use Rattle.sudo_grammar.specs.declared.policy.Entry.{Entry}
use Rattle.sudo_grammar.specs.declared.policy.EntryBody.{EntryBody}
use Rattle.sudo_grammar.specs.declared.policy.EntryBody.TheVariants.{Rule}
use Rattle.sudo_grammar.specs.declared.policy.Policy.{Policy}
use Rattle.sudo_grammar.specs.declared.policy.Runas.{Runas}
use Rattle.sudo_grammar.specs.declared.policy.Section.{Section}
use Rattle.sudo_match.specs.KnownRows.{KnownRows}
use Rattle.sudo_match.specs.declared.people.Group.{Group}
use Rattle.review_roots.specs.KnownGroups.{known_groups, same_group}

-- a runas has a list of groups
abbrev pub has_groups : Option Runas → Bool
has_groups None = false
has_groups (Some r) = is_some r.groups

abbrev pub commands_have_groups : List CommandSpec → Bool
commands_have_groups commands = list_any (λ (c : CommandSpec). has_groups c.runas) commands

abbrev pub body_has_groups : EntryBody → Bool
body_has_groups (Rule users sections) = list_any (λ (s : Section). commands_have_groups s.commands) sections
body_has_groups _ = false

-- a runas of the policy has a list of groups
abbrev pub policy_has_groups : Policy → Bool
policy_has_groups p = list_any (λ (e : Entry). body_has_groups e.body) p.entries

-- the groups that may be added: each known one, if a runas has a list of groups; otherwise none. Without such a list a target that
-- is allowed with a group has that group already, so it is in no other list with it than without it
abbrev pub addable_groups : Policy → KnownRows → List Group
addable_groups p d = if policy_has_groups p then known_groups d else []

-- groups by the bytes of their names, and then by their IDs
abbrev pub group_cmp : Group → Group → Ordering
group_cmp g h = ordering_then (slice_cmp nat_cmp g.name h.name) (nat_cmp g.gid h.gid)

-- no group goes behind one that follows it
abbrev pub AreSorted : List Group → Type 0
AreSorted gs =
    (i k : ℕ) (g h : Group) → i < k → slice_get gs i ≡ Some g → slice_get gs k ≡ Some h → is_gt (group_cmp g h) ≡ false

-- how often the group is in the list
abbrev pub times : Group → List Group → ℕ
times g gs = count_by (same_group g) gs

-- the groups that may be added, in their order
pub record AreAddable (p : Policy) (d : KnownRows) (gs : List Group) : Type 0 where
  pub same : (g : Group) → times g gs ≡ times g (addable_groups p d)
  pub sorted : AreSorted gs
