-- The keys of the members of lists: what an index knows of an atom without a look at it.
use Rattle.std.specs.Prelude.{◌≡◌, ℕ, ◌+◌, if◌then◌else◌, List, Option, Some, None, slice_get, take}
use Rattle.std.specs.Option.{option_map}
use Rattle.std.specs.List.{list_any}
use Rattle.sudo_text.specs.declared.token.Ch.{Ch}
use Rattle.sudo_grammar.specs.declared.kind.Atom.{Atom}
use Rattle.sudo_grammar.specs.declared.kind.Atom.TheVariants as atom
use Rattle.sudo_grammar.specs.declared.kind.Kind.{Kind}
use Rattle.sudo_grammar.specs.declared.kind.Kind.TheVariants.{User, Host, Cmnd}
use Rattle.sudo_grammar.specs.declared.kind.Member.{Member}
use Rattle.sudo_grammar.specs.declared.policy.CommandSpec.{CommandSpec}
use Rattle.sudo_grammar.specs.declared.policy.Definition.{Definition}
use Rattle.sudo_grammar.specs.declared.policy.Section.{Section}
use Rattle.sudo_grammar.specs.declared.policy.Entry.{Entry}
use Rattle.sudo_grammar.specs.declared.policy.EntryBody.{EntryBody}
use Rattle.sudo_grammar.specs.declared.policy.EntryBody.TheVariants as body
use Rattle.sudo_grammar.specs.declared.policy.Policy.{Policy}
use Rattle.sudo_policy.specs.declared.index.Position.{Position}
use Rattle.sudo_policy.specs.Definitions.{in_force}
use Rattle.sudo_policy.specs.Positions.{members_at}
use Rattle.sudo_match.specs.Beginnings.{is_special}
use Rattle.sudo_match.specs.Class.{lower}
use Rattle.sudo_verdict.specs.declared.index.key.Key.{Key}
use Rattle.sudo_verdict.specs.declared.index.key.SectionKeys.{SectionKeys}
use Rattle.sudo_verdict.specs.declared.index.key.EntryKeys.{EntryKeys}
use Rattle.sudo_verdict.specs.declared.index.key.Key.TheVariants as keys
use Rattle.sudo_verdict.specs.Numbers.{user_number, group_mark, path_number}

-- at each index that both lists have, the items are related
abbrev pub Pairwise : {X Y : Type 0} → (X → Y → Type 0) → List X → List Y → Type 0
Pairwise {X} {Y} R xs ys = (i : ℕ) (x : X) (y : Y) → slice_get xs i ≡ Some x → slice_get ys i ≡ Some y → R x y

-- the number of a user's name
abbrev pub name_number : Atom → Option ℕ
name_number (atom.Name name) = Some (user_number name)
name_number _ = None

abbrev pub user_id : Atom → Option ℕ
user_id (atom.Uid uid) = Some uid
user_id _ = None

-- the mark of a group's name
abbrev pub name_mark : Atom → Option ℕ
name_mark (atom.Group name) = Some (group_mark name)
name_mark _ = None

-- the number of a command's path
abbrev pub command_number : Atom → Option ℕ
command_number (atom.Command path args) = Some (path_number path)
command_number _ = None

-- the byte in lower case of the character at an index of a host's name, if neither it nor one before it is special
abbrev pub literal_byte : Atom → ℕ → Option ℕ
literal_byte (atom.Host chars quoted) index =
    if list_any is_special (take (index + 1) chars) then None else option_map (λ (c : Ch). lower c.byte) (slice_get chars index)
literal_byte _ index = None

-- what the key says holds of the atom, in a list of a kind
pub record IsKeyOf (p : Policy) (kind : Kind) (key : Key) (a : Atom) : Type 0 where
  pub position : (position : Position) (name : List ℕ) → key ≡ keys.Alias position → a ≡ atom.Alias name
      → in_force kind p name ≡ members_at p position
  pub name : (number : ℕ) → key ≡ keys.Name number → name_number a ≡ Some number
  pub uid : (uid : ℕ) → key ≡ keys.Uid uid → user_id a ≡ Some uid
  pub group : (mark : ℕ) → key ≡ keys.Group mark → name_mark a ≡ Some mark
  pub command : (number : ℕ) → key ≡ keys.Command number → command_number a ≡ Some number
  pub literal : (index byte : ℕ) → key ≡ keys.Host index byte → literal_byte a index ≡ Some byte

-- each key is that of the member at its index
abbrev pub HaveKeys : Policy → Kind → List Key → List Member → Type 0
HaveKeys p kind = Pairwise (λ k m. IsKeyOf p kind k m.atom)

-- each key is that of the command at its index
abbrev pub HaveCommandKeys : Policy → List Key → List CommandSpec → Type 0
HaveCommandKeys p = Pairwise (λ k s. IsKeyOf p Cmnd k s.command.atom)

abbrev pub HaveSectionKeys : Policy → SectionKeys → Section → Type 0
HaveSectionKeys p ks s = HaveKeys p Host ks.hosts s.hosts × HaveCommandKeys p ks.commands s.commands

-- the keys of a rule's lists
abbrev pub HaveRuleKeys : Policy → List Key → List SectionKeys → List Member → List Section → Type 0
HaveRuleKeys p users sections members of_sections = HaveKeys p User users members × Pairwise (HaveSectionKeys p) sections of_sections

abbrev pub HaveDefinitionKeys : Policy → Kind → List (List Key) → List Definition → Type 0
HaveDefinitionKeys p kind = Pairwise (λ ks d. HaveKeys p kind ks d.members)

-- the keys of the lists of an entry
abbrev pub HaveBodyKeys : Policy → EntryKeys → EntryBody → Type 0
HaveBodyKeys p ks b =
    ((kind : Kind) (definitions : List Definition) → b ≡ body.Aliases kind definitions
    → HaveDefinitionKeys p kind ks.definitions definitions)
    × ((users : List Member) (sections : List Section) → b ≡ body.Rule users sections → HaveRuleKeys p ks.users ks.sections users sections)

-- for each entry of a policy, the keys of its lists
abbrev pub AreKeys : Policy → List EntryKeys → Type 0
AreKeys p rows = Pairwise (λ ks (e : Entry). HaveBodyKeys p ks e.body) rows p.entries
