-- What a section names for its commands: the last runas, or the last tag of a pair, at or before a command.
-- sudoers(5), "Runas_Spec" and "Tag_Spec".
use Rattle.std.specs.Prelude.{◌≡◌, ◌<◌, ◌≤◌, ℕ, Bool, true, false, All, List, ◌∷◌, ◌++◌, None, Some, slice_get}
use Rattle.sudo_grammar.specs.Tags.{same_pair}
use Rattle.sudo_grammar.specs.declared.policy.CommandSpec.{CommandSpec}
use Rattle.sudo_grammar.specs.declared.policy.Runas.{Runas}
use Rattle.sudo_grammar.specs.declared.tag.Tag.{Tag}
use Rattle.sudo_grammar.specs.declared.tag.TagPair.{TagPair}

-- P holds of each command up to i
abbrev pub UpTo : List CommandSpec → ℕ → (CommandSpec → Type 0) → Type 0
UpTo commands i P = (k : ℕ) (c : CommandSpec) → k ≤ i → slice_get commands k ≡ Some c → P c

-- P holds of each command after j, up to i
abbrev pub Between : List CommandSpec → ℕ → ℕ → (CommandSpec → Type 0) → Type 0
Between commands j i P = (k : ℕ) (c : CommandSpec) → j < k → k ≤ i → slice_get commands k ≡ Some c → P c

-- the runas is named at a command up to i, and none is named between
pub record IsNamedAt (commands : List CommandSpec) (i : ℕ) (runas : Runas) : Type 0 where
  pub place : ℕ
  pub command : CommandSpec
  pub there : slice_get commands place ≡ Some command
  pub before : place ≤ i
  pub names : command.runas ≡ Some runas
  pub between : Between commands place i (λ c. c.runas ≡ None)

-- the tags have none of the pair
abbrev pub HaveNone : TagPair → List Tag → Type 0
HaveNone pair tags = All (λ (t : Tag). same_pair pair t.pair ≡ false) tags

-- a tag of the pair is at a command up to i, and none of the pair is behind it there or between
pub record IsTaggedAt (pair : TagPair) (commands : List CommandSpec) (i : ℕ) (on : Bool) : Type 0 where
  pub place : ℕ
  pub command : CommandSpec
  pub there : slice_get commands place ≡ Some command
  pub before : place ≤ i
  pub front : List Tag
  pub tag : Tag
  pub rest : List Tag
  pub tags : command.tags ≡ front ++ tag ∷ rest
  pub of_pair : same_pair pair tag.pair ≡ true
  pub chooses : tag.on ≡ on
  pub last : HaveNone pair rest
  pub between : Between commands place i (λ c. HaveNone pair c.tags)
