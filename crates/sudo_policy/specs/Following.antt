-- The value of a list of members under a reading, where each alias has the value of its definition. sudoers(5),
-- "Aliases".
use Rattle.std.specs.Prelude.{ℕ, zero, suc, ◌+◌, max, List, [], ◌∷◌, Option, Some, None, option_map, option_and_then, ◌≡◌}
use Rattle.sudo_grammar.specs.declared.kind.Kind.{Kind}
use Rattle.sudo_grammar.specs.declared.kind.Member.{Member}
use Rattle.sudo_grammar.specs.declared.policy.Policy.{Policy}
use Rattle.sudo_policy.specs.Definitions.{in_force, alias_named}

-- a reading of members: the value of an empty list, the value of a first member and the others together, the value, if
-- any, of a member that is no defined alias, and the value of a member whose definition has the value r
pub record Reading (R : Type 0) : Type 0 where
  pub nothing : R
  pub join : R → R → R
  pub alone : Member → Option R
  pub through : Member → R → R

-- the definition in force of the alias that a member names
abbrev pub definition_of_member : Kind → Policy → Member → Option (List Member)
definition_of_member kind p m = option_and_then (in_force kind p) (alias_named m.atom)

abbrev pub option_join : {R : Type 0} → (R → R → R) → Option R → Option R → Option R
option_join join None y = None
option_join join (Some x) None = None
option_join join (Some x) (Some y) = Some (join x y)

-- the value of one member, where `inner` is the value of a definition
abbrev pub member_reading : {R : Type 0} → Reading R → (List Member → Option R) → Member → Option (List Member) → Option R
member_reading g inner m None = g.alone m
member_reading g inner m (Some ms) = option_map (g.through m) (inner ms)

-- the value of a list, where `inner` is the value of a definition
abbrev pub list_reading : {R : Type 0} → Reading R → Kind → Policy → (List Member → Option R) → List Member → Option R
list_reading g kind p inner [] = Some g.nothing
list_reading g kind p inner (m ∷ ms) =
    option_join g.join (member_reading g inner m (definition_of_member kind p m)) (list_reading g kind p inner ms)

-- the value of a list, if no chain of more than `steps` definitions begins at a member of it
unfoldable pub reading_within : {R : Type 0} → Reading R → Kind → Policy → ℕ → List Member → Option R
reading_within g kind p zero = list_reading g kind p (λ _. None)
reading_within g kind p (suc steps) = list_reading g kind p (reading_within g kind p steps)

-- a list has the value r: it does within some number of steps
pub record ReadsAs {R : Type 0} (g : Reading R) (kind : Kind) (p : Policy) (ms : List Member) (r : R) : Type 0 where
  pub steps : ℕ
  pub reads : reading_within g kind p steps ms ≡ Some r

-- the depth of a list: the number of definitions of the longest chain that begins at a member of it
abbrev pub depth : Reading ℕ
depth = record { nothing = 0; join = max; alone = λ _. Some 0; through = λ _ d. suc d }

-- the width of a list: the number of its members when it is written out, where an undefined name counts as one member
abbrev pub width : Reading ℕ
width = record { nothing = 0; join = ◌+◌; alone = λ _. Some 1; through = λ _ w. w }
