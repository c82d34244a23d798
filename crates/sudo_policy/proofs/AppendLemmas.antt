-- The value of two lists appended.
use Rattle.std.proofs.Common.{◌≡◌, ℕ, zero, suc, List, [], ◌∷◌, ◌++◌, Option, None, Some, refl, sym, ◌∙◌, ap}
use Rattle.sudo_grammar.specs.declared.kind.Kind.{Kind}
use Rattle.sudo_grammar.specs.declared.kind.Member.{Member}
use Rattle.sudo_grammar.specs.declared.policy.Policy.{Policy}
use Rattle.sudo_policy.specs.Following.{Reading, option_join, member_reading, list_reading, reading_within, definition_of_member}

module _ {R : Type 0} (g : Reading R) (unit : (r : R) → g.join g.nothing r ≡ r) (assoc : (a b c : R)
    → g.join (g.join a b) c ≡ g.join a (g.join b c)) (kind : Kind) (p : Policy) where
  joined_unit : (o : Option R) → o ≡ option_join g.join (Some g.nothing) o
  joined_unit None = refl
  joined_unit (Some r) = ap Some (sym (unit r))

  joined_assoc : (x y z : Option R) → option_join g.join x (option_join g.join y z) ≡ option_join g.join (option_join g.join x y) z
  joined_assoc None y z = refl
  joined_assoc (Some a) None z = refl
  joined_assoc (Some a) (Some b) None = refl
  joined_assoc (Some a) (Some b) (Some c) = ap Some (sym (assoc a b c))

  list_append : (inner : List Member → Option R) (xs ys : List Member)
      → list_reading g kind p inner (xs ++ ys) ≡ option_join g.join (list_reading g kind p inner xs) (list_reading g kind p inner ys)
  list_append inner [] ys = joined_unit (list_reading g kind p inner ys)
  list_append inner (m ∷ xs) ys =
      ap (option_join g.join (member_reading g inner m (definition_of_member kind p m))) (list_append inner xs ys)
      ∙ joined_assoc (member_reading g inner m (definition_of_member kind p m)) (list_reading g kind p inner xs)
      (list_reading g kind p inner ys)

  -- what two lists come to, one after the other
  pub reading_append : (n : ℕ) (xs ys : List Member) → reading_within g kind p n (xs ++ ys) ≡ option_join g.join
      (reading_within g kind p n xs) (reading_within g kind p n ys)
  unfolding reading_within
  reading_append zero xs ys = list_append (λ _. None) xs ys
  reading_append (suc n) xs ys = list_append (reading_within g kind p n) xs ys
