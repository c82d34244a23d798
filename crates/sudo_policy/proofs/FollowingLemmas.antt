-- Laws of the values of lists of members.
use Rattle.std.proofs.Common.{◌≡◌, ℕ, zero, suc, ◌+◌, List, [], ◌∷◌, Option, None, Some, refl, sym, ◌∙◌, ap, subst, arith}
use Rattle.std.specs.Prelude.{option_map}
use Rattle.sudo_grammar.specs.declared.kind.Kind.{Kind}
use Rattle.sudo_grammar.specs.declared.kind.Member.{Member}
use Rattle.sudo_grammar.specs.declared.policy.Policy.{Policy}
use Rattle.sudo_policy.specs.Following.{Reading, option_join, member_reading, list_reading, reading_within, definition_of_member}

-- both parts of a joined value are there
pub record Parts {R : Type 0} (join : R → R → R) (x y : Option R) (r : R) : Type 0 where
  pub first : R
  pub second : R
  pub first_is : x ≡ Some first
  pub second_is : y ≡ Some second
  pub whole : r ≡ join first second

pub option_join-parts : {R : Type 0} (join : R → R → R) (x y : Option R) (r : R) → option_join join x y ≡ Some r → Parts join x y r
option_join-parts join None y r h = cc
option_join-parts join (Some x) None r h = cc
option_join-parts join (Some x) (Some y) r h = record { first = x; second = y; first_is = refl; second_is = refl; whole = cc }

pub option_join-from : {R : Type 0} (join : R → R → R) (x y : Option R) (a b r : R) → x ≡ Some a → y ≡ Some b
    → r ≡ join a b → option_join join x y ≡ Some r
option_join-from join x y a b r at_x at_y whole = rw (at_x, at_y, whole) refl

-- the value under a map is there
pub option_map-some : {A B : Type 0} (f : A → B) (o : Option A) (b : B) → option_map f o ≡ Some b → (a : A) × (o ≡ Some a) × (b ≡ f a)
option_map-some f None b h = cc
option_map-some f (Some a) b h = (a, refl, cc)

-- a member whose definition has the members ds, and the others, come to r
pub record InnerParts {R : Type 0} (g : Reading R) (kind : Kind) (p : Policy) (n : ℕ) (m : Member)
    (ds rest : List Member) (r : R) : Type 0 where
  pub inner : R
  pub others : R
  pub inner_is : reading_within g kind p n ds ≡ Some inner
  pub others_is : reading_within g kind p n rest ≡ Some others
  pub whole : r ≡ g.join (g.through m inner) others

module _ {R : Type 0} (g : Reading R) (kind : Kind) (p : Policy) where
  -- what a member comes to stays, where definitions come to as much and more
  pub member_reading_more : (inner more : List Member → Option R) → ((ms : List Member) (r : R) → inner ms ≡ Some r
      → more ms ≡ Some r) → (m : Member) (ds : Option (List Member)) (r : R) → member_reading g inner m ds ≡ Some r
      → member_reading g more m ds ≡ Some r
  member_reading_more inner more up m None r h = h
  member_reading_more inner more up m (Some ms) r h =
      let k = option_map-some (g.through m) (inner ms) r h in
      ap (option_map (g.through m)) (up ms k.0 k.1) ∙ ap Some (sym k.2)

  pub list_reading_more : (inner more : List Member → Option R) → ((ms : List Member) (r : R) → inner ms ≡ Some r
      → more ms ≡ Some r) → (ms : List Member) (r : R) → list_reading g kind p inner ms ≡ Some r → list_reading g kind p more ms ≡ Some r
  list_reading_more inner more up [] r h = h
  list_reading_more inner more up (m ∷ ms) r h =
      let k = option_join-parts g.join _ _ r h in
      option_join-from g.join _ _ k.first k.second r
      (member_reading_more inner more up m (definition_of_member kind p m) k.first k.first_is)
      (list_reading_more inner more up ms k.second k.second_is)
      k.whole

  -- one more step changes nothing that is known
  pub reading_step : (n : ℕ) (ms : List Member) (r : R) → reading_within g kind p n ms ≡ Some r
      → reading_within g kind p (suc n) ms ≡ Some r
  unfolding reading_within
  reading_step zero ms r h = list_reading_more (λ _. None) (reading_within g kind p zero) (λ ms r k. cc) ms r h
  reading_step (suc n) ms r h = list_reading_more (reading_within g kind p n) (reading_within g kind p (suc n)) (reading_step n) ms r h

  pub reading_more : (k n : ℕ) (ms : List Member) (r : R) → reading_within g kind p n ms ≡ Some r
      → reading_within g kind p (k + n) ms ≡ Some r
  reading_more zero n ms r h = let e : 0 + n ≡ n = omega arith in rw e h
  reading_more (suc k) n ms r h = let e : suc k + n ≡ suc (k + n) = omega arith in
      rw e (reading_step (k + n) ms r (reading_more k n ms r h))

  pub reading_parts : (n : ℕ) (m : Member) (rest : List Member) (r : R)
      → reading_within g kind p (suc n) (m ∷ rest) ≡ Some r
      → Parts g.join (member_reading g (reading_within g kind p n) m (definition_of_member kind p m))
      (reading_within g kind p (suc n) rest) r
  unfolding reading_within
  reading_parts n m rest r h = option_join-parts g.join _ _ r h

  pub inner_parts : (n : ℕ) (m : Member) (ds rest : List Member) (r : R) → definition_of_member kind p m ≡ Some ds
      → reading_within g kind p (suc n) (m ∷ rest) ≡ Some r → InnerParts g kind p (suc n) m ds rest r
  inner_parts n m ds rest r is h =
      let k = reading_parts n m rest r h in
      let first : member_reading g (reading_within g kind p n) m (Some ds) ≡ Some k.first =
      subst (λ (o : Option (List Member)). member_reading g (reading_within g kind p n) m o ≡ Some k.first) is k.first_is in
      let i = option_map-some (g.through m) (reading_within g kind p n ds) k.first first in
      record {
        inner = i.0;
        others = k.second;
        inner_is = reading_step n ds i.0 i.1;
        others_is = k.second_is;
        whole = k.whole ∙ ap (λ x. g.join x k.second) i.2;
      }

  -- the value of a list is one, however many steps show it
  pub reading_same : (n k : ℕ) (ms : List Member) (r s : R) → reading_within g kind p n ms ≡ Some r
      → reading_within g kind p k ms ≡ Some s → r ≡ s
  reading_same n k ms r s h i =
      let a = reading_more k n ms r h in
      let b = reading_more n k ms s i in
      let e : k + n ≡ n + k = omega arith in
      let c : reading_within g kind p (n + k) ms ≡ Some r = rw e at a in
      cc
