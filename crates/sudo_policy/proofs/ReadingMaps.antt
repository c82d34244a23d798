-- Readings that are maps of one another.
use Rattle.std.proofs.Common.{◌≡◌, ℕ, zero, suc, ◌+◌, min, max, List, [], ◌∷◌, Option, None, Some, refl, sym, ◌∙◌, ap, arith}
use Rattle.std.specs.Prelude.{option_map}
use Rattle.sudo_grammar.specs.declared.kind.Kind.{Kind}
use Rattle.sudo_policy.specs.declared.graph.Measure.{Measure}
use Rattle.sudo_grammar.specs.declared.kind.Member.{Member}
use Rattle.sudo_grammar.specs.declared.policy.Policy.{Policy}
use Rattle.sudo_policy.specs.Following.{Reading, option_join, member_reading, list_reading, reading_within}
use Rattle.sudo_policy.specs.Following.{definition_of_member, depth, width}
use Rattle.sudo_policy.specs.Body.Graph.{measure_of_both, deeper, list_measure}
use Rattle.sudo_policy.proofs.FollowingLemmas.{option_map-some}

module _ {R S : Type 0} (g : Reading R) (k : Reading S) (h : R → S)
    (nothing : h g.nothing ≡ k.nothing)
    (join : (a b : R) → h (g.join a b) ≡ k.join (h a) (h b))
    (alone : (m : Member) → option_map h (g.alone m) ≡ k.alone m)
    (through : (m : Member) (r : R) → h (g.through m r) ≡ k.through m (h r))
    (kind : Kind) (p : Policy) where
  joined_map : (x y : Option R) → option_map h (option_join g.join x y) ≡ option_join k.join (option_map h x) (option_map h y)
  joined_map None y = refl
  joined_map (Some a) None = refl
  joined_map (Some a) (Some b) = ap Some (join a b)

  through_map : (m : Member) (o : Option R) → option_map h (option_map (g.through m) o) ≡ option_map (k.through m) (option_map h o)
  through_map m None = refl
  through_map m (Some r) = ap Some (through m r)

  member_map : (inner : List Member → Option R) (other : List Member → Option S)
      → ((ms : List Member) → option_map h (inner ms) ≡ other ms) → (m : Member) (ds : Option (List Member))
      → option_map h (member_reading g inner m ds) ≡ member_reading k other m ds
  member_map inner other agree m None = alone m
  member_map inner other agree m (Some ms) = through_map m (inner ms) ∙ ap (option_map (k.through m)) (agree ms)

  list_map : (inner : List Member → Option R) (other : List Member → Option S)
      → ((ms : List Member) → option_map h (inner ms) ≡ other ms) → (ms : List Member)
      → option_map h (list_reading g kind p inner ms) ≡ list_reading k kind p other ms
  list_map inner other agree [] = ap Some nothing
  list_map inner other agree (m ∷ ms) =
      joined_map (member_reading g inner m (definition_of_member kind p m)) (list_reading g kind p inner ms)
      ∙ ap (λ o. option_join k.join o (option_map h (list_reading g kind p inner ms)))
      (member_map inner other agree m (definition_of_member kind p m))
      ∙ ap (λ o. option_join k.join (member_reading k other m (definition_of_member kind p m)) o) (list_map inner other agree ms)

  pub reading_map : (n : ℕ) (ms : List Member) → option_map h (reading_within g kind p n ms) ≡ reading_within k kind p n ms
  unfolding reading_within
  reading_map zero ms = list_map (λ _. None) (λ _. None) (λ _. refl) ms
  reading_map (suc n) ms = list_map (reading_within g kind p n) (reading_within k kind p n) (reading_map n) ms

-- depth and width together
abbrev both : Reading (ℕ × ℕ)
both = record { nothing = (0, 0); join = λ a b. (max a.0 b.0, a.1 + b.1); alone = λ _. Some (0, 1); through = λ _ a. (suc a.0, a.1) }

-- up to just beyond the limits
abbrev cap : ℕ × ℕ → Measure
cap a = record { depth = min a.0 65; width = min a.1 65537 }

abbrev measure_of : ℕ → ℕ → Measure
measure_of a c = record { depth = a; width = c }

same_measure : (a b c d : ℕ) → a ≡ b → c ≡ d → measure_of a c ≡ measure_of b d
same_measure a b c d e f = cc

cap-join : (a b : ℕ × ℕ) → cap (both.join a b) ≡ measure_of_both (cap a) (cap b)
cap-join a b = same_measure _ _ _ _ (cap_max a.0 b.0) (cap_sum a.1 b.1)
  where
    cap_max : (x y : ℕ) → min (max x y) 65 ≡ max (min x 65) (min y 65)
    cap_max x y = omega arith

    cap_sum : (x y : ℕ) → min (x + y) 65537 ≡ min (min x 65537 + min y 65537) 65537
    cap_sum x y = omega arith

cap-deeper : (a : ℕ × ℕ) → cap (suc a.0, a.1) ≡ deeper (cap a)
cap-deeper a = same_measure _ _ _ _ (deep a.0) refl
  where
    deep : (x : ℕ) → min (suc x) 65 ≡ min (min x 65 + 1) 65
    deep x = omega arith

module _ (kind : Kind) (p : Policy) (n : ℕ) (ms : List Member) (a : Measure) (is : reading_within list_measure kind p n ms ≡ Some a) where
  full : (b : ℕ × ℕ) × (reading_within both kind p n ms ≡ Some b) × (a ≡ cap b)
  full = option_map-some cap (reading_within both kind p n ms) a (reading_map both list_measure cap refl cap-join
      (λ m. refl) (λ m b. cap-deeper b) kind p n ms ∙ is)

  -- the depth of a list whose measure is known
  pub depth_measured : (d : ℕ) × (reading_within depth kind p n ms ≡ Some d) × (a.depth ≡ min d 65)
  depth_measured = (
    full.0.0,
    sym (reading_map both depth (λ b. b.0) refl (λ x y. refl) (λ m. refl) (λ m b. refl) kind
        p n ms) ∙ ap (option_map (λ b. b.0)) full.1,
    ap (λ (m : Measure). m.depth) full.2,
  )

  -- and the width
  pub width_measured : (w : ℕ) × (reading_within width kind p n ms ≡ Some w) × (a.width ≡ min w 65537)
  width_measured = (
    full.0.1,
    sym (reading_map both width (λ b. b.1) refl (λ x y. refl) (λ m. refl) (λ m b. refl) kind
        p n ms) ∙ ap (option_map (λ b. b.1)) full.1,
    ap (λ (m : Measure). m.width) full.2,
  )

-- a list with a depth has a measure, and so has one with a width
pub list_measure-deep : (kind : Kind) (p : Policy) (n : ℕ) (ms : List Member) (d : ℕ)
    → reading_within depth kind p n ms ≡ Some d → (a : Measure) × (reading_within list_measure kind p n ms ≡ Some a)
list_measure-deep kind p n ms d is =
    let k = option_map-some (λ (b : ℕ × ℕ). b.0) (reading_within both kind p n ms) d
    (reading_map both depth (λ b. b.0) refl (λ x y. refl) (λ m. refl) (λ m b. refl) kind p n ms ∙ is) in
    (cap k.0, sym (reading_map both list_measure cap refl cap-join (λ m. refl) (λ m b. cap-deeper b) kind p n ms) ∙ ap (option_map cap) k.1)

pub list_measure-wide : (kind : Kind) (p : Policy) (n : ℕ) (ms : List Member) (w : ℕ)
    → reading_within width kind p n ms ≡ Some w → (a : Measure) × (reading_within list_measure kind p n ms ≡ Some a)
list_measure-wide kind p n ms w is =
    let k = option_map-some (λ (b : ℕ × ℕ). b.1) (reading_within both kind p n ms) w
    (reading_map both width (λ b. b.1) refl (λ x y. refl) (λ m. refl) (λ m b. refl) kind p n ms ∙ is) in
    (cap k.0, sym (reading_map both list_measure cap refl cap-join (λ m. refl) (λ m b. cap-deeper b) kind p n ms) ∙ ap (option_map cap) k.1)
