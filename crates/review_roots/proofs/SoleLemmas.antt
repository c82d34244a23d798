-- Lists of one member alone: those of the same alias answer alike, and one of a name allows the user of that name.
use Rattle.std.proofs.Common.{◌≡◌, ◌<◌, ◌+◌, ◌∙◌, ◌%◌, ◌==◌, ℕ, zero, suc, Bool, true, false, cond, List, [], ◌∷◌, ◌++◌, ap, arith}
use Rattle.std.proofs.Common.{get_or, inl, inr, length, map, refl, subst, sym, take, Option, Some, None, ◌⊎◌}
use Rattle.std.specs.Prelude.{bytes_eq, not, option_and_then, option_map, slice_get, unwrap_or}
use Rattle.std.specs.List.{slice_index_or}
use Rattle.std.proofs.lemmas.List.{map-append}
use Rattle.sudo_grammar.specs.declared.kind.Atom.TheVariants as atom
use Rattle.sudo_grammar.specs.declared.kind.Kind.{Kind}
use Rattle.sudo_grammar.specs.declared.kind.Kind.TheVariants as kind
use Rattle.sudo_grammar.specs.declared.kind.Member.{Member}
use Rattle.sudo_grammar.specs.declared.kind.Signed.{Signed}
use Rattle.sudo_grammar.specs.declared.policy.Policy.{Policy}
use Rattle.sudo_match.specs.declared.people.Machine.{Machine}
use Rattle.sudo_match.specs.declared.people.Person.{Person}
use Rattle.sudo_match.specs.Matching.{host_fits, user_fits}
use Rattle.sudo_policy.specs.Definitions.{alias_named, in_force}
use Rattle.sudo_policy.specs.Following.{definition_of_member, member_reading, option_join, reading_within}
use Rattle.sudo_policy.specs.Written.{alone_written, is_negated, member_written, negated_if, writing, written_form}
use Rattle.sudo_verdict.specs.Last.{last_that}
use Rattle.sudo_verdict.specs.Values.{allows, user_allowed, value}
use Rattle.review_roots.specs.declared.block.Block.{Block}
use Rattle.review_roots.specs.Blocks.{is_for, lists}
use Rattle.review_roots.specs.Body.Alike.{AreAlike, AreFirstsBy, IsFirstBy, host_list, user_list}
use Rattle.review_roots.specs.Body.Raising.{passes, passes_at}
use Rattle.review_roots.proofs.IndexLemmas.{answer-at}
use Rattle.review_roots.proofs.LayerLemmas.{get-append-split}
use Rattle.review_grants.proofs.ListSteps.{take-more}
use Rattle.review_roots.proofs.LoopLemmas.{there}
use Rattle.review_roots.proofs.UserLemmas.{before}

-- ---- One member alone

pub sole : (xs : List Member) (x : Member) → length xs ≡ 1 → x ≡ get_or xs 0 x → xs ≡ x ∷ []
sole [] x one is = absurd (omega (arith, one))
sole (y ∷ []) x one is = ap (λ (z : Member). z ∷ []) (sym is)
sole (y ∷ z ∷ xs) x one is = absurd (omega (arith, one))

module _ (m n : Member) (bangs : m.bangs ≡ n.bangs) (same : m.atom ≡ n.atom) where
  same-sign : is_negated m ≡ is_negated n
  same-sign = ap (λ b. b % 2 == 1) bangs

  alone-same : (o : Option (List ℕ)) → alone_written m o ≡ alone_written n o
  alone-same None =
      ap (λ b. let s : Signed = record { negated = b; atom = m.atom } in Some (s ∷ [])) same-sign
      ∙ ap (λ a. let s : Signed = record { negated = is_negated n; atom = a } in Some (s ∷ [])) same
  alone-same (Some name) = refl

  by-definition : (inner : List Member → Option (List Signed)) (o : Option (List Member))
      → member_reading writing inner m o ≡ member_reading writing inner n o
  by-definition inner None = alone-same (alias_named m.atom) ∙ ap (λ a. alone_written n (alias_named a)) same
  by-definition inner (Some ms) = ap (λ b. option_map (λ ws. map (negated_if b) ws) (inner ms)) same-sign

  member-same : (k : Kind) (p : Policy) → member_written k p m ≡ member_written k p n
  unfolding reading_within
  member-same k p =
      ap (λ o. unwrap_or (option_join (λ (a b : List Signed). a ++ b) o (Some [])) [])
      (by-definition (reading_within writing k p 63) (definition_of_member k p m)
      ∙ ap (λ a. member_reading writing (reading_within writing k p 63) n (option_and_then (in_force k p) (alias_named a))) same)

  pub alike-alone : AreAlike (m ∷ []) (n ∷ [])
  unfolding written_form
  alike-alone k p = ap (λ (ws : List Signed). ws ++ []) (member-same k p)

module _ (m : Member) (name : List ℕ) (bangs : m.bangs ≡ 0) (named : m.atom ≡ atom.Name name) where
  name-written : (k : Kind) (p : Policy) → member_written k p m ≡ record { negated = false; atom = atom.Name name } ∷ []
  unfolding reading_within
  name-written k p =
      ap (λ a. unwrap_or (option_join (λ (a b : List Signed). a ++ b)
      (member_reading writing (reading_within writing k p 63) m (option_and_then (in_force k p) (alias_named a))) (Some [])) []) named
      ∙ ap (λ a. unwrap_or (option_join (λ (a b : List Signed). a ++ b) (alone_written m (alias_named a)) (Some [])) []) named
      ∙ ap (λ b. let s : Signed = record { negated = b % 2 == 1; atom = m.atom } in s ∷ []) bangs
      ∙ ap (λ a. let s : Signed = record { negated = false; atom = a } in s ∷ []) named

  pub name-allows : (p : Policy) (u : Person) → user_allowed p (m ∷ []) u ≡ bytes_eq name u.name
  unfolding value written_form user_fits
  name-allows p u =
      ap (λ (ws : List Signed). allows (option_map (λ s. not s.negated) (last_that (λ s. user_fits s.atom u) (ws ++ []))))
      (name-written kind.User p)
      ∙ go (bytes_eq name u.name)
    where
      go : (b : Bool)
          → allows (option_map (λ (s : Signed). not s.negated)
          (cond b (let s : Signed = record { negated = false; atom = atom.Name name } in Some s) None)) ≡ b
      go true = refl
      go false = refl

-- ---- Lists that are alike

pub users-alike : (p : Policy) (u : Person) (f b : Block) → AreAlike (user_list f) (user_list b) → lists p u f ≡ lists p u b
unfolding value
users-alike p u f b alike =
    ap (λ (ws : List Signed). allows (option_map (λ s. not s.negated) (last_that (λ s. user_fits s.atom u) ws))) (alike kind.User p)

pub hosts-alike : (p : Policy) (m : Machine) (f b : Block) → AreAlike (host_list f) (host_list b) → is_for p m f ≡ is_for p m b
unfolding value
hosts-alike p m f b alike =
    ap (λ (ws : List Signed). allows (option_map (λ s. not s.negated) (last_that (λ s. host_fits s.atom m) ws))) (alike kind.Host p)

-- there is a block at an index that is less than their number
pub there-some : (xs : List Block) (i : ℕ) → i < length xs → (x : Block) × (slice_get xs i ≡ Some x)
there-some [] i l = absurd (omega (arith, l))
there-some (x ∷ xs) zero l = (x, refl)
there-some (x ∷ xs) (suc i) l = there-some xs i (omega (arith, l))

pub there-itself : (xs : List Block) (i : ℕ) (x : Block) → i < length xs → slice_get xs i ≡ Some x → x ≡ get_or xs i x
there-itself xs i x l at = let e : Some x ≡ Some (get_or xs i x) = sym at ∙ there xs i x l in cc

-- the answer of the block at an index is that of an earlier one with such a list
pub like-at :
    (t : Block → Bool) (same : Block → Block → Type 0) (bs : List Block) (firsts : List ℕ) (known : List Bool) (index first : ℕ) →
    ((f b : Block) → same f b → t f ≡ t b) → AreFirstsBy same bs firsts → slice_get firsts index ≡ Some first →
    first < index → index < length bs → known ≡ map t (take index bs) → slice_index_or known first false ≡ passes_at t bs index
like-at t same bs firsts known index first alike are at less inside is =
    go (slice_get bs index) refl (slice_get bs first) refl
  where
    go : (o : Option Block) → slice_get bs index ≡ o → (q : Option Block) → slice_get bs first ≡ q
        → slice_index_or known first false ≡ passes_at t bs index
    go None none q some = absurd (let bad = there-some bs index inside in let e : Some bad.0 ≡ None = sym bad.1 ∙ none in cc)
    go (Some b) at_b None none =
        let bad = there-some bs first (omega (arith, less, inside)) in absurd (let e : Some bad.0 ≡ None = sym bad.1 ∙ none in cc)
    go (Some b) at_b (Some f) at_f =
        ap (λ (xs : List Bool). slice_index_or xs first false) is
        ∙ answer-at t (take index bs) first f (before bs first index f less at_f)
        ∙ alike f b (are index first at b f less at_b at_f) ∙ sym (ap (passes t) at_b)

-- one block's answer more
pub answers-more :
    (t : Block → Bool) (bs : List Block) (i : ℕ) (answer : Bool) (old new : List Bool) → i < length bs → answer ≡ passes_at t bs i →
    old ≡ map t (take i bs) → new ≡ old ++ answer ∷ [] → new ≡ map t (take (i + 1) bs)
answers-more t bs i answer old new inside passed so_far grows = go (there-some bs i inside)
  where
    go : (b : Block) × (slice_get bs i ≡ Some b) → new ≡ map t (take (i + 1) bs)
    go (b, at) =
        let is = there-itself bs i b inside at in
        grows ∙ ap (λ (xs : List Bool). xs ++ answer ∷ []) so_far
        ∙ ap (λ a. map t (take i bs) ++ a ∷ []) (passed ∙ ap (passes t) at)
        ∙ sym (ap (map t) (take-more bs i b inside is) ∙ map-append t (take i bs) (b ∷ []))

-- one index more
pub firsts-more :
    (alike : Block → Block → Type 0) (bs : List Block) (old new : List ℕ) (index first : ℕ) → length old ≡ index →
    IsFirstBy alike bs index first → new ≡ old ++ first ∷ [] → AreFirstsBy alike bs old → AreFirstsBy alike bs new
firsts-more alike bs old new index first long is grows so_far i j at =
    go (get-append-split old (first ∷ []) i j (ap (λ (xs : List ℕ). slice_get xs i) (sym grows) ∙ at))
  where
    last : (k : ℕ) → i ≡ length old + k → slice_get (first ∷ []) k ≡ Some j → IsFirstBy alike bs i j
    last zero same here =
        let this : first ≡ j = cc in
        let there : index ≡ i = omega (arith, same, long) in
        subst (λ i. IsFirstBy alike bs i j) there (subst (IsFirstBy alike bs index) this is)
    last (suc k) same here = cc

    go : (slice_get old i ≡ Some j) ⊎ ((k : ℕ) × ((i ≡ length old + k) × (slice_get (first ∷ []) k ≡ Some j))) → IsFirstBy alike bs i j
    go (inl before) = so_far i j before
    go (inr (k, (same, here))) = last k same here
