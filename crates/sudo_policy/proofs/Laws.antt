-- Laws of the values of lists, for every crate that writes lists out.
use Rattle.std.proofs.Common.{◌≡◌, ℕ, zero, suc, ◌<◌, max, Bool, true, false, not, ◌&&◌, List, [], ◌∷◌, ◌++◌, map}
use Rattle.std.proofs.Common.{Option, Some, None, refl, sym, ◌∙◌, ap, arith, append_assoc, append-nil}
use Rattle.std.specs.Prelude.{option_and_then, option_map, unwrap_or, is_some, flat_map}
use Rattle.std.proofs.lemmas.Bool.{and_parts, and_from}
use Rattle.std.proofs.lemmas.List.Concat.{flat_map-append}
use Rattle.sudo_base.proofs.Options.{some_of}
use Rattle.sudo_grammar.specs.declared.kind.Atom.{Atom}
use Rattle.sudo_grammar.specs.declared.kind.Atom.TheVariants.{Alias}
use Rattle.sudo_grammar.specs.declared.kind.Kind.{Kind}
use Rattle.sudo_grammar.specs.declared.kind.Member.{Member}
use Rattle.sudo_grammar.specs.declared.kind.Signed.{Signed}
use Rattle.sudo_grammar.specs.declared.policy.Policy.{Policy}
use Rattle.sudo_policy.specs.Definitions.{in_force, alias_named}
use Rattle.sudo_policy.specs.Following.{option_join, depth, reading_within, member_reading, list_reading, definition_of_member}
use Rattle.sudo_policy.specs.Resolving.{resolves}
use Rattle.sudo_policy.specs.Body.Resolving.{rank, greatest}
use Rattle.sudo_policy.specs.Written.{IsWrittenOut, writing, written_form, member_written, alone_written, negated_if, differ, is_negated}
use Rattle.sudo_policy.proofs.AppendLemmas.{reading_append}
use Rattle.sudo_policy.proofs.FollowingLemmas.{option_join-parts, inner_parts}

pub both_there : {R : Type 0} (join : R → R → R) (x y : Option R) → is_some (option_join join x y) ≡ (is_some x && is_some y)
both_there join None y = refl
both_there join (Some a) None = refl
both_there join (Some a) (Some b) = refl

abbrev pub is_alias : Atom → Bool
is_alias atom = is_some (alias_named atom)

module _ (kind : Kind) (p : Policy) where
  -- ---- Lists end to end

  writing_append : (n : ℕ) (xs ys : List Member) → reading_within writing kind p n (xs ++ ys) ≡ option_join ◌++◌
      (reading_within writing kind p n xs) (reading_within writing kind p n ys)
  writing_append n xs ys = reading_append writing (λ r. refl) (λ a b c. append_assoc a b c) kind p n xs ys

  pub resolves_append : (xs ys : List Member) → resolves kind p (xs ++ ys) ≡ (resolves kind p xs && resolves kind p ys)
  unfolding resolves
  resolves_append xs ys = ap is_some (writing_append 64 xs ys) ∙ both_there ◌++◌ (reading_within writing kind p 64 xs)
      (reading_within writing kind p 64 ys)

  pub resolves_cons : (m : Member) (ms : List Member) → resolves kind p (m ∷ ms) ≡ true
      → (resolves kind p (m ∷ []) ≡ true) × (resolves kind p ms ≡ true)
  resolves_cons m ms h = and_parts _ _ (sym (resolves_append (m ∷ []) ms) ∙ h)

  pub written_append : (xs ys : List Member) → written_form kind p (xs ++ ys) ≡ written_form kind p xs ++ written_form kind p ys
  unfolding written_form
  written_append xs ys = flat_map-append (member_written kind p) xs ys

  pub written_none : written_form kind p [] ≡ []
  unfolding written_form
  written_none = refl

  pub written_cons : (m : Member) (ms : List Member) → written_form kind p (m ∷ ms) ≡ written_form kind p (m ∷ []) ++ written_form kind p ms
  written_cons m ms = written_append (m ∷ []) ms

  pub depth_append : (xs ys : List Member) → rank kind p (xs ++ ys) ≡ max (rank kind p xs) (rank kind p ys)
  unfolding rank
  depth_append xs ys = greatest_append (λ (m : Member). unwrap_or (reading_within depth kind p 64 (m ∷ [])) 0) xs ys
    where
      greatest_append : (f : Member → ℕ) (xs ys : List Member) → greatest f (xs ++ ys) ≡ max (greatest f xs) (greatest f ys)
      greatest_append f [] ys = omega arith
      greatest_append f (x ∷ xs) ys = let rest = greatest_append f xs ys in omega (arith, rest)

  pub rank_cons : (m : Member) (ms : List Member) → rank kind p (m ∷ ms) ≡ max (rank kind p (m ∷ [])) (rank kind p ms)
  rank_cons m ms = depth_append (m ∷ []) ms

  -- ---- The written form of a list that resolves

  abbrev written_at : (n : ℕ) → List Member → List Signed
  written_at n ms = flat_map (λ (m : Member). unwrap_or (reading_within writing kind p n (m ∷ [])) []) ms

  written_reads : (n : ℕ) (ms : List Member) (ws : List Signed) → reading_within writing kind p (suc n) ms ≡ Some ws
      → written_at (suc n) ms ≡ ws
  unfolding reading_within
  written_reads n [] ws h = cc
  written_reads n (m ∷ ms) ws h =
      let k = option_join-parts ◌++◌ _ _ ws (sym (writing_append (suc n) (m ∷ []) ms) ∙ h) in
      ap (λ (o : Option (List Signed)). unwrap_or o [] ++ written_at (suc n) ms) k.first_is
      ∙ ap (λ us. k.first ++ us) (written_reads n ms k.second k.second_is) ∙ sym k.whole

  pub written_from : (ms : List Member) (ws : List Signed) → reading_within writing kind p 64 ms ≡ Some ws → written_form kind p ms ≡ ws
  unfolding written_form
  written_from ms ws h = written_reads 63 ms ws h

  pub reading_of : (ms : List Member) → resolves kind p ms ≡ true → (ws : List Signed) × (reading_within writing kind p 64 ms ≡ Some ws)
  unfolding resolves
  reading_of ms h = some_of (reading_within writing kind p 64 ms) h

  -- a list that resolves has the written form
  pub is_written : (ms : List Member) → resolves kind p ms ≡ true → IsWrittenOut kind p ms (written_form kind p ms)
  is_written ms h =
      let k = reading_of ms h in
      record { steps = 64; reads = k.1 ∙ ap Some (sym (written_from ms k.0 k.1)) }

  -- ---- Members that are no aliases

  alone_read : (inner : List Member → Option (List Signed)) (m : Member) → alias_named m.atom ≡ None
      → list_reading writing kind p inner (m ∷ []) ≡ Some (record { negated = is_negated m; atom = m.atom } ∷ [])
  alone_read inner m none =
      let undefined : definition_of_member kind p m ≡ None = ap (λ (o : Option (List ℕ)). option_and_then (in_force kind p) o) none in
      ap (λ (o : Option (List Member)). option_join ◌++◌ (member_reading writing inner m o) (Some [])) undefined
      ∙ ap (λ (o : Option (List ℕ)). option_join ◌++◌ (alone_written m o) (Some [])) none

  alone_within : (n : ℕ) (m : Member) → alias_named m.atom ≡ None
      → reading_within writing kind p (suc n) (m ∷ []) ≡ Some (record { negated = is_negated m; atom = m.atom } ∷ [])
  unfolding reading_within
  alone_within n m none = alone_read (reading_within writing kind p n) m none

  pub alone_stands : (m : Member) → alias_named m.atom ≡ None
      → written_form kind p (m ∷ []) ≡ record { negated = is_negated m; atom = m.atom } ∷ []
  alone_stands m none = written_from (m ∷ []) _ (alone_within 63 m none)

  pub alone_resolves : (m : Member) → alias_named m.atom ≡ None → resolves kind p (m ∷ []) ≡ true
  unfolding resolves
  alone_resolves m none = ap is_some (alone_within 63 m none)

  not_alias : (a : Atom) → is_alias a ≡ false → alias_named a ≡ None
  not_alias a h = by (alias_named a) h
    where
      by : (o : Option (List ℕ)) → is_some o ≡ false → o ≡ None
      by None h = refl
      by (Some x) h = cc

  pub atom_written : (m : Member) → is_alias m.atom ≡ false
      → written_form kind p (m ∷ []) ≡ record { negated = is_negated m; atom = m.atom } ∷ []
  atom_written m h = alone_stands m (not_alias m.atom h)

-- ---- Members that are aliases

-- a list has a depth within as many steps as it is written out in
module _ (kind : Kind) (p : Policy) where
  deep_list : (inner : List Member → Option (List Signed)) (other : List Member → Option ℕ)
      → ((ms : List Member) → is_some (inner ms) ≡ true → is_some (other ms) ≡ true) → (ms : List Member)
      → is_some (list_reading writing kind p inner ms) ≡ true → is_some (list_reading depth kind p other ms) ≡ true
  deep_list inner other agree [] h = refl
  deep_list inner other agree (m ∷ ms) h =
      let k = and_parts _ _ (sym (both_there ◌++◌ (member_reading writing inner m (definition_of_member kind p m))
      (list_reading writing kind p inner ms)) ∙ h) in
      both_there max (member_reading depth other m (definition_of_member kind p m)) (list_reading depth kind p other ms)
      ∙ and_from _ _ (member (definition_of_member kind p m) k.0) (deep_list inner other agree ms k.1)
    where
      mapped : {X Y : Type 0} (f : X → Y) (o : Option X) → is_some (option_map f o) ≡ is_some o
      mapped f None = refl
      mapped f (Some x) = refl

      member : (d : Option (List Member)) → is_some (member_reading writing inner m d) ≡ true
          → is_some (member_reading depth other m d) ≡ true
      member None h = refl
      member (Some ds) h = mapped suc (other ds) ∙ agree ds (sym (mapped (writing.through m) (inner ds)) ∙ h)

  pub deep_within : (n : ℕ) (ms : List Member) → is_some (reading_within writing kind p n ms) ≡ true
      → is_some (reading_within depth kind p n ms) ≡ true
  unfolding reading_within
  deep_within zero ms h = deep_list (λ _. None) (λ _. None) (λ ms k. k) ms h
  deep_within (suc n) ms h = deep_list (reading_within writing kind p n) (reading_within depth kind p n) (deep_within n) ms h

  abbrev rank_at : (n : ℕ) → List Member → ℕ
  rank_at n ms = greatest (λ (m : Member). unwrap_or (reading_within depth kind p n (m ∷ [])) 0) ms

  reading_depth_append : (n : ℕ) (xs ys : List Member) → reading_within depth kind p n (xs ++ ys) ≡ option_join max
      (reading_within depth kind p n xs) (reading_within depth kind p n ys)
  reading_depth_append n xs ys = reading_append depth zero_max max_assoc kind p n xs ys
    where
      zero_max : (r : ℕ) → max 0 r ≡ r
      zero_max r = omega arith

      max_assoc : (a b c : ℕ) → max (max a b) c ≡ max a (max b c)
      max_assoc a b c = omega arith

  rank_reads : (n : ℕ) (ms : List Member) (d : ℕ) → reading_within depth kind p (suc n) ms ≡ Some d → rank_at (suc n) ms ≡ d
  unfolding reading_within
  rank_reads n [] d h = cc
  rank_reads n (m ∷ ms) d h =
      let k = option_join-parts max _ _ d (sym (reading_depth_append (suc n) (m ∷ []) ms) ∙ h) in
      ap (λ (o : Option ℕ). max (unwrap_or o 0) (rank_at (suc n) ms)) k.first_is
      ∙ ap (λ us. max k.first us) (rank_reads n ms k.second k.second_is) ∙ sym k.whole

  pub rank_from : (ms : List Member) (d : ℕ) → reading_within depth kind p 64 ms ≡ Some d → rank kind p ms ≡ d
  unfolding rank
  rank_from ms d h = rank_reads 63 ms d h

  pub depth_of : (ms : List Member) → resolves kind p ms ≡ true → (d : ℕ) × (reading_within depth kind p 64 ms ≡ Some d)
  unfolding resolves
  depth_of ms h = some_of (reading_within depth kind p 64 ms) (deep_within 64 ms h)

  defined_member : (m : Member) (name : List ℕ) (ds : List Member) → m.atom ≡ Alias name
      → in_force kind p name ≡ Some ds → definition_of_member kind p m ≡ Some ds
  defined_member m name ds is found = ap (λ (a : Atom). option_and_then (in_force kind p) (alias_named a)) is ∙ found

  -- the definition of a member that resolves
  module _ (m : Member) (ds : List Member) (defined : definition_of_member kind p m ≡ Some ds) where
    pub inner_resolves : resolves kind p (m ∷ []) ≡ true → resolves kind p ds ≡ true
    unfolding resolves
    inner_resolves h =
        let k = some_of (reading_within writing kind p 64 (m ∷ [])) h in
        let i = inner_parts writing kind p 63 m ds [] k.0 defined k.1 in
        ap is_some i.inner_is

    pub inner_written : resolves kind p (m ∷ []) ≡ true
        → written_form kind p (m ∷ []) ≡ map (negated_if (is_negated m)) (written_form kind p ds)
    inner_written h =
        let k = reading_of kind p (m ∷ []) h in
        let i = inner_parts writing kind p 63 m ds [] k.0 defined k.1 in
        written_from kind p (m ∷ []) k.0 k.1
        ∙ i.whole
        ∙ ap (λ ws. map (negated_if (is_negated m)) i.inner ++ ws) (sym (written_from kind p [] i.others i.others_is) ∙ written_none kind p)
        ∙ append-nil (map (negated_if (is_negated m)) i.inner)
        ∙ ap (map (negated_if (is_negated m))) (sym (written_from kind p ds i.inner i.inner_is))

    pub inner_rank : resolves kind p (m ∷ []) ≡ true → rank kind p ds < rank kind p (m ∷ [])
    inner_rank h =
        let k = depth_of (m ∷ []) h in
        let i = inner_parts depth kind p 63 m ds [] k.0 defined k.1 in
        let here = rank_from (m ∷ []) k.0 k.1 in
        let there = rank_from ds i.inner i.inner_is in
        let whole : k.0 ≡ max (suc i.inner) i.others = i.whole in
        omega (arith, here, there, whole)

  pub alias_resolves : (m : Member) (name : List ℕ) (ds : List Member) → m.atom ≡ Alias name
      → in_force kind p name ≡ Some ds → resolves kind p (m ∷ []) ≡ true → resolves kind p ds ≡ true
  alias_resolves m name ds is found h = inner_resolves m ds (defined_member m name ds is found) h

  pub alias_written : (m : Member) (name : List ℕ) (ds : List Member) → m.atom ≡ Alias name
      → in_force kind p name ≡ Some ds → resolves kind p (m ∷ []) ≡ true
      → written_form kind p (m ∷ []) ≡ map (negated_if (is_negated m)) (written_form kind p ds)
  alias_written m name ds is found h = inner_written m ds (defined_member m name ds is found) h

  pub alias_depth : (m : Member) (name : List ℕ) (ds : List Member) → m.atom ≡ Alias name
      → in_force kind p name ≡ Some ds → resolves kind p (m ∷ []) ≡ true → rank kind p ds < rank kind p (m ∷ [])
  alias_depth m name ds is found h = inner_rank m ds (defined_member m name ds is found) h

  -- an alias without a definition does not resolve
  undefined_read : (inner : List Member → Option (List Signed)) (m : Member) (name : List ℕ)
      → alias_named m.atom ≡ Some name → in_force kind p name ≡ None → list_reading writing kind p inner (m ∷ []) ≡ None
  undefined_read inner m name is none =
      let undefined : definition_of_member kind p m ≡ None = ap (λ (o : Option (List ℕ)). option_and_then (in_force kind p) o) is ∙ none in
      ap (λ (o : Option (List Member)). option_join ◌++◌ (member_reading writing inner m o) (Some [])) undefined
      ∙ ap (λ (o : Option (List ℕ)). option_join ◌++◌ (alone_written m o) (Some [])) is

  undefined_within : (n : ℕ) (m : Member) (name : List ℕ) → alias_named m.atom ≡ Some name
      → in_force kind p name ≡ None → reading_within writing kind p (suc n) (m ∷ []) ≡ None
  unfolding reading_within
  undefined_within n m name is none = undefined_read (reading_within writing kind p n) m name is none

  pub undefined_fails : (m : Member) (name : List ℕ) → alias_named m.atom ≡ Some name → in_force kind p name ≡ None
      → resolves kind p (m ∷ []) ≡ false
  unfolding resolves
  undefined_fails m name is none = ap is_some (undefined_within 63 m name is none)

  pub alias_defined : (m : Member) (name : List ℕ) → m.atom ≡ Alias name → in_force kind p name ≡ None → resolves kind p (m ∷ []) ≡ false
  alias_defined m name is none = undefined_fails m name (ap alias_named is) none

-- ---- Signs

not_twice : (b : Bool) → not (not b) ≡ b
not_twice true = refl
not_twice false = refl

negated_once_more : (a b : Bool) (s : Signed) → negated_if a (negated_if b s) ≡ negated_if (differ a b) s
negated_once_more true true s = ap (λ n. record { negated = n; atom = s.atom }) (not_twice s.negated)
negated_once_more true false s = refl
negated_once_more false true s = refl
negated_once_more false false s = refl

-- two negations in turn are one
pub negated_twice : (a b : Bool) (ws : List Signed) → map (negated_if a) (map (negated_if b) ws) ≡ map (negated_if (differ a b)) ws
negated_twice a b [] = refl
negated_twice a b (w ∷ ws) = ap (λ x. x ∷ map (negated_if a) (map (negated_if b) ws)) (negated_once_more a b w)
    ∙ ap (λ xs. negated_if (differ a b) w ∷ xs) (negated_twice a b ws)

pub negated_never : (ws : List Signed) → map (negated_if false) ws ≡ ws
negated_never [] = refl
negated_never (w ∷ ws) = ap (λ xs. w ∷ xs) (negated_never ws)
