-- The decision of a list, by the decisions of its parts: that of the last part that decides at all.
use Rattle.std.proofs.Common.{◌≡◌, ℕ, ◌<◌, ◌≤◌, Bool, true, false, not, cond, List, [], ◌∷◌, ◌++◌, map, Option, Some}
use Rattle.std.proofs.Common.{None, refl, sym, ◌∙◌, ap, arith}
use Rattle.std.specs.Option.{option_or, option_map, is_some}
use Rattle.std.proofs.Common.{◌+◌, ◌-◌, zero, suc, length, take, drop, option_to_list, add-zero, add-one}
use Rattle.std.proofs.lemmas.List.{append-nil, take-append-drop}
use Rattle.std.proofs.lemmas.Bool.{and_parts, both_ways}
use Rattle.sudo_grammar.specs.declared.kind.Kind.{Kind}
use Rattle.sudo_grammar.specs.declared.kind.Atom.{Atom}
use Rattle.sudo_grammar.specs.declared.kind.Atom.TheVariants as atom
use Rattle.sudo_grammar.specs.declared.kind.Signed.{Signed}
use Rattle.sudo_grammar.specs.declared.kind.Member.{Member}
use Rattle.sudo_grammar.specs.declared.policy.Policy.{Policy}
use Rattle.sudo_policy.specs.Definitions.{in_force}
use Rattle.sudo_policy.proofs.Laws.{is_alias}
use Rattle.sudo_verdict.specs.Values.{is_all}
use Rattle.sudo_policy.specs.Written.{is_negated, negated_if, written_form}
use Rattle.sudo_policy.specs.Resolving.{resolves}
use Rattle.sudo_policy.specs.Body.Resolving.{rank}
use Rattle.sudo_policy.proofs.Laws.{alias_resolves, alias_written, alias_depth, alias_defined, atom_written}
use Rattle.sudo_policy.proofs.Laws.{resolves_append, written_append, written_none, depth_append}
use Rattle.sudo_verdict.specs.Values.{value}
use Rattle.sudo_verdict.specs.Last.{last_that}
use Rattle.sudo_verdict.specs.Decided.{list_decision, decided_in, decision_of}
use Rattle.sudo_verdict.specs.Body.Decided.{negated_once}
use Rattle.sudo_verdict.specs.declared.decision.Decision.{Decision}
use Rattle.sudo_policy.specs.Definitions.{alias_named}
use Rattle.sudo_verdict.specs.declared.index.key.Key.{Key}
use Rattle.sudo_verdict.specs.declared.index.key.Key.TheVariants as key
use Rattle.sudo_verdict.specs.Keys.{Pairwise, IsKeyOf, HaveKeys, HaveCommandKeys}
use Rattle.sudo_grammar.specs.declared.kind.Kind.TheVariants.{Cmnd}
use Rattle.sudo_grammar.specs.declared.policy.CommandSpec.{CommandSpec}
use Rattle.sudo_verdict.specs.Body.Known.{IsPassed}
use Rattle.std.specs.Prelude.{unwrap_or, slice_get}
use Rattle.sudo_base.proofs.Options.{option_map-map}
use Rattle.sudo_verdict.proofs.Lasts.{take-more, last-at, last_that-append, last_that-map, option_map_or}

one : (s : Signed) (b : Bool) → option_map decision_of (cond b (Some s) None) ≡ cond b (Some (decision_of s)) None
one s true = refl
one s false = refl

module _ (test : Atom → Bool) where
  decided_in_append : (xs ys : List Signed) → decided_in test (xs ++ ys) ≡ option_or (decided_in test ys) (decided_in test xs)
  unfolding decided_in
  decided_in_append xs ys =
      ap (option_map decision_of) (last_that-append (λ s. test s.atom) xs ys) ∙ option_map_or decision_of _ _

  -- A negated list decides with the other sign.
  decided_in_negated : (b : Bool) (xs : List Signed) → decided_in test (map (negated_if b) xs) ≡ option_map
      (negated_once b) (decided_in test xs)
  unfolding decided_in
  decided_in_negated b xs =
      ap (option_map decision_of) (last_that-map true (λ s. test s.atom) (λ s. test s.atom) (negated_if b) (λ s. refl) xs)
      ∙ option_map-map decision_of (negated_if b) (last_that (λ s. test s.atom) xs)
      ∙ sym (option_map-map (negated_once b) decision_of (last_that (λ s. test s.atom) xs))

  module _ (k : Kind) (p : Policy) where
    pub decided_append : (xs ys : List Member)
        → list_decision k p (xs ++ ys) test ≡ option_or (list_decision k p ys test) (list_decision k p xs test)
    unfolding list_decision
    decided_append xs ys = ap (decided_in test) (written_append k p xs ys) ∙ decided_in_append (written_form k p xs) (written_form k p ys)

    pub decided_none : list_decision k p [] test ≡ None
    unfolding list_decision decided_in
    decided_none = rw (written_none k p)

    pub decided_atom : (m : Member) → is_alias m.atom ≡ false → list_decision k p (m ∷ []) test ≡ cond (test m.atom)
        (Some (record { negated = is_negated m; all = is_all m.atom })) None
    unfolding list_decision decided_in
    decided_atom m h = rw (atom_written k p m h) (one (record { negated = is_negated m; atom = m.atom }) (test m.atom))

    pub decided_alias : (m : Member) (name : List ℕ) (ds : List Member) → m.atom ≡ atom.Alias name
        → in_force k p name ≡ Some ds → resolves k p (m ∷ []) ≡ true
        → list_decision k p (m ∷ []) test ≡ option_map (negated_once (is_negated m)) (list_decision k p ds test)
    unfolding list_decision
    decided_alias m name ds is found fits =
        ap (decided_in test) (alias_written k p m name ds is found fits) ∙ decided_in_negated (is_negated m) (written_form k p ds)

-- A list whose last member is m.
module _ (k : Kind) (p : Policy) (test : Atom → Bool) (left rest : List Member) (m : Member) (is : left ≡ rest ++ m ∷ []) where
  pub last_silent : list_decision k p (m ∷ []) test ≡ None → list_decision k p left test ≡ list_decision k p rest test
  last_silent e = rw (is, decided_append test k p rest (m ∷ []), e)

  last_is : (o : Option Decision) → list_decision k p (m ∷ []) test ≡ o → is_some o ≡ true → list_decision k p left test ≡ o
  last_is (Some d) e some = rw (is, decided_append test k p rest (m ∷ []), e)
  last_is None e some = cc

  pub rest_resolves : resolves k p left ≡ true → resolves k p rest ≡ true
  rest_resolves h = (and_parts (resolves k p rest) (resolves k p (m ∷ [])) (rw (is, resolves_append k p rest (m ∷ [])) at h)).0

  pub last_resolves : resolves k p left ≡ true → resolves k p (m ∷ []) ≡ true
  last_resolves h = (and_parts (resolves k p rest) (resolves k p (m ∷ [])) (rw (is, resolves_append k p rest (m ∷ [])) at h)).1

  pub rest_shallow : rank k p rest ≤ rank k p left
  rest_shallow = rw is (omega (arith, depth_append k p rest (m ∷ [])))

  pub last_shallow : rank k p (m ∷ []) ≤ rank k p left
  last_shallow = rw is (omega (arith, depth_append k p rest (m ∷ [])))

-- A list, up to the member m at an index.
module _ (k : Kind) (p : Policy) (test : Atom → Bool) (members : List Member) (n : ℕ) (m : Member)
    (there : slice_get members n ≡ Some m) where
  front_is : take (n + 1) members ≡ take n members ++ m ∷ []
  front_is = ap (λ i. take i members) (add-one n) ∙ take-more n members ∙ ap (λ o. take n members ++ option_to_list o) there

  pub front_decides : (o : Option Decision) → list_decision k p (m ∷ []) test ≡ o → is_some o ≡ true
      → list_decision k p (take (n + 1) members) test ≡ o
  front_decides = last_is k p test (take (n + 1) members) (take n members) m front_is

  pub front_silent : list_decision k p (m ∷ []) test ≡ None
      → list_decision k p (take (n + 1) members) test ≡ list_decision k p (take n members) test
  front_silent = last_silent k p test (take (n + 1) members) (take n members) m front_is

  whole_is : take (n + 1) members ++ drop (n + 1) members ≡ members
  whole_is = take-append-drop (n + 1) members

  pub one_resolves : resolves k p members ≡ true → resolves k p (m ∷ []) ≡ true
  one_resolves h =
      last_resolves k p test (take (n + 1) members) (take n members) m front_is
      (and_parts (resolves k p (take (n + 1) members)) (resolves k p (drop (n + 1) members))
      (sym (resolves_append k p (take (n + 1) members) (drop (n + 1) members)) ∙ ap (resolves k p) whole_is ∙ h)).0

  pub one_shallow : rank k p (m ∷ []) ≤ rank k p members
  one_shallow =
      let front = last_shallow k p test (take (n + 1) members) (take n members) m front_is in
      let same = ap (rank k p) whole_is in
      omega (arith, front, same, depth_append k p (take (n + 1) members) (drop (n + 1) members))

pub none_silent : (k : Kind) (p : Policy) (test : Atom → Bool) (left : List Member) → length left ≡ 0 → list_decision k p left test ≡ None
none_silent k p test [] h = decided_none test k p
none_silent k p test (m ∷ ms) h = cc

pub undefined_never : (k : Kind) (p : Policy) (m : Member) (name : List ℕ) → m.atom ≡ atom.Alias name
    → in_force k p name ≡ None → resolves k p (m ∷ []) ≡ true → ⊥
undefined_never k p m name is none h = both_ways _ (alias_defined k p m name is none) h

pub not_alias : (a : Atom) → ((name : List ℕ) → a ≡ atom.Alias name → ⊥) → is_alias a ≡ false
not_alias (atom.Alias n) h = absurd (h n refl)
not_alias _ h = refl

-- A member that is an alias, by the decision of its list.
module _ (k : Kind) (p : Policy) (test : Atom → Bool) (m : Member) (name : List ℕ) (ds : List Member)
    (is : m.atom ≡ atom.Alias name) (found : Some ds ≡ in_force k p name) (fits : resolves k p (m ∷ []) ≡ true) where
  pub alias_silent : None ≡ list_decision k p ds test → None ≡ list_decision k p (m ∷ []) test
  alias_silent e = sym (decided_alias test k p m name ds is (sym found) fits ∙ ap (option_map (negated_once (is_negated m))) (sym e))

  pub alias_decides : (d : Decision) → Some d ≡ list_decision k p ds test
      → Some (negated_once (is_negated m) d) ≡ list_decision k p (m ∷ []) test
  alias_decides d e = sym (decided_alias test k p m name ds is (sym found) fits ∙ ap (option_map (negated_once (is_negated m))) (sym e))

  pub alias_falls : rank k p ds < rank k p (m ∷ [])
  alias_falls = alias_depth k p m name ds is (sym found) fits

  pub alias_stands : resolves k p ds ≡ true
  alias_stands = alias_resolves k p m name ds is (sym found) fits

-- A member that is no alias.
module _ (k : Kind) (p : Policy) (test : Atom → Bool) (m : Member) (not_one : (name : List ℕ) → m.atom ≡ atom.Alias name → ⊥) where
  pub atom_decides : test m.atom ≡ true → Some (record { negated = is_negated m; all = is_all m.atom }) ≡ list_decision k p (m ∷ []) test
  atom_decides e = sym (decided_atom test k p m (not_alias m.atom not_one)
      ∙ ap (λ b. cond b (Some (record { negated = is_negated m; all = is_all m.atom })) None) e)

  pub atom_silent : test m.atom ≡ false → None ≡ list_decision k p (m ∷ []) test
  atom_silent e = sym (decided_atom test k p m (not_alias m.atom not_one)
      ∙ ap (λ b. cond b (Some (record { negated = is_negated m; all = is_all m.atom })) None) e)

-- The value of a list is the sign with which it decides.
sign_of : (o : Option Signed) → option_map (λ s. not s.negated) o ≡ option_map (λ d. not d.negated) (option_map decision_of o)
sign_of None = refl
sign_of (Some s) = refl

pub value-decided : (k : Kind) (p : Policy) (ms : List Member) (test : Atom → Bool)
    → value k p ms test ≡ option_map (λ d. not d.negated) (list_decision k p ms test)
unfolding value list_decision decided_in
value-decided k p ms test = sign_of (last_that (λ s. test s.atom) (written_form k p ms))

-- The definition in force, by a name that is read.
pub found-at :
    (k : Kind) (p : Policy) (name read : List ℕ) (o : Option (List Member)) (ds : List Member) → read ≡ name
    → in_force k p read ≡ o → o ≡ Some ds →
    Some ds ≡ in_force k p name
found-at k p name read o ds same known is = sym (ap (in_force k p) (sym same) ∙ known ∙ is)

-- A member whose key is passed over is silent.
pub passed-silent :
    (k : Kind) (p : Policy) (test : Atom → Bool) (known : Key) (m : Member) → IsKeyOf p k known m.atom
    → IsPassed test known → list_decision k p (m ∷ []) test ≡ None
passed-silent k p test known m is passed =
    let both = passed p k m.atom is in
    sym (atom_silent k p test m (λ name alias. let no : None ≡ Some name = sym both.0 ∙ ap alias_named alias in cc) both.1)

-- The key at a member's index is that of the member.
pub key-at :
    (k : Kind) (p : Policy) (keys : List Key) (members : List Member) (i : ℕ) (m : Member)
    → slice_get members i ≡ Some m → HaveKeys p k keys members →
    IsKeyOf p k (unwrap_or (slice_get keys i) key.Other) m.atom
key-at k p keys members i m there have = go (slice_get keys i) refl
  where
    go : (o : Option Key) → slice_get keys i ≡ o → IsKeyOf p k (unwrap_or o key.Other) m.atom
    go None e = record {
      position = λ q n f g. cc;
      name = λ n f. cc;
      uid = λ n f. cc;
      group = λ n f. cc;
      command = λ n f. cc;
      literal = λ i b f. cc;
    }
    go (Some known) e = have i known m e there

pub related-there :
    {X Y : Type 0} (R : X → Y → Type 0) (xs : List X) (ys left rest : List Y) (x : X) (y : Y) → left ≡ rest ++ y ∷ []
    → left ≡ take (length left) ys →
    Pairwise R xs ys → slice_get xs (length rest) ≡ Some x → R x y
related-there R xs ys left rest x y is front have e = have (length rest) x y e (last-at ys left rest y is front)

-- The key at a command's index is that of the command.
pub command_key_there :
    (p : Policy) (keys : List Key) (commands left rest : List CommandSpec) (s : CommandSpec) → left ≡ rest ++ s ∷ [] →
    left ≡ take (length left) commands → HaveCommandKeys p keys commands
    → IsKeyOf p Cmnd (unwrap_or (slice_get keys (length rest)) key.Other) s.command.atom
command_key_there p keys commands left rest s is front have = go (slice_get keys (length rest)) refl
  where
    go : (o : Option Key) → slice_get keys (length rest) ≡ o → IsKeyOf p Cmnd (unwrap_or o key.Other) s.command.atom
    go None e = record {
      position = λ q n f g. cc;
      name = λ n f. cc;
      uid = λ n f. cc;
      group = λ n f. cc;
      command = λ n f. cc;
      literal = λ i b f. cc;
    }
    go (Some known) e = have (length rest) known s e (last-at commands left rest s is front)

-- Members whose keys are passed over decide nothing.
module _ (k : Kind) (p : Policy) (test : Atom → Bool) (keys : List Key) (members : List Member) (have : HaveKeys p k keys members) where
  one_passed : (n : ℕ) → IsPassed test (unwrap_or (slice_get keys n) key.Other)
      → list_decision k p (take (n + 1) members) test ≡ list_decision k p (take n members) test
  one_passed n passed = go (slice_get members n) refl
    where
      go : (o : Option Member) → slice_get members n ≡ o
          → list_decision k p (take (n + 1) members) test ≡ list_decision k p (take n members) test
      go None e =
          ap (λ l. list_decision k p l test)
          (ap (λ i. take i members) (add-one n) ∙ take-more n members ∙ ap (λ o. take n members ++ option_to_list o) e
          ∙ append-nil (take n members))
      go (Some m) e = front_silent k p test members n m e
          (passed-silent k p test (unwrap_or (slice_get keys n) key.Other) m (key-at k p keys members n m e have) passed)

  some_passed : (from more : ℕ) → ((i : ℕ) → from ≤ i → i < from + more → IsPassed test (unwrap_or (slice_get keys i) key.Other)) →
      list_decision k p (take (from + more) members) test ≡ list_decision k p (take from members) test
  some_passed from zero passed = ap (λ n. list_decision k p (take n members) test) (add-zero from)
  some_passed from (suc more) passed =
      ap (λ n. list_decision k p (take n members) test) (let e : from + suc more ≡ (from + more) + 1 = omega arith in e)
      ∙ one_passed (from + more) (passed (from + more) (omega arith) (omega arith))
      ∙ some_passed from more (λ i l h. passed i l (omega (arith, h)))

  pub passed_between : (from to : ℕ) → from ≤ to → ((i : ℕ) → from ≤ i → i < to → IsPassed test (unwrap_or (slice_get keys i) key.Other)) →
      list_decision k p (take to members) test ≡ list_decision k p (take from members) test
  passed_between from to up passed =
      let whole : from + (to - from) ≡ to = omega (arith, up) in
      ap (λ n. list_decision k p (take n members) test) (sym whole)
      ∙ some_passed from (to - from) (λ i l h. passed i l (omega (arith, h, up)))
