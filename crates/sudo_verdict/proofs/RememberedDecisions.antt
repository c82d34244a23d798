-- Numbers of names, and remembered decisions of aliases.
use Rattle.std.proofs.Common.{◌≡◌, ℕ, zero, suc, ◌+◌, ◌<◌, Bool, true, false, cond, List, [], ◌∷◌, ◌++◌, Option, Some}
use Rattle.std.proofs.Common.{None, refl, sym, ◌∙◌, ap, arith, ◌⊎◌, inl, inr}
use Rattle.std.specs.Prelude.{slice_get, bytes_eq, IfSome, replicate}
use Rattle.std.proofs.lemmas.Slice.Eq.{bytes_eq-Decides}
use Rattle.sudo_base.specs.NameIndices.{index_of}
use Rattle.sudo_base.proofs.IndexLemmas.{index_of-append}
use Rattle.sudo_base.proofs.Options.{some_injective}
use Rattle.sudo_grammar.specs.declared.kind.Kind.{Kind}
use Rattle.sudo_grammar.specs.declared.kind.Atom.{Atom}
use Rattle.sudo_grammar.specs.declared.kind.Member.{Member}
use Rattle.sudo_grammar.specs.declared.policy.Policy.{Policy}
use Rattle.sudo_policy.specs.Definitions.{in_force}
use Rattle.sudo_verdict.specs.declared.decision.Decision.{Decision}
use Rattle.sudo_verdict.specs.Decided.{list_decision}
use Rattle.sudo_verdict.specs.Body.Recalling.{IsNumbering, number_in, Recalls, HasOneNamePerNumber}

-- ---- Numbers

pub numbering_none : IsNumbering [] 0
numbering_none = record { below = λ a n e. absurd (cc); apart = λ a b n e f. absurd (cc) }

added :
    (names : List (List ℕ × ℕ)) (count : ℕ) (name a : List ℕ) (n : ℕ) → index_of names name ≡ None
    → index_of (names ++ (name, count) ∷ []) a ≡ Some n →
    ((a ≡ name) × (n ≡ count)) ⊎ (index_of names a ≡ Some n)
added names count name a n none e = go (bytes_eq a name) refl (sym (index_of-append names name count a none) ∙ e)
  where
    go : (b : Bool) → bytes_eq a name ≡ b → cond (bytes_eq a name) (Some count) (index_of names a) ≡ Some n
        → ((a ≡ name) × (n ≡ count)) ⊎ (index_of names a ≡ Some n)
    go true f g = inl (
      (bytes_eq-Decides a name).0 f,
      sym (some_injective _ _ (sym (ap (λ b. cond b (Some count) (index_of names a)) f) ∙ g)),
    )
    go false f g = inr (sym (ap (λ b. cond b (Some count) (index_of names a)) f) ∙ g)

pub numbering_more :
    (names more : List (List ℕ × ℕ)) (count next : ℕ) (name : List ℕ) → IsNumbering names count → index_of names name ≡ None →
    more ≡ names ++ (name, count) ∷ [] → next ≡ count + 1 → IsNumbering more next
numbering_more names more count next name is none same up = record {
  below = λ a n e. under n (added names count name a n none (ap (λ l. index_of l a) (sym same) ∙ e)) (is.below a n);
  apart = λ a b n e f.
      one a b n (added names count name a n none (ap (λ l. index_of l a) (sym same) ∙ e))
      (added names count name b n none (ap (λ l. index_of l b) (sym same) ∙ f));
}
  where
    under : {a : List ℕ} (n : ℕ) → ((a ≡ name) × (n ≡ count)) ⊎ (index_of names a ≡ Some n)
        → (index_of names a ≡ Some n → n < count) → n < next
    under n (inl e) h = omega (arith, e.1, up)
    under n (inr e) h = let l = h e in omega (arith, l, up)

    one : (a b : List ℕ) (n : ℕ) → ((a ≡ name) × (n ≡ count)) ⊎ (index_of names a ≡ Some n)
        → ((b ≡ name) × (n ≡ count)) ⊎ (index_of names b ≡ Some n) → a ≡ b
    one a b n (inl e) (inl f) = e.0 ∙ sym f.0
    one a b n (inl e) (inr f) = absurd (let l = is.below b n f in omega (arith, l, e.1))
    one a b n (inr e) (inl f) = absurd (let l = is.below a n e in omega (arith, l, f.1))
    one a b n (inr e) (inr f) = is.apart a b n e f

-- ---- Remembered decisions

pub recalls_nothing : (k : Kind) (p : Policy) (names : Option (List (List ℕ × ℕ))) (test : Atom
    → Bool) (slots : List (Option (Option Decision))) →
    ((n : ℕ) (o : Option Decision) → slice_get slots n ≡ Some (Some o) → ⊥) → Recalls k p names test slots
recalls_nothing k p names test slots empty name n ds o e f g = absurd (empty n o f)

pub recalls_more :
    (k : Kind) (p : Policy) (names : Option (List (List ℕ × ℕ))) (test : Atom
    → Bool) (old new : List (Option (Option Decision))) (name : List ℕ)
    (ds : List Member) (found : Option Decision) → HasOneNamePerNumber names → Recalls k p names test old
    → in_force k p name ≡ Some ds → found ≡ list_decision k p ds test →
    ((n : ℕ) (o : Option Decision) → slice_get new n ≡ Some (Some o) → (slice_get old n ≡ Some (Some o))
    ⊎ ((number_in names name ≡ Some n) × (o ≡ found))) →
    Recalls k p names test new
recalls_more k p names test old new name ds found apart recalls is same kept other n others o e f g = go (kept n o f)
  where
    go : (slice_get old n ≡ Some (Some o)) ⊎ ((number_in names name ≡ Some n) × (o ≡ found)) → o ≡ list_decision k p others test
    go (inl before) = recalls other n others o e before g
    go (inr here) =
        let one : other ≡ name = apart other name n e here.0 in
        let list : Some others ≡ Some ds = sym g ∙ ap (in_force k p) one ∙ is in
        here.1 ∙ same ∙ ap (λ l. list_decision k p l test) (sym (some_injective _ _ list))

pub recalled :
    (k : Kind) (p : Policy) (names : Option (List (List ℕ × ℕ))) (test : Atom
    → Bool) (slots : List (Option (Option Decision))) (name : List ℕ) (ds : List Member)
    (number : Option ℕ) (o : Option Decision) → Recalls k p names test slots → in_force k p name ≡ Some ds → number ≡ number_in names name →
    IfSome number (λ n. slice_get slots n ≡ Some (Some o)) → (number ≡ None → ⊥) → o ≡ list_decision k p ds test
recalled k p names test slots name ds (Some n) o recalls is numbered there some = recalls name n ds o (sym numbered) there is
recalled k p names test slots name ds None o recalls is numbered there some = absurd (some refl)

pub some-none : {X : Type 0} (x : X) → Some x ≡ None → ⊥
some-none x e = cc

-- the same of a number that is known otherwise
pub numbered-as : {X : Type 0} (P : Type 0) (a b : Option ℕ) (n : Option ℕ) → {x y : X} → a ≡ b
    → P ⊎ ((a ≡ n) × (x ≡ y)) → P ⊎ ((b ≡ n) × (x ≡ y))
numbered-as P a b n same (inl p) = inl p
numbered-as P a b n same (inr e) = inr (sym same ∙ e.0, e.1)

-- nothing is remembered at the start
pub empty-slots : (m n : ℕ) (o : Option Decision) → slice_get (replicate m None) n ≡ Some (Some o) → ⊥
empty-slots zero zero o e = cc
empty-slots zero (suc n) o e = cc
empty-slots (suc m) zero o e = cc
empty-slots (suc m) (suc n) o e = empty-slots m n o e
