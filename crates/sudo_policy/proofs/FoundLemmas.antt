-- A policy has one list of findings.
use Rattle.std.proofs.Common.{◌≡◌, ℕ, suc, Bool, true, false, List, [], ◌∷◌, map, length, Some, refl, sym, ◌∙◌, ap, arith, inl, inr, ◌⊎◌}
use Rattle.std.specs.Prelude.{slice_get, IsTrue}
use Rattle.std.specs.List.{items_where_true}
use Rattle.sudo_policy.specs.declared.finding.Finding.{Finding}
use Rattle.sudo_grammar.specs.declared.policy.Policy.{Policy}
use Rattle.sudo_policy.specs.Definitions.{AliasDefinition, aliases}
use Rattle.sudo_policy.specs.Found.{Marks, AreFindings, found_by}
use Rattle.sudo_policy.proofs.StateLemmas.{get_within, within_get}

-- two lists with the same elements
pub same_lists : {X : Type 0} (xs ys : List X) → length xs ≡ length ys → ((i : ℕ) (x y : X) → slice_get xs i ≡ Some x
    → slice_get ys i ≡ Some y → x ≡ y) → xs ≡ ys
same_lists [] [] long same = refl
same_lists [] (y ∷ ys) long same = absurd (omega (arith, long))
same_lists (x ∷ xs) [] long same = absurd (omega (arith, long))
same_lists (x ∷ xs) (y ∷ ys) long same =
    ap (λ z. z ∷ xs) (same 0 x y refl refl) ∙ ap (λ zs. y ∷ zs) (same_lists xs ys (omega (arith, long)) (λ i. same (suc i)))

same_bools : (a b : Bool) → (IsTrue a → IsTrue b) → (IsTrue b → IsTrue a) → a ≡ b
same_bools true true f g = refl
same_bools true false f g = let e = f refl in cc
same_bools false true f g = let e = g refl in cc
same_bools false false f g = refl

-- one fact has one list of marks
pub Marks-same : (T : AliasDefinition → Type 0) (ds : List AliasDefinition) (a b : List Bool) → Marks T ds a → Marks T ds b → a ≡ b
Marks-same T ds a b m n = same_lists a b (m.same_length ∙ sym n.same_length) each
  where
    each : (i : ℕ) (x y : Bool) → slice_get a i ≡ Some x → slice_get b i ≡ Some y → x ≡ y
    each i x y at_a at_b =
        let inside = within_get a i x at_a in
        let long = m.same_length in
        let d = get_within ds i (omega (arith, inside, long)) in
        let f = m.exact i d.0 x d.1 at_a in
        let g = n.exact i d.0 y d.1 at_b in
        same_bools x y (λ h. g.1 (f.0 h)) (λ h. f.1 (g.0 h))

-- two lists of findings of one policy are the same
pub AreFindings-same : (p : Policy) (f g : List Finding) → AreFindings p f → AreFindings p g → f ≡ g
AreFindings-same p f g a b =
    let c = Marks-same _ (aliases p) a.cyclic b.cyclic a.cyclic_are b.cyclic_are in
    let d = Marks-same _ (aliases p) a.deep b.deep a.deep_are b.deep_are in
    let w = Marks-same _ (aliases p) a.wide b.wide a.wide_are b.wide_are in
    let u = Marks-same _ (aliases p) a.unused b.unused a.unused_are b.unused_are in
    a.list
    ∙ ap (λ x. found_by p x a.deep a.wide a.unused) c
    ∙ ap (λ x. found_by p b.cyclic x a.wide a.unused) d
    ∙ ap (λ x. found_by p b.cyclic b.deep x a.unused) w
    ∙ ap (λ x. found_by p b.cyclic b.deep b.wide x) u
    ∙ sym b.list

-- nothing is picked where one of the lists is empty
pub none_picked : {X Y : Type 0} (f : X → Y) (marks : List Bool) (xs : List X) → (length xs ≡ 0) ⊎ (length marks ≡ 0)
    → items_where_true marks (map f xs) ≡ []
none_picked f [] xs h = refl
none_picked f (m ∷ ms) [] h = refl
none_picked f (m ∷ ms) (x ∷ xs) h = elim h [ inl e ↦ absurd (omega (arith, e)) | inr e ↦ absurd (omega (arith, e)) ]
