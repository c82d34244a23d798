-- Where each user is among the found states, one state after the other.
use Rattle.std.proofs.Common.{◌≡◌, ◌<◌, ◌≤◌, ◌+◌, ◌∙◌, ℕ, zero, suc, Bool, true, false, not, cond, ◌&&◌, ◌==◌}
use Rattle.std.proofs.Common.{List, [], ◌∷◌, ◌++◌, ap, arith, refl, get_or, length, set, subst, sym, take}
use Rattle.std.proofs.Common.{Option, Some, None, ◌⊎◌, inl, inr}
use Rattle.std.specs.Prelude.{All, is_some, nat_lt, slice_get}
use Rattle.std.proofs.lemmas.Bool.{cases_lt, eq-eqb, lt-ltb, ltb-true, ne_eqb}
use Rattle.std.proofs.lemmas.List.{get_or-set_other, get_or-set_same, length-set, take_all}
use Rattle.std.proofs.lemmas.List.Elements.{All-push}
use Rattle.review_roots.specs.declared.search.Found.{Found}
use Rattle.review_roots.specs.declared.state.State.{State}
use Rattle.review_roots.specs.Body.Found.{AreStarts, AreStartsBefore, IsFoundAt, IsFoundBefore, with_start}
use Rattle.review_roots.specs.States.{is_start}
use Rattle.review_grants.proofs.ListSteps.{take-more}
use Rattle.review_roots.proofs.LoopLemmas.{there}

-- ---- No user is found

pub none-push : (starts : List (Option ℕ)) → ((user : ℕ) → get_or starts user None ≡ None) → (user : ℕ)
    → get_or (starts ++ None ∷ []) user None ≡ None
none-push [] none zero = refl
none-push [] none (suc user) = refl
none-push (o ∷ starts) none zero = none zero
none-push (o ∷ starts) none (suc user) = none-push starts (λ u. none (suc u)) user

pub none-before : (found : List Found) (starts : List (Option ℕ)) → ((user : ℕ) → get_or starts user None ≡ None)
    → AreStartsBefore found 0 starts
none-before found starts none user less = subst (IsFoundBefore found 0 user) (sym (none user)) (λ k f l. absurd (omega (arith, l)))

-- ---- One found state more

module _ (found : List Found) (n : ℕ) (f : Found) (within : n < length found) (is : f ≡ get_or found n f) where
  -- another user is not found by it
  widen : (user : ℕ) (o : Option ℕ) → is_start user f.state ≡ false → IsFoundBefore found n user o → IsFoundBefore found (n + 1) user o
  widen user None away so_far =
      subst (All (λ f. is_start user f.state ≡ false)) (sym (take-more found n f within is))
      (All-push (λ f. is_start user f.state ≡ false) (take n found) f so_far away)
  widen user (Some i) away so_far = so_far

  at-it : slice_get found n ≡ Some f
  at-it = there found n f within ∙ ap Some (sym is)

  other-user : (user : ℕ) → (f.state.user ≡ user → ⊥) → is_start user f.state ≡ false
  other-user user other = ap (λ b. b && not (is_some f.state.added)) (ne_eqb f.state.user user other)

  pub starts-next : (starts : List (Option ℕ)) → AreStartsBefore found n starts
      → AreStartsBefore found (n + 1) (with_start starts f.state n)
  starts-next starts so_far = go (not (is_some f.state.added)) refl (nat_lt f.state.user (length starts)) refl
    where
      put : not (is_some f.state.added) ≡ true → f.state.user < length starts
          → AreStartsBefore found (n + 1) (set starts f.state.user (Some n))
      put bare inside user less = at (cases_lt user f.state.user) (cases_lt f.state.user user)
        where
          less' : user < length starts
          less' = let e = length-set starts f.state.user (Some n) in omega (arith, less, e)

          away : (f.state.user ≡ user → ⊥) → IsFoundBefore found (n + 1) user (get_or (set starts f.state.user (Some n)) user None)
          away other = subst (IsFoundBefore found (n + 1) user)
              (sym (get_or-set_other starts f.state.user user (Some n) None (λ e. other (sym e))))
              (widen user (get_or starts user None) (other-user user other) (so_far user less'))

          here : f.state.user ≡ user → IsFoundBefore found (n + 1) user (get_or (set starts f.state.user (Some n)) user None)
          here e = subst (λ u. IsFoundBefore found (n + 1) u (get_or (set starts f.state.user (Some n)) u None)) e
              (subst (IsFoundBefore found (n + 1) f.state.user) (sym (get_or-set_same starts f.state.user (Some n) None inside)) (
                f,
                (at-it, ap (λ b. b && not (is_some f.state.added)) (eq-eqb f.state.user f.state.user refl) ∙ bare),
              ))

          at : (user < f.state.user) ⊎ (f.state.user ≤ user) → (f.state.user < user) ⊎ (user ≤ f.state.user)
              → IsFoundBefore found (n + 1) user (get_or (set starts f.state.user (Some n)) user None)
          at (inl l) m = away (λ e. absurd (omega (arith, l, e)))
          at (inr l) (inl m) = away (λ e. absurd (omega (arith, m, e)))
          at (inr l) (inr m) = here (omega (arith, l, m))

      keep : ((user : ℕ) → user < length starts → is_start user f.state ≡ false) → AreStartsBefore found (n + 1) starts
      keep away user less = widen user (get_or starts user None) (away user less) (so_far user less)

      bare-not : (b : Bool) → not b ≡ false → b ≡ true
      bare-not true e = refl
      bare-not false e = cc

      and-false : (b : Bool) → (b && false) ≡ false
      and-false true = refl
      and-false false = refl

      go :
          (b : Bool) → not (is_some f.state.added) ≡ b → (c : Bool) → nat_lt f.state.user (length starts) ≡ c →
          AreStartsBefore found (n + 1) (cond (not (is_some f.state.added) && nat_lt f.state.user (length starts))
          (set starts f.state.user (Some n)) starts)
      go true bare true inside =
          subst (λ d. AreStartsBefore found (n + 1) (cond d (set starts f.state.user (Some n)) starts))
          (sym (ap (λ b. b && nat_lt f.state.user (length starts)) bare ∙ inside))
          (put bare (ltb-true f.state.user (length starts) inside))
      go true bare false outside =
          subst (λ d. AreStartsBefore found (n + 1) (cond d (set starts f.state.user (Some n)) starts))
          (sym (ap (λ b. b && nat_lt f.state.user (length starts)) bare ∙ outside))
          (keep (λ user less. other-user user (λ e.
          let inside : nat_lt f.state.user (length starts) ≡ true = lt-ltb f.state.user (length starts) (omega (arith, less, e)) in
          let bad : true ≡ false = sym inside ∙ outside in
          cc)))
      go false added c is =
          subst (λ d. AreStartsBefore found (n + 1) (cond d (set starts f.state.user (Some n)) starts))
          (sym (ap (λ b. b && nat_lt f.state.user (length starts)) added))
          (keep (λ user less. ap (λ b. (f.state.user == user) && b) added ∙ and-false (f.state.user == user)))

pub starts-length : (starts : List (Option ℕ)) (s : State) (i : ℕ) → length (with_start starts s i) ≡ length starts
starts-length starts s i = go (not (is_some s.added) && nat_lt s.user (length starts))
  where
    go : (b : Bool) → length (cond b (set starts s.user (Some i)) starts) ≡ length starts
    go true = length-set starts s.user (Some i)
    go false = refl

-- all found states
pub starts-all : (found : List Found) (n : ℕ) (starts : List (Option ℕ)) → length found ≤ n → AreStartsBefore found n starts
    → AreStarts found starts
starts-all found n starts all so_far user less = go (get_or starts user None) (so_far user less)
  where
    go : (o : Option ℕ) → IsFoundBefore found n user o → IsFoundAt found user o
    go None none = subst (All (λ f. is_start user f.state ≡ false)) (take_all n found all) none
    go (Some i) at = at
