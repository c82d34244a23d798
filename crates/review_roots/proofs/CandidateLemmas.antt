-- The candidates of states, one state after the other.
use Rattle.std.proofs.Common.{◌≡◌, ◌<◌, ◌∙◌, ◌==◌, ◌&&◌, ◌||◌, ℕ, zero, suc, Bool, true, false, List, [], ◌∷◌, ◌++◌, ap, arith, refl}
use Rattle.std.proofs.Common.{length, subst, sym, Option, Some, None}
use Rattle.std.specs.List.{Contains, slice_index_or}
use Rattle.std.proofs.lemmas.Bool.{and_parts, eq-eqb, eqb-true}
use Rattle.std.proofs.lemmas.List.{map-append}
use Rattle.std.proofs.lemmas.List.Elements.{All-push, All-weaker, Contains-append_left, Contains-push}
use Rattle.sudo_grammar.specs.declared.policy.Policy.{Policy}
use Rattle.sudo_match.specs.declared.people.Group.{Group}
use Rattle.sudo_match.specs.KnownRows.{KnownRows}
use Rattle.review_roots.specs.declared.block.Block.{Block}
use Rattle.review_roots.specs.declared.candidate.Candidate.{Candidate}
use Rattle.review_roots.specs.declared.level.Level.{Level}
use Rattle.review_roots.specs.declared.state.State.{State}
use Rattle.review_roots.specs.Body.Candidates.{AreCandidates, IsSilent, Qualifies, has_state, same_added, same_state, states_of}
use Rattle.review_roots.proofs.SearchLemmas.{contains-cons, contains-head}

-- ---- States that are among others

added-is : (a b : Option ℕ) → same_added a b ≡ true → a ≡ b
added-is None None e = refl
added-is (Some i) (Some k) e = ap Some (eqb-true i k e)
added-is None (Some k) e = cc
added-is (Some i) None e = cc

added-itself : (a : Option ℕ) → same_added a a ≡ true
added-itself None = refl
added-itself (Some i) = eq-eqb i i refl

same-is : (s t : State) → same_state s t ≡ true → s ≡ t
same-is s t e =
    let both = and_parts (s.user == t.user) (same_added s.added t.added) e in
    ap (λ u. record { user = u; added = s.added }) (eqb-true s.user t.user both.0)
    ∙ ap (λ a. record { user = t.user; added = a }) (added-is s.added t.added both.1)

same-itself : (s : State) → same_state s s ≡ true
same-itself s = ap (λ b. b && same_added s.added s.added) (eq-eqb s.user s.user refl) ∙ added-itself s.added

pub has-in : (states : List State) (s : State) → has_state states s ≡ true → Contains states s
has-in [] s e = cc
has-in (t ∷ ts) s e = go (same_state s t) refl e (has-in ts s)
  where
    go : (b : Bool) → same_state s t ≡ b → (b || has_state ts s) ≡ true → (has_state ts s ≡ true → Contains ts s) → Contains (t ∷ ts) s
    go true is e rest = contains-head t ts s (sym (same-is s t is))
    go false is e rest = contains-cons t ts s (rest e)

pub in-has : (states : List State) (s : State) → Contains states s → has_state states s ≡ true
in-has states s h = at states h.0 h.1 h.2
  where
    or-true : (b : Bool) → (b || true) ≡ true
    or-true true = refl
    or-true false = refl

    at : (states : List State) (k : ℕ) → k < length states → slice_index_or states k s ≡ s → has_state states s ≡ true
    at [] k l e = absurd (omega (arith, l))
    at (t ∷ ts) zero l e = ap (λ b. b || has_state ts s) (ap (same_state s) e ∙ same-itself s)
    at (t ∷ ts) (suc k) l e = ap (λ b. same_state s t || b) (at ts k (omega (arith, l)) e) ∙ or-true (same_state s t)

-- ---- One state more

module _ (p : Policy) (d : KnownRows) (groups : List Group) (least : Level) (bs : List Block) where
  pub gathered-none : AreCandidates p d groups least bs [] []
  gathered-none = record {
    known = λ k c l. absurd (omega (arith, l));
    inside = λ k c l. absurd (omega (arith, l));
    covered = λ k s l. absurd (omega (arith, l));
  }

  module _ (before : List State) (cs : List Candidate) (so_far : AreCandidates p d groups least bs before cs) (s : State) where
    further : (t : State) → has_state before t ≡ true → has_state (before ++ s ∷ []) t ≡ true
    further t h = in-has (before ++ s ∷ []) t (Contains-append_left before (s ∷ []) t (has-in before t h))

    pub gathered-more : (c : Candidate) → (c.state ≡ s) × Qualifies p d groups least bs c
        → AreCandidates p d groups least bs (before ++ s ∷ []) (cs ++ c ∷ [])
    gathered-more c is = record {
      known = All-push (Qualifies p d groups least bs) cs c so_far.known is.1;
      inside = All-push (λ c. has_state (before ++ s ∷ []) c.state ≡ true) cs c
          (All-weaker (λ c. has_state before c.state ≡ true) (λ c. has_state (before ++ s ∷ []) c.state ≡ true) (λ c. further c.state) cs
          so_far.inside)
          (subst (λ t. has_state (before ++ s ∷ []) t ≡ true) (sym is.0) (in-has (before ++ s ∷ []) s (Contains-push before s)));
      covered = All-push (λ s. has_state (states_of (cs ++ c ∷ [])) s ≡ false → IsSilent p d groups least bs s) before s
          (All-weaker (λ s. has_state (states_of cs) s ≡ false → IsSilent p d groups least bs s)
          (λ s. has_state (states_of (cs ++ c ∷ [])) s ≡ false → IsSilent p d groups least bs s)
          (λ t silent none. silent (narrow t none (has_state (states_of cs) t) refl)) before so_far.covered)
          (λ none. absurd (let bad : true ≡ false = sym (in-has (states_of (cs ++ c ∷ [])) s there) ∙ none in cc));
    }
      where
        grown : states_of (cs ++ c ∷ []) ≡ states_of cs ++ c.state ∷ []
        grown = map-append (λ (c : Candidate). c.state) cs (c ∷ [])

        there : Contains (states_of (cs ++ c ∷ [])) s
        there = subst (λ xs. Contains xs s) (sym grown)
            (subst (Contains (states_of cs ++ c.state ∷ [])) is.0 (Contains-push (states_of cs) c.state))

        narrow : (t : State) → has_state (states_of (cs ++ c ∷ [])) t ≡ false → (b : Bool) → has_state (states_of cs) t ≡ b
            → has_state (states_of cs) t ≡ false
        narrow t none false e = e
        narrow t none true e =
            absurd (let bad : true ≡ false = sym (in-has (states_of (cs ++ c ∷ [])) t
            (subst (λ xs. Contains xs t) (sym grown) (Contains-append_left (states_of cs) (c.state ∷ []) t
            (has-in (states_of cs) t e)))) ∙ none in cc)

    pub gathered-same : IsSilent p d groups least bs s → AreCandidates p d groups least bs (before ++ s ∷ []) cs
    gathered-same silent = record {
      known = so_far.known;
      inside = All-weaker (λ c. has_state before c.state ≡ true) (λ c. has_state (before ++ s ∷ []) c.state ≡ true)
          (λ c. further c.state) cs so_far.inside;
      covered = All-push (λ s. has_state (states_of cs) s ≡ false → IsSilent p d groups least bs s) before s so_far.covered
          (λ none. silent);
    }
