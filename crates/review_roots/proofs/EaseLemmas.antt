-- A chain that asks for little has steps alone that ask for no more.
use Rattle.std.proofs.Common.{◌≡◌, ◌<◌, ◌≤◌, ◌∙◌, ◌⊎◌, ◌&&◌, ◌||◌, ℕ, Bool, true, false, cond, List, [], ◌∷◌, ap, arith, inl, inr}
use Rattle.std.proofs.Common.{Option, Some, None}
use Rattle.std.proofs.Common.{length, refl, sym}
use Rattle.std.specs.Prelude.{is_some, slice_get}
use Rattle.std.specs.List.{Contains}
use Rattle.std.proofs.lemmas.Bool.{cases_lt}
use Rattle.sudo_grammar.specs.declared.policy.Policy.{Policy}
use Rattle.sudo_match.specs.declared.people.Group.{Group}
use Rattle.sudo_match.specs.declared.people.Machine.{Machine}
use Rattle.sudo_match.specs.declared.people.Person.{Person}
use Rattle.sudo_match.specs.KnownRows.{KnownRows}
use Rattle.sudo_verdict.specs.Questions.{question_as}
use Rattle.sudo_verdict.specs.RunasForms.{is_same_user}
use Rattle.review_roots.specs.declared.given.Counted.{Counted}
use Rattle.review_roots.specs.declared.given.Counted.TheVariants as counted
use Rattle.review_roots.specs.declared.given.Given.{Given}
use Rattle.review_roots.specs.declared.host.HostSteps.{HostSteps}
use Rattle.review_roots.specs.declared.level.Level.{Level}
use Rattle.review_roots.specs.declared.level.Level.TheVariants as level
use Rattle.review_roots.specs.declared.state.State.{State}
use Rattle.review_roots.specs.declared.way.Password.{Password}
use Rattle.review_roots.specs.declared.way.Password.TheVariants as password
use Rattle.review_roots.specs.Asked.{better, given_alone, given_asked, is_better, nothing}
use Rattle.review_roots.specs.Chains.{HasNoPath, LeadsAlong, Steps}
use Rattle.review_grants.specs.Targets.{target_rows}
use Rattle.review_roots.specs.Ranks.{is_at_least}
use Rattle.review_roots.specs.Sought.{any_steps, free_steps, unasked_steps}
use Rattle.review_roots.specs.States.{given_between, group_at, level_for, person_of, steps_to}
use Rattle.review_roots.specs.Ways.{IsLeading, asked_by, password_rank, step_on, worse, worst_along}
use Rattle.review_roots.proofs.ChainLemmas.{chains-are-paths}
use Rattle.review_roots.proofs.PasswordLemmas.{free_is_unasked}
use Rattle.review_roots.proofs.SearchLemmas.{at-least-trans}

-- ---- A step that asks for none lets a command go unasked

abbrev Eases : Given → Type 0
Eases a = a.free ≡ true → a.unasked ≡ true

better-eases : (a b : Given) → Eases a → Eases b → Eases (better a b)
better-eases a b h k = go (is_better a b)
  where
    go : (c : Bool) → Eases (cond c b a)
    go true = k
    go false = h

alone-eases : (p : Policy) (d : KnownRows) (m : Machine) (u v : Person) (g : Option Group) → Eases (given_alone p d m u v g)
alone-eases p d m u v g = go (is_same_user v u && is_some g)
  where
    go : (c : Bool) → Eases (cond c (given_asked p d u m None g) nothing)
    go true = free_is_unasked p (target_rows p (question_as d u m None g))
    go false = λ e. cc

between-eases : (p : Policy) (d : KnownRows) (m : Machine) (u v : Option Person) (g : Option Group) → Eases (given_between p d m u v g)
between-eases p d m None v g = λ e. cc
between-eases p d m (Some u) None g = λ e. cc
between-eases p d m (Some u) (Some v) g =
    better-eases (given_asked p d u m (Some v) g) (given_alone p d m u v g)
    (free_is_unasked p (target_rows p (question_as d u m (Some v) g))) (alone-eases p d m u v g)

pub step-eases : (h : HostSteps) (s t : State) → (step_on h s t).free ≡ true → (step_on h s t).unasked ≡ true
step-eases h s t =
    between-eases h.checked.now h.directory.now h.host.now (person_of h.directory.now h.groups.now s)
    (slice_get h.directory.now.people t.user) (group_at h.groups.now t.added)

-- ---- The worse of two passwords asks for as much as each

worse-left : (p q : Password) → password_rank p ≤ password_rank (worse p q)
worse-left password.None q = omega arith
worse-left password.Maybe password.None = omega arith
worse-left password.Maybe password.Maybe = omega arith
worse-left password.Maybe password.Own = omega arith
worse-left password.Maybe password.Other = omega arith
worse-left password.Own password.None = omega arith
worse-left password.Own password.Maybe = omega arith
worse-left password.Own password.Own = omega arith
worse-left password.Own password.Other = omega arith
worse-left password.Other q = omega arith

worse-right : (p q : Password) → password_rank q ≤ password_rank (worse p q)
worse-right password.None q = omega arith
worse-right password.Maybe password.None = omega arith
worse-right password.Maybe password.Maybe = omega arith
worse-right password.Maybe password.Own = omega arith
worse-right password.Maybe password.Other = omega arith
worse-right password.Own password.None = omega arith
worse-right password.Own password.Maybe = omega arith
worse-right password.Own password.Own = omega arith
worse-right password.Own password.Other = omega arith
worse-right password.Other password.None = omega arith
worse-right password.Other password.Maybe = omega arith
worse-right password.Other password.Own = omega arith
worse-right password.Other password.Other = omega arith

pub worse-most : (p q : Password) (n : ℕ) → password_rank p ≤ n → password_rank q ≤ n → password_rank (worse p q) ≤ n
worse-most password.None q n a b = b
worse-most password.Maybe password.None n a b = a
worse-most password.Maybe password.Maybe n a b = b
worse-most password.Maybe password.Own n a b = b
worse-most password.Maybe password.Other n a b = b
worse-most password.Own password.None n a b = a
worse-most password.Own password.Maybe n a b = a
worse-most password.Own password.Own n a b = a
worse-most password.Own password.Other n a b = b
worse-most password.Other q n a b = a

-- ---- What a step is that asks for little

abbrev asks : Bool → Bool → Bool → Password
asks free unasked own =
    cond free password.None (cond unasked password.Maybe (cond own password.Own password.Other))

little-free : (f u o : Bool) → password_rank (asks f u o) ≤ 0 → f ≡ true
little-free true u o most = refl
little-free false true o most = absurd (omega (arith, most))
little-free false false true most = absurd (omega (arith, most))
little-free false false false most = absurd (omega (arith, most))

little-unasked : (f u o : Bool) → (f ≡ true → u ≡ true) → password_rank (asks f u o) ≤ 1 → u ≡ true
little-unasked true u o eases most = eases refl
little-unasked false true o eases most = refl
little-unasked false false true eases most = absurd (omega (arith, most))
little-unasked false false false eases most = absurd (omega (arith, most))

little-own : (f u o : Bool) → (f ≡ true → u ≡ true) → password_rank (asks f u o) ≤ 2 → (o || u) ≡ true
little-own f u true eases most = refl
little-own true u false eases most = eases refl
little-own false true false eases most = refl
little-own false false false eases most = absurd (omega (arith, most))

-- ---- Steps that count

-- what a step that counts is
abbrev Counts : Counted → Given → Type 0
Counts counted.Any a = Unit {0}
Counts counted.Unasked a = a.unasked ≡ true
Counts counted.Free a = a.free ≡ true

-- a step that counts has its level among all steps
pub counted-step :
    (k : Counted) (l : Level) (a : Given) → is_at_least level.Listed l ≡ true → is_at_least l (level_for k a) ≡ true →
    Counts k a × (is_at_least l a.level ≡ true)
counted-step k l a listed step = go k step
  where
    either : (b : Bool) → is_at_least l (cond b a.level level.None) ≡ true → (b ≡ true) × (is_at_least l a.level ≡ true)
    either true at = (refl, at)
    either false at = absurd
        (let bad : is_at_least level.Listed level.None ≡ true = at-least-trans level.Listed l level.None listed at in cc)

    go : (k : Counted) → is_at_least l (level_for k a) ≡ true → Counts k a × (is_at_least l a.level ≡ true)
    go counted.Any at = (tt, at)
    go counted.Unasked at = either a.unasked at
    go counted.Free at = either a.free at

-- the most that a chain of steps that count asks for
abbrev pub most_of : Counted → ℕ
most_of counted.Any = 3
most_of counted.Unasked = 1
most_of counted.Free = 0

asked-most : (f u o : Bool) → password_rank (asks f u o) ≤ 3
asked-most true u o = omega arith
asked-most false true o = omega arith
asked-most false false true = omega arith
asked-most false false false = omega arith

asked-free : (f u o : Bool) → f ≡ true → password_rank (asks f u o) ≤ 0
asked-free true u o e = omega arith
asked-free false u o e = cc

asked-unasked : (f u o : Bool) → u ≡ true → password_rank (asks f u o) ≤ 1
asked-unasked true u o e = omega arith
asked-unasked false true o e = omega arith
asked-unasked false false o e = cc

asked-own : (f u o : Bool) → o ≡ true → password_rank (asks f u o) ≤ 2
asked-own true u o e = omega arith
asked-own false true o e = omega arith
asked-own false false true e = omega arith
asked-own false false false e = cc

-- a step from one's own state asks for one's own password at most
pub own-most : (a : Given) (own : Bool) → own ≡ true → password_rank (asked_by a own) ≤ 2
own-most a own is = asked-own a.free a.unasked own is

module _ (h : HostSteps) (own : State → Bool) (target : ℕ) (l : Level) (listed : is_at_least level.Listed l ≡ true) where
  abbrev counted_steps : Counted → Steps State
  counted_steps k = steps_to h.checked.now h.directory.now h.host.now h.groups.now target k

  pub counted-leads : (k : Counted) (s : State) (chain : List State) → LeadsAlong (counted_steps k) l s chain
      → LeadsAlong (any_steps h target) l s chain
  counted-leads k s [] leads = leads
  counted-leads k s (t ∷ ts) leads = ((counted-step k l (step_on h s t) listed leads.0).1, counted-leads k t ts leads.1)

  step-asks : (k : Counted) (s t : State) → Counts k (step_on h s t) → password_rank (asked_by (step_on h s t) (own s)) ≤ most_of k
  step-asks counted.Any s t counts = let a = step_on h s t in asked-most a.free a.unasked (own s)
  step-asks counted.Unasked s t counts = let a = step_on h s t in asked-unasked a.free a.unasked (own s) counts
  step-asks counted.Free s t counts = let a = step_on h s t in asked-free a.free a.unasked (own s) counts

  -- a chain of steps that count asks for no more
  pub chain-asks-most :
      (k : Counted) (s : State) (chain : List State) → LeadsAlong (counted_steps k) l s chain
      → password_rank (worst_along h own s chain) ≤ most_of k
  chain-asks-most k s [] leads = omega arith
  chain-asks-most k s (t ∷ ts) leads =
      worse-most (asked_by (step_on h s t) (own s)) (worst_along h own t ts) (most_of k)
      (step-asks k s t (counted-step k l (step_on h s t) listed leads.0).0)
      (chain-asks-most k t ts leads.1)

-- ---- Chains that ask for little

module _ (h : HostSteps) (own : State → Bool) (target : ℕ) (l : Level) where
  -- the step counts, and so has its level
  counts : (b : Bool) (a : Given) → b ≡ true → is_at_least l a.level ≡ true → is_at_least l (cond b a.level level.None) ≡ true
  counts b a e at = ap (λ c. is_at_least l (cond c a.level level.None)) e ∙ at

  pub first-most : (s t : State) (ts : List State) (n : ℕ) → password_rank (worst_along h own s (t ∷ ts)) ≤ n
      → password_rank (asked_by (step_on h s t) (own s)) ≤ n
  first-most s t ts n most =
      let less = worse-left (asked_by (step_on h s t) (own s)) (worst_along h own t ts) in omega (arith, most, less)

  pub rest-most : (s t : State) (ts : List State) (n : ℕ) → password_rank (worst_along h own s (t ∷ ts)) ≤ n
      → password_rank (worst_along h own t ts) ≤ n
  rest-most s t ts n most =
      let less = worse-right (asked_by (step_on h s t) (own s)) (worst_along h own t ts) in omega (arith, most, less)

  free-leads :
      (s : State) (ts : List State) → LeadsAlong (any_steps h target) l s ts → password_rank (worst_along h own s ts) ≤ 0 →
      LeadsAlong (free_steps h target) l s ts
  free-leads s [] leads most = leads
  free-leads s (t ∷ ts) leads most =
      let a = step_on h s t in (
        counts a.free a (little-free a.free a.unasked (own s) (first-most s t ts 0 most)) leads.0,
        free-leads t ts leads.1 (rest-most s t ts 0 most),
      )

  unasked-leads :
      (s : State) (ts : List State) → LeadsAlong (any_steps h target) l s ts → password_rank (worst_along h own s ts) ≤ 1 →
      LeadsAlong (unasked_steps h target) l s ts
  unasked-leads s [] leads most = leads
  unasked-leads s (t ∷ ts) leads most =
      let a = step_on h s t in (
        counts a.unasked a (little-unasked a.free a.unasked (own s) (step-eases h s t) (first-most s t ts 1 most)) leads.0,
        unasked-leads t ts leads.1 (rest-most s t ts 1 most),
      )

  -- a chain that asks for no more than steps that count is one of these
  pub little-leads :
      (k : Counted) (s : State) (ts : List State) → LeadsAlong (any_steps h target) l s ts →
      password_rank (worst_along h own s ts) ≤ most_of k →
      LeadsAlong (steps_to h.checked.now h.directory.now h.host.now h.groups.now target k) l s ts
  little-leads counted.Any s ts leads most = leads
  little-leads counted.Unasked s ts leads most = unasked-leads s ts leads most
  little-leads counted.Free s ts leads most = free-leads s ts leads most

  -- a step from another state that asks for one's own password at most may go without a password
  pub step-unasked :
      (s t : State) → own s ≡ false → password_rank (asked_by (step_on h s t) (own s)) ≤ 2 → is_at_least l (step_on h s t).level ≡ true →
      is_at_least l (cond (step_on h s t).unasked (step_on h s t).level level.None) ≡ true
  step-unasked s t away most step =
      let a = step_on h s t in
      counts a.unasked a
      (ap (λ o. o || a.unasked) (sym away) ∙ little-own a.free a.unasked (own s) (step-eases h s t) most) step

  -- a chain asks for a password, where none of the level goes without one
  pub asks-perhaps :
      (s : State) → Contains (any_steps h target).states s → HasNoPath (free_steps h target) l s → (ts : List State) →
      IsLeading h target l s ts → 1 ≤ password_rank (worst_along h own s ts)
  asks-perhaps s inside none ts leading = go (cases_lt 0 (password_rank (worst_along h own s ts)))
    where
      go : (0 < password_rank (worst_along h own s ts)) ⊎ (password_rank (worst_along h own s ts) ≤ 0)
          → 1 ≤ password_rank (worst_along h own s ts)
      go (inl more) = omega (arith, more)
      go (inr most) = absurd (none (length ts)
          (chains-are-paths State (free_steps h target) l s ts inside leading.inside (free-leads s ts leading.leads most)))

  pub asks-always :
      (s : State) → Contains (any_steps h target).states s → HasNoPath (unasked_steps h target) l s → (ts : List State) →
      IsLeading h target l s ts → 2 ≤ password_rank (worst_along h own s ts)
  asks-always s inside none ts leading = go (cases_lt 1 (password_rank (worst_along h own s ts)))
    where
      go : (1 < password_rank (worst_along h own s ts)) ⊎ (password_rank (worst_along h own s ts) ≤ 1)
          → 2 ≤ password_rank (worst_along h own s ts)
      go (inl more) = omega (arith, more)
      go (inr most) = absurd (none (length ts)
          (chains-are-paths State (unasked_steps h target) l s ts inside leading.inside (unasked-leads s ts leading.leads most)))
