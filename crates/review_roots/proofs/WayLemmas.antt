-- The chain of a found state leads to the goal, and its steps ask for the passwords that are named.
use Rattle.std.proofs.Common.{◌≡◌, ◌∙◌, ◌+◌, ◌⊎◌, ◌||◌, ℕ, Bool, true, false, List, []}
use Rattle.std.proofs.Common.{◌∷◌, ◌++◌, ap, append-nil, append_assoc, inl, inr, refl}
use Rattle.std.proofs.Common.{arith, length, length-append, sym, subst}
use Rattle.std.proofs.Common.{Some, None}
use Rattle.std.specs.Prelude.{slice_get}
use Rattle.review_grants.specs.declared.marks.Marks.{Marks}
use Rattle.review_grants.specs.Depends.{joined_marks, unmarked}
use Rattle.review_grants.proofs.NotedLemmas.{same-marks}
use Rattle.review_roots.specs.declared.given.Given.{Given}
use Rattle.review_roots.specs.declared.host.HostSteps.{HostSteps}
use Rattle.review_roots.specs.declared.level.Level.{Level}
use Rattle.review_roots.specs.declared.search.Found.{Found}
use Rattle.review_roots.specs.declared.state.State.{State}
use Rattle.review_roots.specs.declared.way.Password.{Password}
use Rattle.review_roots.specs.declared.way.Password.TheVariants as password
use Rattle.review_roots.specs.Chains.{Steps, LeadsAlong}
use Rattle.review_roots.specs.Body.Found.{AreGiven, AreLinked, IsGiven, IsLinked}
use Rattle.review_roots.specs.Body.Passing.{HasMarks, HasPassword, HasRow, LeadsWhole}
use Rattle.review_roots.specs.Ranks.{is_at_least}
use Rattle.review_roots.specs.Ways.{first_row, marks_along, worse, step_password, step_on, password_along}
use Rattle.review_roots.proofs.EffectLemmas.{joined-none}

-- the chain so far, behind which any chain from the state reached leads on; and how many steps are left
abbrev pub LeadsSoFar : List Found → ℕ → ℕ → List State → Type 0
LeadsSoFar found index at chain =
    (g : Steps State) (l : Level) (f t : Found) → AreLinked g l found → slice_get found index ≡ Some f → slice_get found at ≡ Some t →
    ((rest : List State) → LeadsAlong g l t.state rest → LeadsAlong g l f.state (chain ++ rest)) × (f.steps ≡ length chain + t.steps)

pub leads-first : (found : List Found) (index : ℕ) → LeadsSoFar found index index []
leads-first found index g l f t linked first now =
    let is : Some f ≡ Some t = sym first ∙ now in
    let same : f ≡ t = cc in (
      λ rest leads. subst (λ (t : Found). LeadsAlong g l t.state rest) (sym same) leads,
      ap (λ (t : Found). t.steps) same ∙ (let e : t.steps ≡ 0 + t.steps = omega arith in e),
    )

pub leads-more :
    (found : List Found) (index at next : ℕ) (chain : List State) (a b : Found) → slice_get found at ≡ Some a → a.next ≡ Some next →
    slice_get found next ≡ Some b → LeadsSoFar found index at chain → LeadsSoFar found index next (chain ++ b.state ∷ [])
leads-more found index at next chain a b here is there so_far g l f t linked first now =
    let old = so_far g l f a linked first here in
    let link = subst (IsLinked g l found at a) is (linked at a here) in
    let e : Some b ≡ Some link.0 = sym there ∙ link.1.there in
    let same : b ≡ link.0 = cc in
    let e' : Some b ≡ Some t = sym there ∙ now in
    let same' : b ≡ t = cc in
    let step : is_at_least l (g.level a.state b.state) ≡ true =
    ap (λ (t : Found). is_at_least l (g.level a.state t.state)) same ∙ link.1.step in
    let fewer : a.steps ≡ t.steps + 1 = link.1.steps ∙ ap (λ (t : Found). t.steps + 1) (sym same ∙ same') in
    let longer = length-append chain (b.state ∷ []) in
    let one : length (b.state ∷ []) ≡ 1 = refl in
    let whole = old.1 in (
      λ rest leads. subst (LeadsAlong g l f.state) (sym (append_assoc chain (b.state ∷ []) rest))
          (old.0 (b.state ∷ rest) (step, subst (λ (t : Found). LeadsAlong g l t.state rest) (sym same') leads)),
      omega (arith, whole, fewer, longer, one),
    )

pub leads-all :
    (found : List Found) (index at : ℕ) (chain : List State) (a : Found) → slice_get found at ≡ Some a → a.next ≡ None
    → LeadsSoFar found index at chain →
    LeadsWhole found index chain
leads-all found index at chain a here is so_far g l f linked first =
    let old = so_far g l f a linked first here in
    let goal = subst (IsLinked g l found at a) is (linked at a here) in (
      subst (LeadsAlong g l f.state) (append-nil chain) (old.0 [] goal.0),
      (let whole = old.1 in let none = goal.1 in omega (arith, whole, none)),
    )

-- ---- Passwords

pub worse-none : (p : Password) → worse p password.None ≡ p
worse-none password.None = refl
worse-none password.Maybe = refl
worse-none password.Own = refl
worse-none password.Other = refl

worse-assoc : (p q r : Password) → worse (worse p q) r ≡ worse p (worse q r)
worse-assoc password.None q r = refl
worse-assoc password.Other q r = refl
worse-assoc p password.None r = ap (λ a. worse a r) (worse-none p)
worse-assoc password.Maybe password.Maybe password.None = refl
worse-assoc password.Maybe password.Maybe password.Maybe = refl
worse-assoc password.Maybe password.Maybe password.Own = refl
worse-assoc password.Maybe password.Maybe password.Other = refl
worse-assoc password.Maybe password.Own password.None = refl
worse-assoc password.Maybe password.Own password.Maybe = refl
worse-assoc password.Maybe password.Own password.Own = refl
worse-assoc password.Maybe password.Own password.Other = refl
worse-assoc password.Maybe password.Other r = refl
worse-assoc password.Own password.Maybe password.None = refl
worse-assoc password.Own password.Maybe password.Maybe = refl
worse-assoc password.Own password.Maybe password.Own = refl
worse-assoc password.Own password.Maybe password.Other = refl
worse-assoc password.Own password.Own password.None = refl
worse-assoc password.Own password.Own password.Maybe = refl
worse-assoc password.Own password.Own password.Own = refl
worse-assoc password.Own password.Own password.Other = refl
worse-assoc password.Own password.Other r = refl

-- whose passwords the steps so far ask for, behind which any chain from the state reached leads on
abbrev pub AsksSoFar : List Found → ℕ → ℕ → ℕ → List State → Password → Type 0
AsksSoFar found user index at chain password =
    (h : HostSteps) (f t : Found) → AreGiven h found → slice_get found index ≡ Some f → slice_get found at ≡ Some t →
    (rest : List State) → password_along h user f.state (chain ++ rest) ≡ worse password (password_along h user t.state rest)

pub asks-first : (found : List Found) (user index : ℕ) → AsksSoFar found user index index [] password.None
asks-first found user index h f t given first now rest =
    let is : Some f ≡ Some t = sym first ∙ now in
    let same : f ≡ t = cc in
    ap (λ (t : Found). password_along h user t.state rest) same

-- the step of a found state gives what is kept with it
step-gives :
    (h : HostSteps) (found : List Found) (at next : ℕ) (a b : Found) → AreGiven h found → slice_get found at ≡ Some a → a.next ≡ Some next →
    slice_get found next ≡ Some b → a.given ≡ step_on h a.state b.state
step-gives h found at next a b given here is there =
    let gives = subst (IsGiven h found a) is (given at a here) in
    let e : Some b ≡ Some gives.0 = sym there ∙ gives.1.0 in
    let same : b ≡ gives.0 = cc in
    gives.1.1 ∙ ap (λ (t : Found). step_on h a.state t.state) (sym same)

pub asks-more :
    (found : List Found) (user index at next : ℕ) (chain : List State) (password : Password) (a b : Found) → slice_get found at ≡ Some a →
    a.next ≡ Some next → slice_get found next ≡ Some b → AsksSoFar found user index at chain password →
    AsksSoFar found user index next (chain ++ b.state ∷ []) (worse password (step_password a.given user a.state))
asks-more found user index at next chain password a b here is there so_far h f t given first now rest =
    let e : Some b ≡ Some t = sym there ∙ now in
    let same : b ≡ t = cc in
    ap (password_along h user f.state) (append_assoc chain (b.state ∷ []) rest)
    ∙ so_far h f a given first here (b.state ∷ rest)
    ∙ sym (worse-assoc password (step_password (step_on h a.state b.state) user a.state) (password_along h user b.state rest))
    ∙ ap (λ g. worse (worse password (step_password g user a.state)) (password_along h user b.state rest))
    (sym (step-gives h found at next a b given here is there))
    ∙ ap (λ (t : Found). worse (worse password (step_password a.given user a.state)) (password_along h user t.state rest)) same

pub asks-all :
    (found : List Found) (user index at : ℕ) (chain : List State) (password : Password) (a : Found) → slice_get found at ≡ Some a →
    AsksSoFar found user index at chain password → HasPassword found user index chain password
asks-all found user index at chain password a here so_far h f given first =
    sym (ap (password_along h user f.state) (sym (append-nil chain)) ∙ so_far h f a given first here [] ∙ worse-none password)

-- ---- The row that allows the first step

-- there is no step so far, or the row of the first one is that which is kept
abbrev pub RowSoFar : List Found → ℕ → ℕ → List State → Type 0
RowSoFar found index at chain =
    ((at ≡ index) × (chain ≡ []))
    ⊎ ((h : HostSteps) (f : Found) → AreGiven h found → slice_get found index ≡ Some f → (rest : List State) → f.given.by
    ≡ first_row h f.state (chain ++ rest))

pub row-first : (found : List Found) (index : ℕ) → RowSoFar found index index []
row-first found index = inl (refl, refl)

pub row-more :
    (found : List Found) (index at next : ℕ) (chain : List State) (a b : Found) → slice_get found at ≡ Some a → a.next ≡ Some next →
    slice_get found next ≡ Some b → RowSoFar found index at chain → RowSoFar found index next (chain ++ b.state ∷ [])
row-more found index at next chain a b here is there (inl none) =
    inr (λ h f given first rest.
    let e : Some a ≡ Some f = sym here ∙ ap (slice_get found) none.0 ∙ first in
    let same : a ≡ f = cc in
    ap (λ (f : Found). f.given.by) (sym same)
    ∙ ap (λ (g : Given). g.by) (step-gives h found at next a b given here is there)
    ∙ ap (λ (f : Found). first_row h f.state (b.state ∷ rest)) same
    ∙ ap (λ (c : List State). first_row h f.state ((c ++ b.state ∷ []) ++ rest)) (sym none.1))
row-more found index at next chain a b here is there (inr so_far) =
    inr (λ h f given first rest.
    so_far h f given first (b.state ∷ rest)
    ∙ ap (first_row h f.state) (sym (append_assoc chain (b.state ∷ []) rest)))

pub row-all :
    (found : List Found) (index at : ℕ) (chain : List State) (a : Found) → slice_get found at ≡ Some a → a.next ≡ None →
    RowSoFar found index at chain → HasRow found index chain
row-all found index at chain a here is (inl none) h f given first =
    let e : Some a ≡ Some f = sym here ∙ ap (slice_get found) none.0 ∙ first in
    let same : a ≡ f = cc in
    ap (λ (g : Given). g.by) (subst (IsGiven h found f) (ap (λ (f : Found). f.next) (sym same) ∙ is) (given index f first))
    ∙ ap (first_row h f.state) (sym none.1)
row-all found index at chain a here is (inr so_far) h f given first =
    so_far h f given first [] ∙ ap (first_row h f.state) (append-nil chain)

-- ---- Notes

joined-assoc : (a b c : Marks) → joined_marks (joined_marks a b) c ≡ joined_marks a (joined_marks b c)
joined-assoc a b c =
    same-marks (joined_marks (joined_marks a b) c) (joined_marks a (joined_marks b c))
    (or-assoc a.digest b.digest c.digest) (or-assoc a.time b.time c.time) (or-assoc a.chroot b.chroot c.chroot)
    (or-assoc a.regex b.regex c.regex)
  where
    or-assoc : (x y z : Bool) → ((x || y) || z) ≡ (x || (y || z))
    or-assoc true y z = refl
    or-assoc false y z = refl

-- which notes the steps so far depend on, behind which any chain from the state reached leads on
abbrev pub MarksSoFar : List Found → ℕ → ℕ → List State → Marks → Type 0
MarksSoFar found index at chain marks =
    (h : HostSteps) (f t : Found) → AreGiven h found → slice_get found index ≡ Some f → slice_get found at ≡ Some t →
    (rest : List State) → marks_along h f.state (chain ++ rest) ≡ joined_marks marks (marks_along h t.state rest)

pub marks-first : (found : List Found) (index : ℕ) → MarksSoFar found index index [] unmarked
marks-first found index h f t given first now rest =
    let is : Some f ≡ Some t = sym first ∙ now in
    let same : f ≡ t = cc in
    ap (λ (t : Found). marks_along h t.state rest) same

pub marks-more :
    (found : List Found) (index at next : ℕ) (chain : List State) (marks : Marks) (a b : Found) → slice_get found at ≡ Some a →
    a.next ≡ Some next → slice_get found next ≡ Some b → MarksSoFar found index at chain marks →
    MarksSoFar found index next (chain ++ b.state ∷ []) (joined_marks marks a.given.marks)
marks-more found index at next chain marks a b here is there so_far h f t given first now rest =
    let e : Some b ≡ Some t = sym there ∙ now in
    let same : b ≡ t = cc in
    ap (marks_along h f.state) (append_assoc chain (b.state ∷ []) rest)
    ∙ so_far h f a given first here (b.state ∷ rest)
    ∙ sym (joined-assoc marks (step_on h a.state b.state).marks (marks_along h b.state rest))
    ∙ ap (λ g. joined_marks (joined_marks marks g.marks) (marks_along h b.state rest))
    (sym (step-gives h found at next a b given here is there))
    ∙ ap (λ (t : Found). joined_marks (joined_marks marks a.given.marks) (marks_along h t.state rest)) same

pub marks-all :
    (found : List Found) (index at : ℕ) (chain : List State) (marks : Marks) (a : Found) → slice_get found at ≡ Some a →
    MarksSoFar found index at chain marks → HasMarks found index chain marks
marks-all found index at chain marks a here so_far h f given first =
    sym (ap (marks_along h f.state) (sym (append-nil chain)) ∙ so_far h f a given first here [] ∙ joined-none marks)
