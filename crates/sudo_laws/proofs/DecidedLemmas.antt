-- What is decided of the items of a list, and of steps from item to item.
use Rattle.std.proofs.Common.{◌≡◌, ℕ, zero, suc, ◌+◌, ◌<◌, ◌≤◌, Bool, true, false, not, List, [], ◌∷◌, refl, sym, ◌∙◌}
use Rattle.std.proofs.Common.{ap, subst, None, Some, Contains, inl, inr, ◌⊎◌, arith}
use Rattle.std.specs.Prelude.{bytes_eq}
use Rattle.std.specs.Cmp.Lexicographic.{bytes_decides}
use Rattle.std.proofs.lemmas.Bool.{cases_lt, false≢true}
use Rattle.std.proofs.lemmas.List.Elements.{Contains-append_cases, Contains-append_left, Contains-append_right}
use Rattle.sudo_policy.proofs.MarkingLemmas.{is_one, none_in, one_in}

pub some_is : {A : Type 0} {a b : A} → Some a ≡ Some b → a ≡ b
some_is e = cc

pub none_some : {A : Type 0} {a : A} → None ≡ Some a → ⊥
none_some e = cc

-- it holds, or it does not
abbrev pub Decided : Type 0 → Type 0
Decided P = P ⊎ (P → ⊥)

pub decided_both : {P Q : Type 0} → Decided P → Decided Q → Decided (P × Q)
decided_both (inl h) (inl k) = inl (h, k)
decided_both (inl h) (inr none) = inr (λ b. none b.1)
decided_both (inr none) k = inr (λ b. none b.0)

pub decided_either : {P Q : Type 0} → Decided P → Decided Q → Decided (P ⊎ Q)
decided_either (inl h) k = inl (inl h)
decided_either (inr none) (inl k) = inl (inr k)
decided_either {P = P} {Q = Q} (inr none) (inr other) = inr neither
  where
    neither : P ⊎ Q → ⊥
    neither (inl h) = none h
    neither (inr k) = other k

pub decided_not : {P : Type 0} → Decided P → Decided (P → ⊥)
decided_not (inl h) = inr (λ none. none h)
decided_not (inr none) = inl none

pub decided_as : {P Q : Type 0} → (P → Q) → (Q → P) → Decided P → Decided Q
decided_as to back (inl h) = inl (to h)
decided_as to back (inr none) = inr (λ q. none (back q))

pub decided_true : (b : Bool) → Decided (b ≡ true)
decided_true true = inl refl
decided_true false = inr (λ e. false≢true e)

pub decided_name : (a b : List ℕ) → Decided (a ≡ b)
decided_name a b = decided_as (bytes_decides a b).0 (bytes_decides a b).1 (decided_true (bytes_eq a b))

pub decided_less_or_same : (a b : ℕ) → Decided (a ≤ b)
decided_less_or_same a b = elim (cases_lt b a) [ inl less ↦ inr (λ h. omega (arith, less, h)) | inr more ↦ inl more ]

-- ---- The least number

below_or_last : (i n : ℕ) → i < suc n → (i < n) ⊎ (i ≡ n)
below_or_last i n lt = elim (cases_lt i n) [ inl less ↦ inl less | inr more ↦ inr (omega (arith, lt, more)) ]

-- the least number below n of which P holds, or of none it does
pub least_below : (P : ℕ → Type 0) → ((k : ℕ) → Decided (P k)) → (n : ℕ)
    → ((k : ℕ) × (k < n) × P k × ((i : ℕ) → i < k → P i → ⊥)) ⊎ ((i : ℕ) → i < n → P i → ⊥)
least_below P each zero = inr (λ i lt h. omega (arith, lt))
least_below P each (suc n) = elim (least_below P each n) [
  | inl found ↦ (let less = found.1 in inl (found.0, omega (arith, less), found.2, found.3))
  | inr none ↦
      (elim (each n) [
        | inl here ↦ inl (n, omega arith, here, none)
        | inr not ↦ inr (λ i lt h. (elim (below_or_last i n lt) [ inl less ↦ none i less h | inr same ↦ not (subst P same h) ]))
      ])
]

-- ---- Some item

pub first_in : {X : Type 0} (x : X) (xs : List X) → Contains (x ∷ xs) x
first_in x xs = Contains-append_left (x ∷ []) xs x (is_one x)

pub later_in : {X : Type 0} (y : X) (xs : List X) (x : X) → Contains xs x → Contains (y ∷ xs) x
later_in y xs x h = Contains-append_right (y ∷ []) xs x h

pub decided_some : {X : Type 0} (P : X → Type 0) → ((x : X) → Decided (P x)) → (xs : List X) → Decided ((x : X) × Contains xs x × P x)
decided_some P each [] = inr (λ h. none_in h.0 h.1)
decided_some P each (y ∷ ys) = elim (each y) [
  | inl here ↦ inl (y, first_in y ys, here)
  | inr not ↦
      (elim (decided_some P each ys) [
        | inl later ↦ inl (later.0, later_in y ys later.0 later.1, later.2)
        | inr none ↦ inr (λ h. (elim (Contains-append_cases (y ∷ []) ys h.0 h.1) [
          | inl first ↦ not (subst P (sym (one_in y h.0 first)) h.2)
          | inr rest ↦ none (h.0, rest, h.2)
        ]))
      ])
]

-- ---- Steps from item to item

module _ {X : Type 0} (Edge : X → X → Type 0) where
  -- one edge, or several, with these items alone between them
  abbrev pub Way : List X → X → X → Type 0
  Way [] a b = Edge a b
  Way (v ∷ vs) a b = Way vs a b ⊎ (Way vs a v × Way vs v b)

  pub decided_way : ((a b : X) → Decided (Edge a b)) → (vs : List X) (a b : X) → Decided (Way vs a b)
  decided_way each [] a b = each a b
  decided_way each (v ∷ vs) a b =
      decided_either (decided_way each vs a b) (decided_both (decided_way each vs a v) (decided_way each vs v b))

  pub edge_way : (vs : List X) (a b : X) → Edge a b → Way vs a b
  edge_way [] a b h = h
  edge_way (v ∷ vs) a b h = inl (edge_way vs a b h)

  -- two ways, one after the other, where they meet at an item that may be between
  before_meeting : (vs : List X) (v a b : X) → v ≡ b → Way (v ∷ vs) a b → Way vs a v
  before_meeting vs v a b same (inl way) = subst (Way vs a) (sym same) way
  before_meeting vs v a b same (inr ways) = ways.0

  behind_meeting : (vs : List X) (v b c : X) → v ≡ b → Way (v ∷ vs) b c → Way vs v c
  behind_meeting vs v b c same (inl way) = subst (λ x. Way vs x c) (sym same) way
  behind_meeting vs v b c same (inr ways) = ways.1

  met_within : (vs : List X) (v a b c : X) → ((x z : X) → Way vs x b → Way vs b z → Way vs x z)
      → Way (v ∷ vs) a b → Way (v ∷ vs) b c → Way (v ∷ vs) a c
  met_within vs v a b c both (inl first) (inl second) = inl (both a c first second)
  met_within vs v a b c both (inl first) (inr second) = inr (both a v first second.0, second.1)
  met_within vs v a b c both (inr first) (inl second) = inr (first.0, both v c first.1 second)
  met_within vs v a b c both (inr first) (inr second) = inr (first.0, second.1)

  pub way_way : (vs : List X) (a b c : X) → Contains vs b → Way vs a b → Way vs b c → Way vs a c
  way_way [] a b c among first second = absurd (none_in b among)
  way_way (v ∷ vs) a b c among first second = elim (Contains-append_cases (v ∷ []) vs b among) [
    | inl here ↦ inr (before_meeting vs v a b (one_in v b here) first, behind_meeting vs v b c (one_in v b here) second)
    | inr within ↦ met_within vs v a b c (λ x z. way_way vs x b z within) first second
  ]

-- ---- Tests that hold of more and more items

abbrev unless : Bool → ℕ
unless true = 0
unless false = 1

-- the number of items of which it does not hold
abbrev missing : {X : Type 0} → (X → Bool) → List X → ℕ
missing test [] = 0
missing test (x ∷ xs) = unless (test x) + missing test xs

unless_more : (b c : Bool) → (b ≡ true → c ≡ true) → unless c ≤ unless b
unless_more true true more = omega arith
unless_more true false more = absurd (false≢true (more refl))
unless_more false true more = omega arith
unless_more false false more = omega arith

missing_more : {X : Type 0} (f g : X → Bool) → ((x : X) → f x ≡ true → g x ≡ true) → (xs : List X) → missing g xs ≤ missing f xs
missing_more f g more [] = omega arith
missing_more f g more (x ∷ xs) =
    let here = unless_more (f x) (g x) (more x) in
    let rest = missing_more f g more xs in
    omega (arith, here, rest)

missing_less : {X : Type 0} (f g : X → Bool) → ((x : X) → f x ≡ true → g x ≡ true) → (xs : List X) (x : X) → Contains xs x
    → f x ≡ false → g x ≡ true → missing g xs < missing f xs
missing_less f g more [] x among fails holds = absurd (none_in x among)
missing_less f g more (y ∷ ys) x among fails holds = elim (Contains-append_cases (y ∷ []) ys x among) [
  | inl here ↦
      (let one : unless (f y) ≡ 1 = ap unless (ap f (one_in y x here) ∙ fails) in
      let none : unless (g y) ≡ 0 = ap unless (ap g (one_in y x here) ∙ holds) in
      let rest = missing_more f g more ys in
      omega (arith, one, none, rest))
  | inr within ↦
      (let first = unless_more (f y) (g y) (more y) in
      let rest = missing_less f g more ys x within fails holds in
      omega (arith, first, rest))
]

module _ {X : Type 0} (test : ℕ → X → Bool) (grows : (n : ℕ) (x : X) → test n x ≡ true → test (suc n) x ≡ true) (xs : List X) where
  -- the next test holds of no further item
  abbrev pub IsFull : ℕ → Type 0
  IsFull n = (x : X) → Contains xs x → test (suc n) x ≡ true → test n x ≡ true

  abbrev IsNew : ℕ → X → Type 0
  IsNew n x = (test (suc n) x ≡ true) × (test n x ≡ false)

  decided_new : (n : ℕ) (x : X) → Decided (IsNew n x)
  decided_new n x =
      decided_both (decided_true (test (suc n) x))
      (decided_as (λ h. no (test n x) h) (λ h. ap not h) (decided_true (not (test n x))))
    where
      no : (b : Bool) → not b ≡ true → b ≡ false
      no true h = absurd (false≢true h)
      no false h = refl

  full_from : (n : ℕ) → (((x : X) × Contains xs x × IsNew n x) → ⊥) → IsFull n
  full_from n none x among next = by (test n x) refl
    where
      by : (b : Bool) → test n x ≡ b → test n x ≡ true
      by true is = is
      by false is = absurd (none (x, among, (next, is)))

  full_within : (left n : ℕ) → missing (test n) xs ≤ left → (m : ℕ) × IsFull m
  full_within zero n few = elim (decided_some (IsNew n) (decided_new n) xs) [
    | inl found ↦
        (let less = missing_less (test n) (test (suc n)) (grows n) xs found.0 found.1 found.2.1 found.2.0 in
        absurd (omega (arith, few, less)))
    | inr none ↦ (n, full_from n none)
  ]
  full_within (suc left) n few = elim (decided_some (IsNew n) (decided_new n) xs) [
    | inl found ↦
        (let less = missing_less (test n) (test (suc n)) (grows n) xs found.0 found.1 found.2.1 found.2.0 in
        full_within left (suc n) (omega (arith, few, less)))
    | inr none ↦ (n, full_from n none)
  ]

  -- from some number on the tests hold of the same items
  pub full_at_last : (m : ℕ) × IsFull m
  full_at_last = full_within (missing (test 0) xs) 0 (omega arith)
