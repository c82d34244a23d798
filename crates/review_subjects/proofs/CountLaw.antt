-- The counts of the rows add up to the number of the answers that allow or deny.
use Rattle.std.proofs.Common.{◌≡◌, ℕ, ◌+◌, Bool, true, false, cond, ◌||◌, List, [], ◌∷◌, ◌++◌, map, refl, sym, ◌∙◌, ap, arith}
use Rattle.std.specs.Prelude.{count_by, sum}
use Rattle.std.specs.List.{list_any, list_all, sum_by}
use Rattle.std.proofs.lemmas.Bool.{and_parts, false≢true}
use Rattle.std.proofs.lemmas.List.Folds.{list_any-append}
use Rattle.std.proofs.lemmas.List.Sums.{sum_by-cons}
use Rattle.sudo_text.specs.declared.line.Place.{Place}
use Rattle.sudo_grammar.specs.declared.policy.Policy.{Policy}
use Rattle.sudo_match.specs.declared.request.Verdict.{Verdict}
use Rattle.sudo_match.specs.declared.request.Verdict.TheVariants.{Allow, Deny, NoMatch, Unknown}
use Rattle.review_grants.specs.Depends.{same_place}
use Rattle.review_subjects.specs.Counts.{firsts, allows_at, denies_at, rule_count, rule_places, verdicts}
use Rattle.review_subjects.proofs.EqualPlaces.{place_is, place_swap}
use Rattle.review_subjects.specs.Counts.{is_decided, is_of_rule, decided_at_row, CountsAddUp}

-- ---- A place stands once among the first ones

bits : (s c k a : Bool) (n m : ℕ) → (s ≡ true → c ≡ k) → n ≡ cond (k || (s || false)) 0 (cond a 1 0)
    → m ≡ cond c n (cond s 1 0 + n) → m ≡ cond k 0 (cond (s || a) 1 0)
bits true true true a n m h e f = f ∙ e
bits true true false a n m h e f = absurd (false≢true (sym (h refl)))
bits true false true a n m h e f = absurd (false≢true (h refl))
bits true false false a n m h e f = f ∙ ap (λ i. 1 + i) e
bits false true true a n m h e f = f ∙ e
bits false true false a n m h e f = f ∙ e
bits false false true a n m h e f = let z : 0 + n ≡ n = omega arith in f ∙ z ∙ e
bits false false false a n m h e f = let z : 0 + n ≡ n = omega arith in f ∙ z ∙ e

choose : (g : Place → Bool) (c : Bool) (x : Place) (xs : List Place)
    → count_by g (cond c xs (x ∷ xs)) ≡ cond c (count_by g xs) (cond (g x) 1 0 + count_by g xs)
choose g true x xs = refl
choose g false x xs = sum_by-cons (λ y. cond (g y) 1 0) x xs

nothing : (b : Bool) → ◌≡◌ {A = ℕ} 0 (cond b 0 0)
nothing true = refl
nothing false = refl

pub counted_once : (at : Place) (earlier xs : List Place)
    → count_by (λ q. same_place q at) (firsts earlier xs)
    ≡ cond (list_any (same_place at) earlier) 0 (cond (list_any (same_place at) xs) 1 0)
counted_once at earlier [] = nothing (list_any (same_place at) earlier)
counted_once at earlier (x ∷ xs) =
    let later : List Place = firsts (earlier ++ x ∷ []) xs in
    let g : Place → Bool = λ q. same_place q at in
    let ih : count_by g later
    ≡ cond (list_any (same_place at) earlier || (same_place at x || false)) 0 (cond (list_any (same_place at) xs) 1 0) =
    counted_once at (earlier ++ x ∷ []) xs
    ∙ ap (λ b. cond b 0 (cond (list_any (same_place at) xs) 1 0)) (list_any-append (same_place at) earlier (x ∷ [])) in
    bits (same_place at x) (list_any (same_place x) earlier) (list_any (same_place at) earlier) (list_any (same_place at) xs)
    (count_by g later) _
    (λ e. ap (λ y. list_any (same_place y) earlier) (sym (place_is at x e)))
    ih
    (choose g (list_any (same_place x) earlier) x later
    ∙ ap (λ b. cond (list_any (same_place x) earlier) (count_by g later) (cond b 1 0 + count_by g later)) (place_swap x at))

-- ---- Sums over the rows

sum_zero : (f : Place → ℕ) → ((q : Place) → f q ≡ 0) → (qs : List Place) → sum_by f qs ≡ 0
sum_zero f h [] = refl
sum_zero f h (q ∷ qs) =
    let one = sum_by-cons f q qs in
    let here = h q in
    let rest = sum_zero f h qs in
    omega arith

sum_add : (f g h : Place → ℕ) → ((q : Place) → h q ≡ f q + g q) → (qs : List Place) → sum_by h qs ≡ sum_by f qs + sum_by g qs
sum_add f g h e [] = refl
sum_add f g h e (q ∷ qs) =
    let a = sum_by-cons f q qs in
    let b = sum_by-cons g q qs in
    let c = sum_by-cons h q qs in
    let here = e q in
    let rest = sum_add f g h e qs in
    omega arith

sum_same : (f g : Place → ℕ) → ((q : Place) → f q ≡ g q) → (qs : List Place) → sum_by f qs ≡ sum_by g qs
sum_same f g h [] = refl
sum_same f g h (q ∷ qs) =
    let a = sum_by-cons f q qs in
    let b = sum_by-cons g q qs in
    let here = h q in
    let rest = sum_same f g h qs in
    omega arith

-- how much a verdict adds to the row of a place
weight : Verdict → Place → ℕ
weight v q = cond (allows_at q v) 1 0 + cond (denies_at q v) 1 0

decided_at : List Verdict → Place → ℕ
decided_at vs q = count_by (allows_at q) vs + count_by (denies_at q) vs

one_weight : (rp : List Place) (v : Verdict) → is_of_rule rp v ≡ true
    → sum_by (weight v) (firsts [] rp) ≡ cond (is_decided v) 1 0
unfolding weight
one_weight rp (Allow at tags) h =
    sum_same (weight (Allow at tags)) (λ q. cond (same_place q at) 1 0) (λ q. omega arith) (firsts [] rp)
    ∙ counted_once at [] rp ∙ ap (λ b. cond b 1 0) h
one_weight rp (Deny at) h =
    sum_same (weight (Deny at)) (λ q. cond (same_place q at) 1 0) (λ q. omega arith) (firsts [] rp)
    ∙ counted_once at [] rp ∙ ap (λ b. cond b 1 0) h
one_weight rp NoMatch h = sum_zero (weight NoMatch) (λ q. refl) (firsts [] rp)
one_weight rp (Unknown what) h = sum_zero (weight (Unknown what)) (λ q. refl) (firsts [] rp)

total : (rp : List Place) (vs : List Verdict) → list_all (is_of_rule rp) vs ≡ true
    → sum_by (decided_at vs) (firsts [] rp) ≡ count_by is_decided vs
unfolding decided_at weight
total rp [] h = sum_zero (decided_at []) (λ q. refl) (firsts [] rp)
total rp (v ∷ vs) h =
    let k = and_parts (is_of_rule rp v) (list_all (is_of_rule rp) vs) h in
    let each : (q : Place) → decided_at (v ∷ vs) q ≡ weight v q + decided_at vs q = λ q.
    let a = sum_by-cons (λ w. cond (allows_at q w) 1 0) v vs in
    let b = sum_by-cons (λ w. cond (denies_at q w) 1 0) v vs in
    omega arith in
    sum_add (weight v) (decided_at vs) (decided_at (v ∷ vs)) each (firsts [] rp)
    ∙ ap (λ n. n + sum_by (decided_at vs) (firsts [] rp)) (one_weight rp v k.0)
    ∙ ap (λ n. cond (is_decided v) 1 0 + n) (total rp vs k.1)
    ∙ sym (sum_by-cons (λ w. cond (is_decided w) 1 0) v vs)

of_rows : (p : Policy) (vs : List Verdict) (qs : List Place)
    → sum (map decided_at_row (map (rule_count p vs) qs)) ≡ sum_by (decided_at vs) qs
unfolding decided_at
of_rows p vs [] = refl
of_rows p vs (q ∷ qs) =
    sum_by-cons (λ n. n) (decided_at_row (rule_count p vs q)) (map decided_at_row (map (rule_count p vs) qs))
    ∙ ap (λ n. decided_at vs q + n) (of_rows p vs qs)
    ∙ sym (sum_by-cons (decided_at vs) q qs)

pub counts_add_up : CountsAddUp
counts_add_up p r h =
    of_rows p (verdicts r) (firsts [] (rule_places p)) ∙ total (rule_places p) (verdicts r) h
