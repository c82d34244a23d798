-- The counts of the arrivals of answered jobs, from the sources.
use Rattle.std.proofs.Common.{◌≡◌, ◌⊎◌, ℕ, zero, suc, ◌+◌, Bool, true, false, cond, ◌&&◌, ◌==◌, List, [], ◌∷◌, ◌++◌}
use Rattle.std.proofs.Common.{length, map, flat_map, replicate, Option, None, Some, Ok, Err, nat_lt, count_by}
use Rattle.std.proofs.Common.{IsPermutation, sym, ap, subst, ◌∙◌, refl, inl, inr, arith}
use Rattle.std.specs.Prelude.{option_to_list}
use Rattle.std.proofs.lemmas.List.{map-append}
use Rattle.audit_collect.specs.declared.arrival.Arrival.{Arrival}
use Rattle.audit_collect.specs.declared.arrival.Arrival.TheVariants.{Reply, Close}
use Rattle.audit_collect.specs.Faults.{is_reply, is_close, is_close_below}
use Rattle.audit_collect.proofs.Members.{Among, Among-append, Among-left, Among-right, Among-permutation}
use Rattle.audit_collect.proofs.Members.{count_by-append, count_by-cons, count_by-permutation}
use Rattle.audit_run.specs.declared.message.Job.{Job}
use Rattle.audit_run.specs.declared.message.Job.TheVariants as job
use Rattle.audit_run.specs.declared.message.Names.{Names}
use Rattle.audit_run.specs.declared.message.Outcome.{Outcome}
use Rattle.audit_run.specs.declared.message.Outcome.TheVariants as outcome
use Rattle.audit_run.specs.Names.{answer, answer_to}
use Rattle.sudo_match.specs.declared.request.Request.{Request}
use Rattle.audit_run.specs.Arrivals.{arrivals_of}
use Rattle.audit_run.specs.Asked.{counts_in, counts_of, has_number, values_of_sender, requests_stated, times_asked}
use Rattle.audit_run.specs.Parts.{Stated, close_jobs, put_by_sources, jobs_or_end, run_jobs}
use Rattle.audit_run.proofs.Gains.{arrivals_of-append}

-- the test, of the arrivals among outcomes
abbrev passes : (Arrival → Bool) → Outcome → Bool
passes p (outcome.Arrived a) = p a
passes p (outcome.End s) = false
passes p outcome.Stopped = false

count_arrivals : (p : Arrival → Bool) (xs : List Outcome) → count_by p (arrivals_of xs) ≡ count_by (passes p) xs
count_arrivals p [] = refl
count_arrivals p (outcome.Arrived a ∷ xs) = count_by-cons p a (arrivals_of xs)
    ∙ ap (λ n. cond (p a) 1 0 + n) (count_arrivals p xs) ∙ sym (count_by-cons (passes p) (outcome.Arrived a) xs)
count_arrivals p (outcome.End s ∷ xs) =
    let one = count_by-cons (passes p) (outcome.End s) xs in
    let rest = count_arrivals p xs in
    omega (arith, one, rest)
count_arrivals p (outcome.Stopped ∷ xs) =
    let one = count_by-cons (passes p) outcome.Stopped xs in
    let rest = count_arrivals p xs in
    omega (arith, one, rest)

-- what the arrivals count does not depend on the order of the outcomes
pub count_same : (p : Arrival → Bool) (xs ys : List Outcome) → IsPermutation xs ys
    → count_by p (arrivals_of ys) ≡ count_by p (arrivals_of xs)
count_same p xs ys same = count_arrivals p ys ∙ count_by-permutation (passes p) xs ys same ∙ sym (count_arrivals p xs)

among_outcome : (a : Arrival) (xs : List Outcome) → Among a (arrivals_of xs) → Among (outcome.Arrived a) xs
among_outcome a [] m = absurd m
among_outcome a (outcome.Arrived b ∷ xs) (inl e) = inl (ap outcome.Arrived e)
among_outcome a (outcome.Arrived b ∷ xs) (inr m) = inr (among_outcome a xs m)
among_outcome a (outcome.End s ∷ xs) m = inr (among_outcome a xs m)
among_outcome a (outcome.Stopped ∷ xs) m = inr (among_outcome a xs m)

among_arrival : (a : Arrival) (xs : List Outcome) → Among (outcome.Arrived a) xs → Among a (arrivals_of xs)
among_arrival a [] m = absurd m
among_arrival a (outcome.Arrived b ∷ xs) (inl e) = inl (let same : b ≡ a = cc in same)
among_arrival a (outcome.Arrived b ∷ xs) (inr m) = inr (among_arrival a xs m)
among_arrival a (outcome.End s ∷ xs) (inl e) = absurd (cc)
among_arrival a (outcome.End s ∷ xs) (inr m) = among_arrival a xs m
among_arrival a (outcome.Stopped ∷ xs) (inl e) = absurd (cc)
among_arrival a (outcome.Stopped ∷ xs) (inr m) = among_arrival a xs m

pub among_same : (a : Arrival) (xs ys : List Outcome) → IsPermutation xs ys → Among a (arrivals_of xs) → Among a (arrivals_of ys)
among_same a xs ys same m = among_arrival a ys (Among-permutation (outcome.Arrived a) xs ys same (among_outcome a xs m))

-- what is in a list for each element
pub record AmongOf {X Y : Type 0} (f : X → List Y) (xs : List X) (y : Y) : Type 0 where
  pub item : X
  pub there : Among item xs
  pub of : Among y (f item)

pub among_flat : {X Y : Type 0} (f : X → List Y) (xs : List X) (y : Y) → Among y (flat_map f xs) → AmongOf f xs y
among_flat f [] y m = absurd m
among_flat {X} {Y} f (x ∷ xs) y m = by (Among-append y (f x) (flat_map f xs) m) (among_flat f xs y)
  where
    by : Among y (f x) ⊎ Among y (flat_map f xs) → (Among y (flat_map f xs) → AmongOf f xs y) → AmongOf f (x ∷ xs) y
    by (inl m) rest = record { item = x; there = inl refl; of = m }
    by (inr m) rest = let found = rest m in record { item = found.item; there = inr found.there; of = found.of }

pub flat_among : {X Y : Type 0} (f : X → List Y) (xs : List X) (x : X) (y : Y) → Among x xs → Among y (f x) → Among y (flat_map f xs)
flat_among f [] x y m n = absurd m
flat_among f (z ∷ xs) x y (inl e) n = Among-left y (f z) (flat_map f xs) (subst (λ w. Among y (f w)) (sym e) n)
flat_among f (z ∷ xs) x y (inr m) n = Among-right y (f z) (flat_map f xs) (flat_among f xs x y m n)

-- where each element counts alike, all do
count_flat : {X Y Z : Type 0} (p : Y → Bool) (f : X → List Y) (q : Z → Bool) (g : X → List Z)
    → ((x : X) → count_by p (f x) ≡ count_by q (g x)) → (xs : List X) → count_by p (flat_map f xs) ≡ count_by q (flat_map g xs)
count_flat p f q g each [] = refl
count_flat p f q g each (x ∷ xs) =
    let here = each x in
    let rest = count_flat p f q g each xs in
    let left = count_by-append p (f x) (flat_map f xs) in
    let right = count_by-append q (g x) (flat_map g xs) in
    omega (arith, here, rest, left, right)

module _ (names : Names) where
  -- the arrivals of a source: its replies, and its close mark
  abbrev pub state_arrivals : ℕ → Stated → List Arrival
  state_arrivals sender (Ok requests) = map (λ r. Reply (answer_to names sender r)) requests.list
      ++ map (λ c. Close sender c) (option_to_list requests.close)
  state_arrivals sender (Err fault) = []

  abbrev pub part_arrivals : ℕ × Stated → List Arrival
  part_arrivals part = state_arrivals part.0 part.1

  asks_then : (s : ℕ) (requests : List Request) (rest : List Job)
      → arrivals_of (map (answer names) (map (λ r. job.Ask s r) requests ++ rest)) ≡ map
      (λ r. Reply (answer_to names s r)) requests ++ arrivals_of (map (answer names) rest)
  asks_then s [] rest = refl
  asks_then s (r ∷ requests) rest = ap (λ l. Reply (answer_to names s r) ∷ l) (asks_then s requests rest)

  close_then : (s : ℕ) (close : Option ℕ) → arrivals_of (map (answer names) (close_jobs s close ++ job.End s ∷ []))
      ≡ map (λ c. Close s c) (option_to_list close)
  close_then s None = refl
  close_then s (Some c) = refl

  put_arrivals : (s : ℕ) (state : Stated) → arrivals_of (map (answer names) (jobs_or_end s state)) ≡ state_arrivals s state
  put_arrivals s (Ok requests) =
      asks_then s requests.list (close_jobs s requests.close ++ job.End s ∷ [])
      ∙ ap (λ l. map (λ r. Reply (answer_to names s r)) requests.list ++ l) (close_then s requests.close)
  put_arrivals s (Err fault) = refl

  sources_arrivals : (parts : List (ℕ × Stated)) → arrivals_of (map (answer names) (put_by_sources parts)) ≡ flat_map part_arrivals parts
  sources_arrivals [] = refl
  sources_arrivals (part ∷ parts) =
      ap arrivals_of (map-append (answer names) (jobs_or_end part.0 part.1) (put_by_sources parts))
      ∙ arrivals_of-append (map (answer names) (jobs_or_end part.0 part.1)) (map (answer names) (put_by_sources parts))
      ∙ ap (λ l. l ++ arrivals_of (map (answer names) (put_by_sources parts))) (put_arrivals part.0 part.1)
      ∙ ap (λ l. part_arrivals part ++ l) (sources_arrivals parts)

  stops_then : (workers : ℕ) (rest : List Job) → arrivals_of (map (answer names) (replicate workers job.Stop ++ rest))
      ≡ arrivals_of (map (answer names) rest)
  stops_then zero rest = refl
  stops_then (suc workers) rest = stops_then workers rest

  -- the arrivals of all jobs of a run are those of its sources
  pub jobs_arrivals : (workers : ℕ) (parts : List (ℕ × Stated))
      → arrivals_of (map (answer names) (run_jobs workers parts)) ≡ flat_map part_arrivals parts
  jobs_arrivals workers parts = stops_then workers (put_by_sources parts) ∙ sources_arrivals parts

  -- a source's replies
  no_reply_in_closes : (s t n : ℕ) (counts : List ℕ) → count_by (is_reply s n) (map (λ c. Close t c) counts) ≡ 0
  no_reply_in_closes s t n [] = refl
  no_reply_in_closes s t n (c ∷ counts) =
      let one = count_by-cons (is_reply s n) (Close t c) (map (λ c. Close t c) counts) in
      let rest = no_reply_in_closes s t n counts in
      omega (arith, one, rest)

  own_replies : (s t n : ℕ) → (t == s) ≡ true → (requests : List Request)
      → count_by (is_reply s n) (map (λ r. Reply (answer_to names t r)) requests) ≡ count_by (has_number n) requests
  own_replies s t n own [] = refl
  own_replies s t n own (r ∷ requests) =
      let one = count_by-cons (is_reply s n) (Reply (answer_to names t r))
      (map (λ r. Reply (answer_to names t r)) requests)
      ∙ ap (λ b. cond (b && (r.number == n)) 1 0 + count_by (is_reply s n) (map (λ r. Reply (answer_to names t r)) requests)) own in
      let other = count_by-cons (has_number n) r requests in
      let rest = own_replies s t n own requests in
      omega (arith, one, other, rest)

  others_replies : (s t n : ℕ) → (t == s) ≡ false → (requests : List Request)
      → count_by (is_reply s n) (map (λ r. Reply (answer_to names t r)) requests) ≡ 0
  others_replies s t n other [] = refl
  others_replies s t n other (r ∷ requests) =
      let one = count_by-cons (is_reply s n) (Reply (answer_to names t r))
      (map (λ r. Reply (answer_to names t r)) requests)
      ∙ ap (λ b. cond (b && (r.number == n)) 1 0 + count_by (is_reply s n) (map (λ r. Reply (answer_to names t r)) requests)) other in
      let rest = others_replies s t n other requests in
      omega (arith, one, rest)

  part_replies : (s n : ℕ) (part : ℕ × Stated) → count_by (is_reply s n) (part_arrivals part) ≡ count_by
      (has_number n) (values_of_sender s requests_stated part)
  part_replies s n (t, Err fault) = by (t == s)
    where
      by : (b : Bool) → 0 ≡ count_by (has_number n) (cond b [] [])
      by true = refl
      by false = refl
  part_replies s n (t, Ok requests) =
      let sum = count_by-append (is_reply s n) (map (λ r. Reply (answer_to names t r)) requests.list)
      (map (λ c. Close t c) (option_to_list requests.close)) in
      let closes = no_reply_in_closes s t n (option_to_list requests.close) in
      let both : count_by (is_reply s n) (state_arrivals t (Ok requests)) ≡ count_by (is_reply s n)
      (map (λ r. Reply (answer_to names t r)) requests.list) = omega (arith, sum, closes) in
      both ∙ by (t == s) refl
    where
      by : (b : Bool) → (t == s) ≡ b → count_by (is_reply s n) (map (λ r. Reply (answer_to names t r)) requests.list)
          ≡ count_by (has_number n) (cond b requests.list [])
      by true own = own_replies s t n own requests.list
      by false other = others_replies s t n other requests.list

  -- how often a reply is among the arrivals of the sources is how often it is asked for
  pub replies_counted : (s n : ℕ) (parts : List (ℕ × Stated))
      → count_by (is_reply s n) (flat_map part_arrivals parts) ≡ times_asked s n parts
  replies_counted s n parts = count_flat (is_reply s n) part_arrivals (has_number n)
      (values_of_sender s requests_stated) (part_replies s n) parts

  -- a test of close marks: of a sender, and by the count
  module _ (p : Arrival → Bool) (s : ℕ) (q : ℕ → Bool) (reply : (t : ℕ) (r : Request)
      → p (Reply (answer_to names t r)) ≡ false) (close : (t c : ℕ) → p (Close t c) ≡ ((t == s) && q c)) where
    no_replies : (t : ℕ) (requests : List Request) → count_by p (map (λ r. Reply (answer_to names t r)) requests) ≡ 0
    no_replies t [] = refl
    no_replies t (r ∷ requests) =
        let one = count_by-cons p (Reply (answer_to names t r)) (map (λ r. Reply (answer_to names t r)) requests)
        ∙ ap (λ b. cond b 1 0 + count_by p (map (λ r. Reply (answer_to names t r)) requests)) (reply t r) in
        let rest = no_replies t requests in
        omega (arith, one, rest)

    closes_by : (t : ℕ) (b : Bool) → (t == s) ≡ b → (counts : List ℕ)
        → count_by p (map (λ c. Close t c) counts) ≡ count_by q (cond b counts [])
    closes_by t true own [] = refl
    closes_by t true own (c ∷ counts) =
        let one = count_by-cons p (Close t c) (map (λ c. Close t c) counts)
        ∙ ap (λ b. cond b 1 0 + count_by p (map (λ c. Close t c) counts)) (close t c ∙ ap (λ b. b && q c) own) in
        let other = count_by-cons q c counts in
        let rest = closes_by t true own counts in
        omega (arith, one, other, rest)
    closes_by t false other [] = refl
    closes_by t false other (c ∷ counts) =
        let one = count_by-cons p (Close t c) (map (λ c. Close t c) counts)
        ∙ ap (λ b. cond b 1 0 + count_by p (map (λ c. Close t c) counts)) (close t c ∙ ap (λ b. b && q c) other) in
        let rest = closes_by t false other counts in
        omega (arith, one, rest)

    part_closes : (part : ℕ × Stated) → count_by p (part_arrivals part) ≡ count_by q (values_of_sender s counts_in part)
    part_closes (t, Err fault) = by (t == s)
      where
        by : (b : Bool) → 0 ≡ count_by q (cond b [] [])
        by true = refl
        by false = refl
    part_closes (t, Ok requests) =
        let sum = count_by-append p (map (λ r. Reply (answer_to names t r)) requests.list)
        (map (λ c. Close t c) (option_to_list requests.close)) in
        let replies = no_replies t requests.list in
        let closes = closes_by t (t == s) refl (option_to_list requests.close) in
        omega (arith, sum, replies, closes)

    pub closes_tested : (parts : List (ℕ × Stated)) → count_by p (flat_map part_arrivals parts) ≡ count_by q (counts_of s parts)
    closes_tested parts = count_flat p part_arrivals q (values_of_sender s counts_in) part_closes parts

and_true : (b : Bool) → b ≡ (b && true)
and_true true = refl
and_true false = refl

count_all : {X : Type 0} (xs : List X) → count_by (λ x. true) xs ≡ length xs
count_all [] = refl
count_all {X} (x ∷ xs) =
    let one = count_by-cons (λ (x : X). true) x xs in
    let rest = count_all xs in
    omega (arith, one, rest)

-- how many close marks of a sender are among them is how many counts it has
pub closes_counted : (names : Names) (s : ℕ) (parts : List (ℕ × Stated))
    → count_by (is_close s) (flat_map (part_arrivals names) parts) ≡ length (counts_of s parts)
closes_counted names s parts = closes_tested names (is_close s) s (λ c. true) (λ t r. refl) (λ t c. and_true (t == s))
    parts ∙ count_all (counts_of s parts)

-- and likewise those below a number
pub closes_below_counted : (names : Names) (s n : ℕ) (parts : List (ℕ × Stated))
    → count_by (is_close_below s n) (flat_map (part_arrivals names) parts) ≡ count_by (λ c. nat_lt c n) (counts_of s parts)
closes_below_counted names s n parts = closes_tested names (is_close_below s n) s (λ c. nat_lt c n) (λ t r. refl) (λ t c. refl) parts
