-- A refusal of a collector is a fault that the sources have.
use Rattle.std.proofs.Common.{◌≡◌, ℕ, ◌≤◌, ◌<◌, Bool, true, List, [], ◌∷◌, length, map, flat_map, Ok, Err}
use Rattle.std.proofs.Common.{count_by, IsPermutation, All, ap, subst, ◌∙◌, inl, inr, arith}
use Rattle.std.specs.Prelude.{option_to_list}
use Rattle.std.proofs.lemmas.List.Elements.{All-head, All-tail}
use Rattle.audit_collect.specs.declared.arrival.Arrival.{Arrival}
use Rattle.audit_collect.specs.declared.arrival.Arrival.TheVariants.{Reply, Close}
use Rattle.audit_collect.specs.declared.fault.Refused.{Refused}
use Rattle.audit_collect.specs.declared.fault.Refused.TheVariants as refused
use Rattle.audit_collect.specs.Faults.{HasFault, is_of, is_reply, is_close, is_close_below}
use Rattle.audit_collect.specs.SenderState.{after, start}
use Rattle.audit_collect.proofs.FaultLaw.{refusal_names_fault}
use Rattle.audit_collect.proofs.HeldLaw.{tested}
use Rattle.audit_collect.proofs.Members.{Among, Among-append, found_counted}
use Rattle.audit_run.specs.declared.message.Names.{Names}
use Rattle.audit_run.specs.declared.message.Outcome.{Outcome}
use Rattle.audit_run.specs.Names.{answer, answer_to}
use Rattle.sudo_match.specs.declared.request.Request.{Request}
use Rattle.audit_run.specs.Arrivals.{arrivals_of}
use Rattle.audit_run.specs.Asked.{times_asked}
use Rattle.audit_run.specs.Outcome.{HaveRefused}
use Rattle.audit_run.specs.Parts.{Stated, run_jobs}
use Rattle.audit_run.proofs.Counts.{among_flat, closes_below_counted, closes_counted, count_same, jobs_arrivals}
use Rattle.audit_run.proofs.Counts.{part_arrivals, replies_counted}
use Rattle.audit_run.proofs.Twice.{Rises, no_zero}

-- a source's owner is one of this many senders
abbrev pub IsOwned : ℕ → ℕ × Stated → Type 0
IsOwned senders part = part.0 < senders

pub among_all : {X : Type 0} (P : X → Type 0) (xs : List X) (x : X) → All P xs → Among x xs → P x
among_all P [] x all m = absurd m
among_all P (y ∷ xs) x all (inl e) = subst P e (All-head P y xs all)
among_all P (y ∷ xs) x all (inr m) = among_all P xs x (All-tail P y xs all) m

-- what arrives of a source is of its owner
reply_of : (names : Names) (s t : ℕ) (x : Arrival) (requests : List Request)
    → Among x (map (λ r. Reply (answer_to names t r)) requests) → is_of s x ≡ true → t ≡ s
reply_of names s t x [] m e = absurd m
reply_of names s t x (r ∷ requests) (inl same) e = tested t s (ap (is_of s) same ∙ e)
reply_of names s t x (r ∷ requests) (inr m) e = reply_of names s t x requests m e

close_of : (s t : ℕ) (x : Arrival) (counts : List ℕ) → Among x (map (λ c. Close t c) counts) → is_of s x ≡ true → t ≡ s
close_of s t x [] m e = absurd m
close_of s t x (c ∷ counts) (inl same) e = tested t s (ap (is_of s) same ∙ e)
close_of s t x (c ∷ counts) (inr m) e = close_of s t x counts m e

owner_of : (names : Names) (s : ℕ) (x : Arrival) (part : ℕ × Stated) → Among x (part_arrivals names part) → is_of s x ≡ true → part.0 ≡ s
owner_of names s x (t, Err fault) m e = absurd m
owner_of names s x (t, Ok requests) m e =
    elim (Among-append x (map (λ r. Reply (answer_to names t r)) requests.list) (map (λ c. Close t c) (option_to_list requests.close)) m) [
      | inl reply ↦ reply_of names s t x requests.list reply e
      | inr close ↦ close_of s t x (option_to_list requests.close) close e
    ]

-- what the arrivals of a run count
pub counted : (names : Names) (workers : ℕ) (parts : List (ℕ × Stated)) (outcomes : List Outcome)
    → IsPermutation (map (answer names) (run_jobs workers parts)) outcomes
    → (p : Arrival → Bool) → count_by p (arrivals_of outcomes) ≡ count_by p (flat_map (part_arrivals names) parts)
counted names workers parts outcomes all p = count_same p (map (answer names) (run_jobs workers parts)) outcomes all
    ∙ ap (count_by p) (jobs_arrivals names workers parts)

module _ (names : Names) (roster : List (List ℕ)) (workers : ℕ) (parts : List (ℕ × Stated)) (outcomes : List Outcome)
    (rise : All Rises parts) (parts_by_owner : All (IsOwned (length roster)) parts)
    (all : IsPermutation (map (answer names) (run_jobs workers parts)) outcomes) where
  replies : (s n : ℕ) → count_by (is_reply s n) (arrivals_of outcomes) ≡ times_asked s n parts
  replies s n = counted names workers parts outcomes all (is_reply s n) ∙ replies_counted names s n parts

  no_stranger : (s : ℕ) → length roster ≤ s → 1 ≤ count_by (is_of s) (arrivals_of outcomes) → ⊥
  no_stranger s past h =
      let found = found_counted (is_of s) (flat_map (part_arrivals names) parts)
      (subst (λ k. 1 ≤ k) (counted names workers parts outcomes all (is_of s)) h) in
      let from = among_flat (part_arrivals names) parts found.item found.member in
      let owner = owner_of names s found.item from.item from.of found.passes in
      let within = among_all (IsOwned (length roster)) parts from.item parts_by_owner from.there in
      omega (arith, owner, within, past)

  by_fault : (why : Refused) → HasFault (length roster) (arrivals_of outcomes) why → HaveRefused parts why
  by_fault (refused.Stranger s) h = no_stranger s h.0 h.1
  by_fault (refused.ZeroNumber s) h =
      let none = no_zero s parts rise in
      let some = replies s 0 in
      omega (arith, none, some, h)
  by_fault (refused.Double s n) h = subst (λ k. 2 ≤ k) (replies s n) h
  by_fault (refused.ClosedTwice s) h = subst (λ k. 2 ≤ k) (counted names workers parts outcomes all (is_close s)
      ∙ closes_counted names s parts) h
  by_fault (refused.PastClose s n) h =
      let below = counted names workers parts outcomes all (is_close_below s n) ∙ closes_below_counted names s n parts in
      (subst (λ k. 1 ≤ k) (replies s n) h.0, subst (λ k. 1 ≤ k) below h.1)
  by_fault refused.Memory h = h

  -- the refusal of a run names a fault of its sources
  pub refused_of_sources : (why : Refused) → after (start roster) (arrivals_of outcomes) ≡ Err why → HaveRefused parts why
  refused_of_sources why e = by_fault why (refusal_names_fault roster (arrivals_of outcomes) why e)
