-- The report of a run is that of its sources.
use Rattle.std.proofs.Common.{◌≡◌, ◌⊎◌, ℕ, zero, suc, ◌+◌, cond, ◌==◌, List, [], ◌∷◌, ◌++◌, length, map, Some, Ok}
use Rattle.std.proofs.Common.{Err, slice_get, IsPermutation, sym, ap, subst, ◌∙◌, refl, inl, inr, arith}
use Rattle.std.specs.Prelude.{option_to_list}
use Rattle.std.proofs.lemmas.List.Sorted.{IsPermutation-sym}
use Rattle.std.proofs.lemmas.Option.{same_Some, slice_get_within}
use Rattle.std.specs.List.{Contains}
use Rattle.audit_collect.specs.declared.arrival.Answer.{Answer}
use Rattle.audit_collect.specs.declared.arrival.Arrival.{Arrival}
use Rattle.audit_collect.specs.declared.arrival.Arrival.TheVariants.{Reply, Close}
use Rattle.audit_collect.specs.declared.report.SenderReport.{SenderReport}
use Rattle.audit_collect.specs.Complete.{IsReportOf, arrivals_from, report_rows}
use Rattle.audit_collect.specs.Finished.{AllFinished, report_of}
use Rattle.audit_collect.specs.SenderState.{SenderState, after, start}
use Rattle.audit_collect.proofs.CompleteLaw.{finished_report}
use Rattle.audit_collect.proofs.HeldLaw.{self_tested}
use Rattle.audit_collect.proofs.Members.{Among, Among-append, Among-left, Among-right, Among-permutation, Contains-Among}
use Rattle.audit_run.specs.declared.message.Names.{Names}
use Rattle.audit_run.specs.declared.message.Outcome.{Outcome}
use Rattle.audit_run.specs.Names.{answer, answer_to}
use Rattle.sudo_match.specs.declared.request.Request.{Request}
use Rattle.audit_run.specs.Arrivals.{arrivals_of}
use Rattle.audit_run.specs.Asked.{asked_of, counts_in, counts_of, values_of_sender, requests_stated}
use Rattle.audit_run.specs.Outcome.{IsReport, IsRow}
use Rattle.audit_run.specs.Parts.{Stated, run_jobs}
use Rattle.audit_run.proofs.Counts.{AmongOf, among_flat, among_same, flat_among, jobs_arrivals, part_arrivals}
use Rattle.audit_run.proofs.HeldRequests.{whole}

-- a row of a report, by its index
record RowAt (roster : List (List ℕ)) (lists : List (List Answer)) (s : ℕ) (row : SenderReport) : Type 0 where
  pub name : slice_get roster s ≡ Some row.name
  pub answers : slice_get lists s ≡ Some row.answers

row_at : (roster : List (List ℕ)) (lists : List (List Answer)) (s : ℕ) (row : SenderReport)
    → slice_get (report_rows roster lists) s ≡ Some row → RowAt roster lists s row
row_at [] lists s row e = absurd (cc)
row_at (name ∷ roster) [] s row e = absurd (cc)
row_at (name ∷ roster) (answers ∷ lists) zero row e = record {
  name = ap (λ (r : SenderReport). Some r.name) same;
  answers = ap (λ (r : SenderReport). Some r.answers) same;
}
  where
    made : SenderReport
    made = record { name = name; answers = answers }

    same : made ≡ row
    same = same_Some made row e
row_at (name ∷ roster) (answers ∷ lists) (suc s) row e = let found = row_at roster lists s row e in
    record { name = found.name; answers = found.answers }

length-rows : (roster : List (List ℕ)) (lists : List (List Answer)) → length lists ≡ length roster
    → length (report_rows roster lists) ≡ length roster
length-rows [] lists e = refl
length-rows (name ∷ roster) [] e = absurd (omega (arith, e))
length-rows (name ∷ roster) (answers ∷ lists) e = ap suc (length-rows roster lists (omega (arith, e)))

-- a list's replies and close mark are among the arrivals of all lists
list_in_all : (x : Arrival) (s k i : ℕ) (lists : List (List Answer)) (answers : List Answer) → s ≡ k + i → slice_get lists i ≡ Some answers
    → Among x (map Reply answers ++ Close s (length answers) ∷ []) → Among x (arrivals_from k lists)
list_in_all x s k i [] answers at there m = absurd (cc)
list_in_all x s k zero (list ∷ lists) answers at there m =
    let here : s ≡ k = omega (arith, at) in
    let same : list ≡ answers = same_Some list answers there in
    front (Among-append x (map Reply answers) (Close s (length answers) ∷ []) m) here same
  where
    front : Among x (map Reply answers) ⊎ Among x (Close s (length answers) ∷ []) → s ≡ k → list ≡ answers
        → Among x (map Reply list ++ Close k (length list) ∷ arrivals_from (k + 1) lists)
    front (inl m) here same = Among-left x (map Reply list) (Close k (length list) ∷ arrivals_from (k + 1) lists)
        (subst (λ l. Among x (map Reply l)) (sym same) m)
    front (inr (inl e)) here same =
        Among-right x (map Reply list) (Close k (length list) ∷ arrivals_from (k + 1) lists)
        (inl (ap (λ t. Close t (length list)) (sym here) ∙ ap (λ (l : List Answer). Close s (length l)) same ∙ e))
    front (inr (inr m)) here same = absurd m
list_in_all x s k (suc i) (list ∷ lists) answers at there m =
    Among-right x (map Reply list) (Close k (length list) ∷ arrivals_from (k + 1) lists)
    (inr (list_in_all x s (k + 1) i lists answers (omega (arith, at)) there m))

reply_listed : (answers : List Answer) (i : ℕ) (a : Answer) → slice_get answers i ≡ Some a → Among (Reply a) (map Reply answers)
reply_listed [] i a e = absurd (cc)
reply_listed (b ∷ answers) zero a e = inl (ap Reply (same_Some b a e))
reply_listed (b ∷ answers) (suc i) a e = inr (reply_listed answers i a e)

-- the request of a reply
record Replied (names : Names) (t : ℕ) (requests : List Request) (a : Answer) : Type 0 where
  pub request : Request
  pub listed : Among request requests
  pub is : a ≡ answer_to names t request

replied : (names : Names) (t : ℕ) (requests : List Request) (a : Answer)
    → Among (Reply a) (map (λ r. Reply (answer_to names t r)) requests) → Replied names t requests a
replied names t [] a m = absurd m
replied names t (r ∷ requests) a (inl e) =
    record { request = r; listed = inl refl; is = let same : answer_to names t r ≡ a = cc in sym same }
replied names t (r ∷ requests) a (inr m) = let found = replied names t requests a m in
    record { request = found.request; listed = inr found.listed; is = found.is }

no_reply_among : (t : ℕ) (a : Answer) (counts : List ℕ) → Among (Reply a) (map (λ c. Close t c) counts) → ⊥
no_reply_among t a [] m = m
no_reply_among t a (c ∷ counts) (inl e) = cc
no_reply_among t a (c ∷ counts) (inr m) = no_reply_among t a counts m

no_close_among : (names : Names) (t s c : ℕ) (requests : List Request)
    → Among (Close s c) (map (λ r. Reply (answer_to names t r)) requests) → ⊥
no_close_among names t s c [] m = m
no_close_among names t s c (r ∷ requests) (inl e) = cc
no_close_among names t s c (r ∷ requests) (inr m) = no_close_among names t s c requests m

close_listed : (t s c : ℕ) (counts : List ℕ) → Among (Close s c) (map (λ n. Close t n) counts) → (t ≡ s) × Among c counts
close_listed t s c [] m = absurd m
close_listed t s c (n ∷ counts) (inl e) = (let owner : t ≡ s = cc in owner, inl (let count : n ≡ c = cc in count))
close_listed t s c (n ∷ counts) (inr m) = let found = close_listed t s c counts m in (found.0, inr found.1)

own : {X : Type 0} (s : ℕ) (f : Stated → List X) (part : ℕ × Stated) (x : X) → part.0 ≡ s → Among x (f part.1)
    → Among x (values_of_sender s f part)
own s f part x e m = subst (λ b. Among x (cond b (f part.1) [])) (sym (ap (λ t. t == s) e ∙ self_tested s)) m

-- a reply that is of a source answers one of its requests
part-replied : (names : Names) (part : ℕ × Stated) (a : Answer) → Among (Reply a) (part_arrivals names part)
    → Replied names part.0 (requests_stated part.1) a
part-replied names (t, Err fault) a m = absurd m
part-replied names (t, Ok requests) a m =
    elim (Among-append (Reply a) (map (λ r. Reply (answer_to names t r)) requests.list)
    (map (λ c. Close t c) (option_to_list requests.close)) m) [
      | inl reply ↦ replied names t requests.list a reply
      | inr close ↦ absurd (no_reply_among t a (option_to_list requests.close) close)
    ]

part-closed : (names : Names) (part : ℕ × Stated) (s c : ℕ) → Among (Close s c) (part_arrivals names part)
    → (part.0 ≡ s) × Among c (counts_in part.1)
part-closed names (t, Err fault) s c m = absurd m
part-closed names (t, Ok requests) s c m =
    elim (Among-append (Close s c) (map (λ r. Reply (answer_to names t r)) requests.list)
    (map (λ n. Close t n) (option_to_list requests.close)) m) [
      | inl reply ↦ absurd (no_close_among names t s c requests.list reply)
      | inr close ↦ close_listed t s c (option_to_list requests.close) close
    ]

module _ (names : Names) (roster : List (List ℕ)) (workers : ℕ) (parts : List (ℕ × Stated)) (outcomes : List Outcome)
    (all : IsPermutation (map (answer names) (run_jobs workers parts)) outcomes) (held : List SenderState)
    (ran : after (start roster) (arrivals_of outcomes) ≡ Ok held) where
  -- an arrival of the run is one of a source
  arrived : (x : Arrival) → Among x (arrivals_of outcomes) → AmongOf (part_arrivals names) parts x
  arrived x m =
      among_flat (part_arrivals names) parts x
      (subst (Among x) (jobs_arrivals names workers parts)
      (among_same x outcomes (map (answer names) (run_jobs workers parts))
      (IsPermutation-sym (map (answer names) (run_jobs workers parts)) outcomes all) m))

  closed : (s c : ℕ) → Among (Close s c) (arrivals_of outcomes) → Among c (counts_of s parts)
  closed s c m =
      let found = arrived (Close s c) m in
      let close = part-closed names found.item s c found.of in
      flat_among (values_of_sender s counts_in) parts found.item c found.there (own s counts_in found.item c close.0 close.1)

  row_answer : (s i : ℕ) (a : Answer) → a.sender ≡ s → a.request.number ≡ i + 1 → Among (Reply a) (arrivals_of outcomes)
      → (request : Request) × Contains (asked_of s parts) request × (request.number ≡ i + 1) × (a ≡ answer_to names s request)
  row_answer s i a sender number m =
      let found = arrived (Reply a) m in
      let reply = part-replied names found.item a found.of in
      let owner : found.item.0 ≡ s = sym (ap (λ (b : Answer). b.sender) reply.is) ∙ sender in
      let listed = flat_among (values_of_sender s requests_stated) parts found.item reply.request found.there
      (own s requests_stated found.item reply.request owner reply.listed) in (
        reply.request,
        Contains-Among reply.request (asked_of s parts) listed,
        sym (ap (λ (b : Answer). b.request.number) reply.is) ∙ number,
        reply.is ∙ ap (λ t. answer_to names t reply.request) owner,
      )

  -- where all are finished, what is reported is the report of the sources
  pub reported : AllFinished held → IsReport names roster parts (report_of held)
  reported finished = subst (IsReport names roster parts) (sym made.is) (record {
    one_each = length-rows roster made.lists made.complete.senders;
    rows = λ s row there. rows s row (row_at roster made.lists s row there);
  })
    where
      made : IsReportOf roster (arrivals_of outcomes) (report_of held)
      made = finished_report roster (arrivals_of outcomes) held ran finished

      among : (x : Arrival) → Among x (arrivals_from 0 made.lists) → Among x (arrivals_of outcomes)
      among x m = Among-permutation x (arrivals_from 0 made.lists) (arrivals_of outcomes) made.complete.arrived m

      rows : (s : ℕ) (row : SenderReport) → RowAt roster made.lists s row → IsRow names roster parts s row
      rows s row at =
          record {
            name = at.name;
            closed = closed_row;
            answers = λ i a there.
                let numbered = made.complete.numbered s row.answers at.answers i a there in
                row_answer s i a numbered.0 numbered.1
                (among (Reply a) (list_in_all (Reply a) s 0 s made.lists row.answers (omega arith) at.answers
                (Among-left (Reply a) (map Reply row.answers) (Close s (length row.answers) ∷ []) (reply_listed row.answers i a there))));
          }
        where
          count_there : Among (length row.answers) (counts_of s parts)
          count_there =
              closed s (length row.answers)
              (among (Close s (length row.answers)) (list_in_all (Close s (length row.answers)) s 0 s made.lists
              row.answers (omega arith) at.answers
              (Among-right (Close s (length row.answers)) (map Reply row.answers) (Close s (length row.answers) ∷ []) (inl refl))))

          closed_row : counts_of s parts ≡ length row.answers ∷ []
          closed_row =
              let sender = whole names roster workers parts outcomes all held ran finished s (slice_get_within roster s row.name at.name) in
              elim (subst (Among (length row.answers)) sender.closed count_there) [
                | inl e ↦ sender.closed ∙ ap (λ n. n ∷ []) e
                | inr never ↦ absurd never
              ]
