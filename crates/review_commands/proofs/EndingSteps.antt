-- The ends of runs that print a notice.
use Rattle.std.proofs.Common.{◌≡◌, ◌<◌, ℕ, List, length, take, Result, Ok, Err, inl, inr, refl, sym, subst}
use Rattle.std.specs.Prelude.{IfErr, IfOk}
use Rattle.run_base.specs.Endings.{HasWritten, HasWrittenNothing, IsFaultPrinted, IsWell, Notices, PrintsLine}
use Rattle.run_base.specs.Endings.{PrintsOrNoMemory, WriterStates}
use Rattle.run_base.specs.FaultLines.{write_line}
use Rattle.review_commands.specs.Endings.{EndsNoted, IsGoodText, IsNoted, Printing}
use Rattle.review_commands.specs.declared.ending.NotedOutput.{NotedOutput}

pub whole_noted : {F : Type 0} (told : Notices F) (ended : Result NotedOutput F) (noted : NotedOutput) (text notice : List ℕ)
    (status : ℕ) (out err : WriterStates) → ended ≡ Ok noted → text ≡ noted.text.items → notice ≡ noted.notice.items
    → IsWell out → HasWritten out text → PrintsLine noted.status notice status err
    → EndsNoted told (IsNoted ended) (λ fault. ended ≡ Err fault) status out err
whole_noted told ended noted text notice status out err is same by well got prints = inl (record {
  text = text;
  notice = notice;
  good = (noted, is, (same, by, prints.0));
  well = well;
  got = got;
  noted = prints.1;
})

pub refused_noted : {F : Type 0} (told : Notices F) (ended : Result NotedOutput F) (fault : F) (status : ℕ)
    (out err : WriterStates) → ended ≡ Err fault → IsWell out → HasWrittenNothing out → IsFaultPrinted told fault status err
    → EndsNoted told (IsNoted ended) (λ fault. ended ≡ Err fault) status out err
refused_noted told ended fault status out err is well nothing printed_fault = inr (inl (
    record { fault = fault; bad = is; well = well; nothing = nothing; printed_fault = printed_fault }
    ))

pub lost_noted : {F : Type 0} (told : Notices F) (ended : Result NotedOutput F) (noted : NotedOutput) (text : List ℕ)
    (count status : ℕ) (out err : WriterStates) → ended ≡ Ok noted → text ≡ noted.text.items → count < length text
    → HasWritten out (take count text) → (IsWell out → ⊥)
    → PrintsOrNoMemory told.program 4 (write_line told.program count) status err
    → EndsNoted told (IsNoted ended) (λ fault. ended ≡ Err fault) status out err
lost_noted told ended noted text count status out err is same part got failed printed_fault = inr (inr (record {
  text = text;
  meant = noted.status;
  good = (noted.notice.items, (noted, is, (same, refl, refl)));
  count = count;
  part = part;
  got = got;
  failed = failed;
  printed_fault = printed_fault;
}))

-- How a run ends, by what its text, its notice and its fault are.
pub run_noted : {F : Type 0} (told : Notices F) (Good : Printing) (Bad : F → Type 0)
    (ended : Result NotedOutput F) (status : ℕ) (out err : WriterStates)
    → IfOk ended (λ p. Good p.text.items p.notice.items p.status) → IfErr ended Bad
    → EndsNoted told (IsNoted ended) (λ fault. ended ≡ Err fault) status out err → EndsNoted told Good Bad status out err
run_noted {F = F} told Good Bad ended status out err good bad ends = elim ends [
  | inl prints ↦ inl (record {
    text = prints.text;
    notice = prints.notice;
    good = good_of prints.text prints.notice status prints.good;
    well = prints.well;
    got = prints.got;
    noted = prints.noted;
  })
  | inr rest ↦ inr (elim rest [
    | inl refuses ↦ inl (record {
      fault = refuses.fault;
      bad = bad_of refuses.fault refuses.bad;
      well = refuses.well;
      nothing = refuses.nothing;
      printed_fault = refuses.printed_fault;
    })
    | inr loses ↦ inr (record {
      text = loses.text;
      meant = loses.meant;
      good = part_of loses.text loses.meant loses.good;
      count = loses.count;
      part = loses.part;
      got = loses.got;
      failed = loses.failed;
      printed_fault = loses.printed_fault;
    })
  ])
]
  where
    good_of : (text notice : List ℕ) (own : ℕ) → IsNoted ended text notice own → Good text notice own
    good_of text notice own (noted, is, (same, by, own_is)) =
        let h : Good noted.text.items noted.notice.items noted.status =
        subst (λ r. IfOk r (λ p. Good p.text.items p.notice.items p.status)) is good in
        subst (λ t. Good t notice own) (sym same) (subst (λ n. Good noted.text.items n own) (sym by)
        (subst (Good noted.text.items noted.notice.items) (sym own_is) h))

    part_of : (text : List ℕ) (own : ℕ) → IsGoodText (IsNoted ended) text own → IsGoodText Good text own
    part_of text own (notice, is) = (notice, good_of text notice own is)

    bad_of : (fault : F) → ended ≡ Err fault → Bad fault
    bad_of fault is = subst (λ r. IfErr r Bad) is bad
