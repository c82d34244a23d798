-- The ends of runs that write as they go.
use Rattle.std.proofs.Common.{◌≡◌, ◌+◌, ℕ, List, inl, inr, sym, subst}
use Rattle.run_base.specs.Endings.{HasWritten, HasWrittenNothing, IsFaultPrinted, IsWell, Notices, PrintsLine}
use Rattle.run_base.specs.Endings.{PrintsOrNoMemory, WriterStates}
use Rattle.review_grants.specs.Writing.{IsStopped, failures_at}
use Rattle.review_grants.specs.declared.writing.Stopped.{Stopped}
use Rattle.review_commands.specs.Endings.{EndsAsWritten, Printing, stop_line}

module _ {F : Type 0} (told : Notices F) (Good : Printing) (Bad : F → Type 0) (status : ℕ) (out err : WriterStates) where
  pub ends-whole : (text notice : List ℕ) (own : ℕ) → Good text notice own → IsWell out → HasWritten out text
      → PrintsLine own notice status err → EndsAsWritten told Good Bad status out err
  ends-whole text notice own good well got prints = inl (record {
    text = text;
    notice = notice;
    good = subst (Good text notice) (sym prints.0) good;
    well = well;
    got = got;
    noted = prints.1;
  })

  pub ends-refused : (fault : F) → Bad fault → IsWell out → HasWrittenNothing out → IsFaultPrinted told fault status err
      → EndsAsWritten told Good Bad status out err
  ends-refused fault bad well nothing printed_fault = inr (inl (
      record { fault = fault; bad = bad; well = well; nothing = nothing; printed_fault = printed_fault }
      ))

  pub ends-part : (stop : Stopped) (text notice : List ℕ) (own : ℕ) → Good text notice own
      → IsStopped out.before out.after text stop → out.failed_after ≡ out.failed_before + failures_at stop
      → PrintsOrNoMemory told.program 4 (stop_line told.program stop) status err → EndsAsWritten told Good Bad status out err
  ends-part stop text notice own good stopped failed printed_stop = inr (inr (record {
    stop = stop;
    text = text;
    meant = own;
    good = (notice, good);
    stopped = stopped;
    failed = failed;
    printed_stop = printed_stop;
  }))

-- the end of a run in other words
pub ends-mapped : {F : Type 0} (told : Notices F) (Good Other : Printing) (Bad Worse : F → Type 0) (status : ℕ)
    (out err : WriterStates) → ((text notice : List ℕ) (own : ℕ) → Good text notice own → Other text notice own)
    → ((fault : F) → Bad fault → Worse fault) → EndsAsWritten told Good Bad status out err
    → EndsAsWritten told Other Worse status out err
ends-mapped told Good Other Bad Worse status out err good bad ends = elim ends [
  | inl prints ↦ inl (record {
    text = prints.text;
    notice = prints.notice;
    good = good prints.text prints.notice status prints.good;
    well = prints.well;
    got = prints.got;
    noted = prints.noted;
  })
  | inr rest ↦ inr (elim rest [
    | inl refuses ↦ inl (record {
      fault = refuses.fault;
      bad = bad refuses.fault refuses.bad;
      well = refuses.well;
      nothing = refuses.nothing;
      printed_fault = refuses.printed_fault;
    })
    | inr stops ↦ inr (record {
      stop = stops.stop;
      text = stops.text;
      meant = stops.meant;
      good = (stops.good.0, good stops.text stops.good.0 stops.meant stops.good.1);
      stopped = stops.stopped;
      failed = stops.failed;
      printed_stop = stops.printed_stop;
    })
  ])
]
