-- The ends of runs.
use Rattle.std.proofs.Common.{◌≡◌, ◌<◌, ◌≤◌, ℕ, List, ◌++◌, length, take, Option, Some, None, Result, Ok, Err, inl}
use Rattle.std.proofs.Common.{inr, refl, sym, ap, subst, ◌∙◌, append_assoc, arith}
use Rattle.std.specs.Prelude.{IfErr, IfOk}
use Rattle.std.specs.Io.KnownBytes.{Appends}
use Rattle.run_base.specs.Endings.{Ends, HasWritten, HasWrittenNothing, IsFault, IsFaultPrinted, IsPrinted, IsWell}
use Rattle.run_base.specs.Endings.{Notices, Prints, PrintsLine, PrintsOrNoMemory, WriterStates}
use Rattle.run_base.specs.FaultLines.{write_line}
use Rattle.run_base.specs.declared.run_output.RunOutput.{RunOutput}

pub says_same : (own own' status : ℕ) (line line' : List ℕ) (err : WriterStates) → own ≡ own' → line ≡ line'
    → PrintsLine own line status err → PrintsLine own' line' status err
says_same own own' status line line' err e f h = (h.0 ∙ e, λ well. subst (HasWritten err) f (h.1 well))

-- Two texts that are written one after the other.
pub appends_twice : (old middle new : Option (List ℕ)) (first second : List ℕ) → Appends old middle first
    → Appends middle new second → Appends old new (first ++ second)
appends_twice None middle new first second h i = tt
appends_twice (Some xs) None new first second h i = absurd h
appends_twice (Some xs) (Some ys) None first second h i = absurd i
appends_twice (Some xs) (Some ys) (Some zs) first second h i = i ∙ ap (λ l. l ++ second) h ∙ append_assoc xs first second

pub whole_ends : {F : Type 0} (told : Notices F) (ended : Result RunOutput F) (printed : RunOutput) (bytes : List ℕ)
    (out err : WriterStates) → ended ≡ Ok printed → bytes ≡ printed.text.items
    → IsWell out → HasWritten out bytes → HasWrittenNothing err → Ends told (IsPrinted ended) (IsFault ended) printed.status out err
whole_ends told ended printed bytes out err is same well got quiet = inl (
    record { text = bytes; good = (printed, is, same, refl); well = well; got = got; quiet = quiet }
    )

pub refused_ends : {F : Type 0} (told : Notices F) (ended : Result RunOutput F) (fault : F) (status : ℕ)
    (out err : WriterStates) → ended ≡ Err fault → IsWell out → HasWrittenNothing out
    → IsFaultPrinted told fault status err → Ends told (IsPrinted ended) (IsFault ended) status out err
refused_ends told ended fault status out err is well nothing printed_fault = inr (inl (
    record { fault = fault; bad = is; well = well; nothing = nothing; printed_fault = printed_fault }
    ))

pub lost_ends : {F : Type 0} (told : Notices F) (ended : Result RunOutput F) (printed : RunOutput) (bytes : List ℕ)
    (count status : ℕ) (out err : WriterStates) → ended ≡ Ok printed → bytes ≡ printed.text.items
    → count < length bytes → HasWritten out (take count bytes) → (IsWell out → ⊥)
    → PrintsOrNoMemory told.program 4 (write_line told.program count) status err
    → Ends told (IsPrinted ended) (IsFault ended) status out err
lost_ends told ended printed bytes count status out err is same part got failed printed_fault = inr (inr (
    record {
      text = bytes;
      meant = printed.status;
      good = (printed, is, same, refl);
      count = count;
      part = part;
      got = got;
      failed = failed;
      printed_fault = printed_fault;
    }
    ))

-- How a run ends, by what its text and its fault are.
pub run_ends : {F : Type 0} (told : Notices F) (Good : List ℕ → ℕ → Type 0) (Bad : F
    → Type 0) (ended : Result RunOutput F) (status : ℕ) (out err : WriterStates)
    → IfOk ended (λ p. Good p.text.items p.status) → IfErr ended Bad
    → Ends told (IsPrinted ended) (IsFault ended) status out err → Ends told Good Bad status out err
run_ends {F = F} told Good Bad ended status out err good bad ends = elim ends [
  | inl prints ↦ inl (record {
    text = prints.text;
    good = good_of prints.text status prints.good;
    well = prints.well;
    got = prints.got;
    quiet = prints.quiet;
  })
  | inr rest ↦ inr (elim rest [
    | inl refuses ↦ inl (record {
      fault = refuses.fault;
      bad = bad_of refuses.fault refuses.bad;
      well = refuses.well;
      nothing = refuses.nothing;
      printed_fault = refuses.printed_fault;
    })
    | inr loses ↦ inr (record {
      text = loses.text;
      meant = loses.meant;
      good = good_of loses.text loses.meant loses.good;
      count = loses.count;
      part = loses.part;
      got = loses.got;
      failed = loses.failed;
      printed_fault = loses.printed_fault;
    })
  ])
]
  where
    good_of : (text : List ℕ) (own : ℕ) → IsPrinted ended text own → Good text own
    good_of text own (printed, is, same, by) =
        let h : Good printed.text.items printed.status = subst (λ r. IfOk r (λ p. Good p.text.items p.status)) is good in
        subst (λ t. Good t own) (sym same) (subst (Good printed.text.items) (sym by) h)

    bad_of : (fault : F) → IsFault ended fault → Bad fault
    bad_of fault is = subst (λ r. IfErr r Bad) is bad

-- A status of at least 1 is printed with every fault.
not_told : (program : List ℕ) (own : ℕ) (line : List ℕ) (status : ℕ) (err : WriterStates) → (own ≡ 0 → ⊥)
    → PrintsOrNoMemory program own line status err → status ≡ 0 → ⊥
not_told program own line status err low printed_fault zero = elim printed_fault [
  | inl told ↦ low (sym told.0 ∙ zero)
  | inr memory ↦ absurd (omega (arith, memory.0, zero))
]

-- A run that ends with status 0 has printed its text, if no fault has status 0.
pub zero_prints : {F : Type 0} (told : Notices F) (Good : List ℕ → ℕ → Type 0) (Bad : F → Type 0) (status : ℕ)
    (out err : WriterStates) → ((fault : F) → told.status fault ≡ 0 → ⊥)
    → Ends told Good Bad status out err → status ≡ 0 → Prints Good status out err
zero_prints told Good Bad status out err low ends zero = elim ends [
  | inl prints ↦ prints
  | inr rest ↦ elim rest [
    | inl refuses ↦ absurd (not_told told.program (told.status refuses.fault) (told.printed refuses.fault) status err
        (low refuses.fault) refuses.printed_fault zero)
    | inr loses ↦ absurd (not_told told.program 4 (write_line told.program loses.count) status err
        (λ e. absurd (omega (arith, e))) loses.printed_fault zero)
  ]
]

told_most : (program : List ℕ) (own : ℕ) (line : List ℕ) (status : ℕ) (err : WriterStates) → own ≤ 4
    → PrintsOrNoMemory program own line status err → status ≤ 4
told_most program own line status err most printed_fault = elim printed_fault [
  | inl told ↦ omega (arith, told.0, most)
  | inr memory ↦ omega (arith, memory.0)
]

-- Where what may be printed and each fault have a status of at most 4, so has the run.
pub ends_most : {F : Type 0} (told : Notices F) (Good : List ℕ → ℕ → Type 0) (Bad : F → Type 0) (status : ℕ)
    (out err : WriterStates) → ((text : List ℕ) (own : ℕ) → Good text own → own ≤ 4)
    → ((fault : F) → told.status fault ≤ 4) → Ends told Good Bad status out err → status ≤ 4
ends_most told Good Bad status out err most low ends = elim ends [
  | inl prints ↦ most prints.text status prints.good
  | inr rest ↦ elim rest [
    | inl refuses ↦ told_most told.program (told.status refuses.fault) (told.printed refuses.fault) status err
        (low refuses.fault) refuses.printed_fault
    | inr loses ↦ told_most told.program 4 (write_line told.program loses.count) status err (omega arith) loses.printed_fault
  ]
]
