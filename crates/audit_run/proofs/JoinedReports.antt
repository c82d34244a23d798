-- The report of two lists of sources that have no name in common.
use Rattle.std.proofs.Common.{◌≡◌, ℕ, ◌+◌, ◌<◌, ◌-◌, List, [], ◌∷◌, ◌++◌, length, map, flat_map, slice_get, All, sym}
use Rattle.std.proofs.Common.{ap, subst, ◌∙◌, refl, inl, inr, arith, append_assoc}
use Rattle.std.proofs.lemmas.List.{length-append, length-map}
use Rattle.std.proofs.lemmas.List.Concat.{flat_map-append}
use Rattle.std.proofs.lemmas.Option.{slice_get_within}
use Rattle.std.specs.List.{Contains}
use Rattle.sudo_base.proofs.Lists.{slice_get-append-left}
use Rattle.audit_collect.specs.declared.arrival.Answer.{Answer}
use Rattle.audit_collect.specs.declared.report.Report.{Report}
use Rattle.audit_collect.specs.declared.report.SenderReport.{SenderReport}
use Rattle.audit_files.specs.Report.{answer_fields, header, line, report_text, sender_text}
use Rattle.audit_run.specs.declared.message.Names.{Names}
use Rattle.audit_run.specs.Names.{answer_to}
use Rattle.audit_run.specs.Asked.{asked_of, counts_in, counts_of, requests_stated}
use Rattle.audit_run.specs.Outcome.{IsReport, IsRow}
use Rattle.audit_run.specs.Parts.{Stated}
use Rattle.audit_run.specs.Shards.{answer_after, joined_report, row_after}
use Rattle.audit_run.proofs.Beside.{at_back, at_cases, at_front, both, made_of, of_back, of_front}
use Rattle.audit_run.proofs.Refusals.{IsOwned}

-- a row of a sender that asks the same
row-same : (names : Names) (roster roster2 : List (List ℕ)) (parts parts2 : List (ℕ × Stated)) (s : ℕ) (row : SenderReport)
    → slice_get roster2 s ≡ slice_get roster s → counts_of s parts2 ≡ counts_of s parts → asked_of s parts ≡ asked_of s parts2
    → IsRow names roster parts s row → IsRow names roster2 parts2 s row
row-same names roster roster2 parts parts2 s row index counts asked is = record {
  name = index ∙ is.name;
  closed = counts ∙ is.closed;
  answers = λ i answer there.
      let (request, has, number, answers) = is.answers i answer there in
      (request, subst (λ l. Contains l request) asked has, number, answers);
}

-- the row as the second list alone has it
abbrev pub answer_before : ℕ → Answer → Answer
answer_before senders answer = record answer { sender = answer.sender - senders }

abbrev pub row_before : ℕ → SenderReport → SenderReport
row_before senders row = record row { answers = map (answer_before senders) row.answers }

module _ (names : Names) (first second : List (List ℕ)) (parts more : List (ℕ × Stated))
    (parts_by_owner : All (IsOwned (length first)) parts) where
  row_front : (s : ℕ) (row : SenderReport) → s < length first → IsRow names first parts s row
      → IsRow names (first ++ second) (both (length first) parts more) s row
  row_front s row before is =
      row-same names first (first ++ second) parts (both (length first) parts more) s row (slice_get-append-left first second s before)
      (of_front counts_in (length first) s parts more before) (sym (of_front requests_stated (length first) s parts more before)) is

  row_of_front : (s : ℕ) (row : SenderReport) → s < length first
      → IsRow names (first ++ second) (both (length first) parts more) s row → IsRow names first parts s row
  row_of_front s row before is =
      row-same names (first ++ second) first (both (length first) parts more) parts s row
      (sym (slice_get-append-left first second s before))
      (sym (of_front counts_in (length first) s parts more before)) (of_front requests_stated (length first) s parts more before) is

  row_back : (s : ℕ) (row : SenderReport) → IsRow names second more s row
      → IsRow names (first ++ second) (both (length first) parts more) (length first + s) (row_after (length first) row)
  row_back s row is = record {
    name = at_back first second s ∙ is.name;
    closed = of_back counts_in (length first) s parts more parts_by_owner ∙ is.closed
        ∙ ap (λ n. n ∷ []) (sym (length-map row.answers (answer_after (length first))));
    answers = λ i answer there.
        let made = made_of (answer_after (length first)) row.answers i answer there in
        let (request, has, number, answers) = is.answers i made.item made.there in (
          request,
          subst (λ l. Contains l request) (sym (of_back requests_stated (length first) s parts more parts_by_owner)) has,
          number,
          sym made.is ∙ ap (answer_after (length first)) answers,
        );
  }

  row_of_back : (s : ℕ) (row : SenderReport) → IsRow names (first ++ second) (both (length first) parts more)
      (length first + s) row → IsRow names second more s (row_before (length first) row)
  row_of_back s row is = record {
    name = sym (at_back first second s) ∙ is.name;
    closed = sym (of_back counts_in (length first) s parts more parts_by_owner) ∙ is.closed
        ∙ ap (λ n. n ∷ []) (sym (length-map row.answers (answer_before (length first))));
    answers = λ i answer there.
        let made = made_of (answer_before (length first)) row.answers i answer there in
        let (request, has, number, answers) = is.answers i made.item made.there in
        let index : (length first + s) - length first ≡ s = omega arith in (
          request,
          subst (λ l. Contains l request) (of_back requests_stated (length first) s parts more parts_by_owner) has,
          number,
          sym made.is ∙ ap (answer_before (length first)) answers ∙ ap (λ t. answer_to names t request) index,
        );
  }

  -- the rows of the first report, and then those of the second, with their senders so many places further
  rows_joined : (report other : Report) (senders : ℕ) → senders ≡ length first → IsReport names first parts report
      → IsReport names second more other
      → IsReport names (first ++ second) (both (length first) parts more)
      (record { senders = report.senders ++ map (row_after senders) other.senders })
  rows_joined report other senders same is also = record {
    one_each =
        let sum = length-append report.senders (map (row_after senders) other.senders) in
        let mapped = length-map other.senders (row_after senders) in
        let rosters = length-append first second in
        let few = is.one_each in
        let fewer = also.one_each in
        omega (arith, sum, mapped, rosters, few, fewer);
    rows = λ s row there. elim (at_cases report.senders (map (row_after senders) other.senders) s row there) [
      | inl front ↦
          let within = slice_get_within report.senders s row front in
          let few = is.one_each in
          row_front s row (omega (arith, within, few)) (is.rows s row front)
      | inr back ↦
          let made = made_of (row_after senders) other.senders back.index row back.there in
          let at = back.is in
          let few = is.one_each in
          let index : s ≡ length first + back.index = omega (arith, at, few) in
          subst (λ t. IsRow names (first ++ second) (both (length first) parts more) t row) (sym index)
          (subst (IsRow names (first ++ second) (both (length first) parts more) (length first + back.index))
          (ap (λ n. row_after n made.item) (sym same) ∙ made.is)
          (row_back back.index made.item (also.rows back.index made.item made.there)))
    ];
  }

  pub report_joined : (report other : Report) → IsReport names first parts report → IsReport names second more other
      → IsReport names (first ++ second) (both (length first) parts more) (joined_report report other)
  report_joined report other is also = rows_joined report other (length report.senders) is.one_each is also

  -- a report of both is one of each
  pub report_first : (rows later : List SenderReport) → length rows ≡ length first
      → IsReport names (first ++ second) (both (length first) parts more) (record { senders = rows ++ later })
      → IsReport names first parts (record { senders = rows })
  report_first rows later long is = record {
    one_each = long;
    rows = λ s row there.
        let within = slice_get_within rows s row there in
        row_of_front s row (omega (arith, within, long)) (is.rows s row (at_front rows later s row there));
  }

  pub report_second : (rows later : List SenderReport) → length rows ≡ length first
      → IsReport names (first ++ second) (both (length first) parts more) (record { senders = rows ++ later })
      → IsReport names second more (record { senders = map (row_before (length first)) later })
  report_second rows later long is = record {
    one_each =
        let sum = length-append rows later in
        let mapped = length-map later (row_before (length first)) in
        let rosters = length-append first second in
        let few = is.one_each in
        omega (arith, sum, mapped, rosters, few, long);
    rows = λ s row there.
        let made = made_of (row_before (length first)) later s row there in
        subst (IsRow names second more s) made.is
        (row_of_back s made.item (is.rows (length first + s) made.item (ap (λ n. slice_get (rows ++ later) (n + s))
        (sym long) ∙ at_back rows later s ∙ made.there)));
  }

-- the text has no sender's index
answers_text : (files : List (List ℕ)) (name : List ℕ) (senders : ℕ) (answers : List Answer)
    → flat_map (λ a. line (answer_fields files name a)) (map (answer_after senders) answers) ≡ flat_map
    (λ a. line (answer_fields files name a)) answers
answers_text files name senders [] = refl
answers_text files name senders (a ∷ answers) = ap (λ l. line (answer_fields files name a) ++ l) (answers_text files name senders answers)

rows-text : (files : List (List ℕ)) (senders : ℕ) (rows : List SenderReport)
    → flat_map (sender_text files) (map (row_after senders) rows) ≡ flat_map (sender_text files) rows
rows-text files senders [] = refl
rows-text files senders (row ∷ rows) = λ i. answers_text files row.name senders row.answers i ++ rows-text files senders rows i

-- what follows the same front is the same
same_rest : (front xs ys : List ℕ) → front ++ xs ≡ front ++ ys → xs ≡ ys
same_rest [] xs ys e = e
same_rest (b ∷ front) xs ys e = let rest : front ++ xs ≡ front ++ ys = cc in same_rest front xs ys rest

-- the text of both is that of the first, and then the records of the second
pub text_joined : (files : List (List ℕ)) (report other : Report) (records : List ℕ)
    → report_text files other ≡ line header ++ records
    → report_text files (joined_report report other) ≡ report_text files report ++ records
text_joined files report other records e =
    ap (λ l. line header ++ l) (flat_map-append (sender_text files) report.senders (map (row_after (length report.senders)) other.senders)
    ∙ ap (λ l. flat_map (sender_text files) report.senders ++ l)
    (rows-text files (length report.senders) other.senders
    ∙ same_rest (line header) (flat_map (sender_text files) other.senders) records e))
    ∙ sym (append_assoc (line header) (flat_map (sender_text files) report.senders) records)
