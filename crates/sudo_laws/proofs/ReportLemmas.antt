-- The records of the text of a report.
use Rattle.std.proofs.Common.{◌≡◌, ℕ, zero, suc, ◌+◌, ◌≤◌, List, [], ◌∷◌, ◌++◌, map, flat_map, length, refl, sym, ◌∙◌, ap, arith}
use Rattle.std.proofs.Common.{length-append, append_assoc}
use Rattle.std.proofs.lemmas.List.{map-append}
use Rattle.audit_collect.specs.declared.arrival.Answer.{Answer}
use Rattle.audit_collect.specs.declared.report.Report.{Report}
use Rattle.audit_collect.specs.declared.report.SenderReport.{SenderReport}
use Rattle.audit_files.specs.Report.{answer_fields, header, line, report_text, sender_text}
use Rattle.audit_files.specs.Rows.{Fields, records_of}
use Rattle.csv.proofs.RoundTrip.{read-write, rows_text}
use Rattle.csv.specs.Machine.{next_record}
use Rattle.csv.specs.Reading.{default_config, records_from, records_next, strip_bom}
use Rattle.csv.specs.Writing.{default_writer, escaped, fields_text, is_blank, read_back, row_body, row_text}
use Rattle.csv.specs.declared.parser.State.TheVariants as st

-- ---- Records of rows

-- a text of rows, read to its end
records_all : (rows : List Fields) (n : ℕ) → length rows ≤ n
    → records_from default_config n st.StartRecord (rows_text rows) ≡ map read_back rows
unfolding records_from rows_text next_record
records_all [] zero le = refl
records_all [] (suc n) le = refl
records_all (row ∷ rows) zero le = absurd (omega (arith, le))
records_all (row ∷ rows) (suc n) le =
    ap (records_next (records_from default_config n)) (read-write row (rows_text rows))
    ∙ ap (λ rest. read_back row ∷ rest) (records_all rows n (omega (arith, le)))

-- each row has a byte
some_bytes : (row : Fields) → 1 ≤ length (row_text default_writer row)
some_bytes row =
    let body : List ℕ = row_body default_writer row in
    by body _
  where
    by : (body blank : List ℕ) → 1 ≤ length (body ++ (blank ++ 10 ∷ []))
    by body blank = omega (arith, length-append body (blank ++ 10 ∷ []), length-append blank (10 ∷ []))

rows_short : (rows : List Fields) → length rows ≤ length (rows_text rows)
unfolding rows_text
rows_short [] = omega arith
rows_short (row ∷ rows) =
    let here = some_bytes row in
    let rest = rows_short rows in
    omega (arith, here, rest, length-append (row_text default_writer row) (rows_text rows))

-- ---- The rows of a report

abbrev sender_rows : List (List ℕ) → SenderReport → List Fields
sender_rows files s = map (answer_fields files s.name) s.answers

abbrev answer_rows : List (List ℕ) → List SenderReport → List Fields
answer_rows files senders = flat_map (sender_rows files) senders

rows_both : (xs ys : List Fields) → rows_text (xs ++ ys) ≡ rows_text xs ++ rows_text ys
unfolding rows_text
rows_both [] ys = refl
rows_both (x ∷ xs) ys =
    ap (λ t. row_text default_writer x ++ t) (rows_both xs ys)
    ∙ sym (append_assoc (row_text default_writer x) (rows_text xs) (rows_text ys))

sender_lines : (files : List (List ℕ)) (name : List ℕ) (answers : List Answer)
    → flat_map (λ a. line (answer_fields files name a)) answers ≡ rows_text (map (answer_fields files name) answers)
unfolding rows_text
sender_lines files name [] = refl
sender_lines files name (a ∷ answers) = ap (λ t. line (answer_fields files name a) ++ t) (sender_lines files name answers)

report_lines : (files : List (List ℕ)) (senders : List SenderReport)
    → flat_map (sender_text files) senders ≡ rows_text (answer_rows files senders)
unfolding rows_text
report_lines files [] = refl
report_lines files (s ∷ senders) =
    ap (λ t. t ++ flat_map (sender_text files) senders) (sender_lines files s.name s.answers)
    ∙ ap (λ t. rows_text (sender_rows files s) ++ t) (report_lines files senders)
    ∙ sym (rows_both (sender_rows files s) (answer_rows files senders))

sender_kept : (files : List (List ℕ)) (name : List ℕ) (answers : List Answer)
    → map read_back (map (answer_fields files name) answers) ≡ map (answer_fields files name) answers
sender_kept files name [] = refl
sender_kept files name (a ∷ answers) = ap (λ rows. answer_fields files name a ∷ rows) (sender_kept files name answers)

report_kept : (files : List (List ℕ)) (senders : List SenderReport)
    → map read_back (answer_rows files senders) ≡ answer_rows files senders
report_kept files [] = refl
report_kept files (s ∷ senders) =
    map-append read_back (sender_rows files s) (answer_rows files senders)
    ∙ ap (λ rows. rows ++ map read_back (answer_rows files senders)) (sender_kept files s.name s.answers)
    ∙ ap (λ rows. sender_rows files s ++ rows) (report_kept files senders)

-- the text begins with no byte order mark
no_mark : (rest : List ℕ) → strip_bom (line header ++ rest) ≡ line header ++ rest
unfolding strip_bom fields_text is_blank escaped
no_mark rest = refl

pub report_read : (files : List (List ℕ)) (report : Report)
    → records_of (report_text files report) ≡ header ∷ answer_rows files report.senders
unfolding rows_text
report_read files report =
    let rows : List Fields = header ∷ answer_rows files report.senders in
    let text : report_text files report ≡ rows_text rows = ap (λ t. line header ++ t) (report_lines files report.senders) in
    let short = rows_short rows in
    ap (λ t. records_from default_config (length t + 1) st.StartRecord t)
    (no_mark (flat_map (sender_text files) report.senders) ∙ text)
    ∙ records_all rows (length (rows_text rows) + 1) (omega (arith, short))
    ∙ ap (λ rest. header ∷ rest) (report_kept files report.senders)
