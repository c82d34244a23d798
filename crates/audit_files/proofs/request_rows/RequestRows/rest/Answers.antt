use Rattle.std.proofs.Common.{◌≡◌, ◌+◌, ◌∙◌, ◌++◌, ℕ, List, length, take, sym, ap, slice_get, arith}
use Rattle.audit_files.specs.Requests.{closes_in, request_fault, requests_in}
use Rattle.audit_files.specs.Rows.{first_fault, records_of}
use Rattle.audit_files.proofs.RowByRow.{fault_behind, held_last, held_long, stated_behind, with_header}
use Rattle.audit_files.proofs.request_rows.RequestRows.rest.Goals as goal

pub returns-in-Ok-clause-stated : goal.returns-in-Ok-clause-stated
returns-in-Ok-clause-stated c = λ text requests read.
    let rows = c.args.self in
    let h = with_header rows text requests c.if-not-self.false read in
    let held = c.behind-table.ensures.holds h.before (held_long rows text requests h) (held_last rows text requests h) h.open_yet in
    let few = h.few in
    let count = h.count in
    let each = h.each in
    let row : c.saturating_add-row.result ≡ length h.before + 2 = omega (arith, c.saturating_add-row.ensures, few, count, each) in
    let all = c.in-Ok.ensures.ok h.before held row in
    let same : c.gather_from.new.table.earlier ≡ rows.count = c.gather_from.ensures.earlier ∙ c.behind-table.ensures.earlier in
    let (list, close) = c.into_requests.ensures _ all.1 in
    let left = λ (bytes : List ℕ). h.before ++ records_of bytes in
    stated_behind rows text requests h c.into_requests.result
    (sym (ap (λ (bytes : List ℕ). first_fault request_fault h.before (records_of bytes)) c.left.ensures) ∙ all.0)
    (sym (λ i. take (same i) (requests_in (left (c.left.ensures i))) ++ c.into_requests.result.list) ∙ list
    ∙ ap (λ (bytes : List ℕ). requests_in (left bytes)) c.left.ensures)
    (close ∙ ap (λ (bytes : List ℕ). slice_get (closes_in (left bytes)) 0) c.left.ensures)

pub returns-clause-fault : goal.returns-clause-fault
returns-clause-fault c = λ of_file text requests read.
    let rows = c.args.self in
    let h = with_header rows text requests c.if-not-self.false read in
    let held = c.behind-table.ensures.holds h.before (held_long rows text requests h) (held_last rows text requests h) h.open_yet in
    let few = h.few in
    let count = h.count in
    let each = h.each in
    let row : c.saturating_add-row.result ≡ length h.before + 2 = omega (arith, c.saturating_add-row.ensures, few, count, each) in
    fault_behind rows text requests h c.in-Err.fault
    (sym (ap (λ (bytes : List ℕ). first_fault request_fault h.before (records_of bytes)) c.left.ensures)
    ∙ c.in-Err.ensures.err of_file h.before held row)
