use Rattle.std.proofs.Common.{rules, ◌≡◌, ◌-◌, ◌∙◌, ℕ, length, drop, true, sym, ap, None}
use Rattle.audit_files.specs.RequestRows.{bytes_behind}
use Rattle.audit_files.specs.Requests.{order_fault}
use Rattle.audit_files.proofs.RowByRow.{drop-to, of_header, one_read, with_header}
use Rattle.audit_files.proofs.request_rows.RequestRows.next.Goals as goal

pub returns-clause-request : goal.returns-clause-request
returns-clause-request c = λ text requests read.
    let old = c.args.self.now in
    let new = c.give_back.new.self in
    let has : old.has_header ≡ true = search (rules, c.if-not-self.false) in
    let h = with_header old text requests has read in
    let (front, behind) = c.in-Some.ensures.behind in
    let place : c.saturating_sub-self.result ≡ length old.text.items - length c.in-Some.after.now =
    search (rules, c.saturating_sub-self.ensures, c.len.ensures) in
    let order : order_fault 0 requests c.in_ok-request.request.number ≡ None =
    rw c.in_ok-request.ensures.number (search (rules, c.order_fault.ensures.fault requests h.last h.count)) in
    let left : bytes_behind new ≡ c.in-Some.after.now = c.give_back.ensures.left
    ∙ ap (λ (n : ℕ). drop n old.text.items) place ∙ drop-to old.text.items front c.in-Some.after.now old.at
    (sym c.left.ensures ∙ behind) in
    of_header new text _ (c.give_back.ensures.same.0 ∙ has)
    (one_read old new text requests c.in-Some.fields c.in_ok-request.request c.in-Some.after.now h
    (rw (← c.left.ensures) c.in-Some.ensures.reads) left c.in_ok-request.ensures.stated order (search (rules, c.order_fault.ensures.room))
    c.give_back.ensures.same.1 (c.give_back.ensures.same.2 ∙ sym c.in_ok-request.ensures.number))
