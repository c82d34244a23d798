use Rattle.std.proofs.Common.{rules, ◌≡◌, ◌∙◌, ◌+◌, None, length, slice_get, refl, sym, arith, vec_len}
use Rattle.audit_files.specs.Requests.{close_of, closes_in, order_fault, requests_in}
use Rattle.audit_files.specs.Body.Requests.{fields_in}
use Rattle.audit_files.proofs.RequestRecords.{close_row, counted, listed_close, listed_request, request_row}
use Rattle.audit_files.proofs.requests.RequestList.add_row.Goals as goal

pub returns-in-Some-clause-ok : goal.returns-in-Some-clause-ok
returns-in-Some-clause-ok c = λ before holds at.
    let open_yet : slice_get (closes_in before) 0 ≡ None = search (rules, holds.close, c.if-is_some.ensures) in
    let s = close_row before (fields_in c.args.fields) c.args.fields c.in-Some.count refl open_yet (sym c.in-Some.ensures) in
    (s.0, listed_close c.args.self.now _ before (fields_in c.args.fields) c.in-Some.count holds s.1 s.2 refl refl refl refl)

pub returns-in-Ok-clause-ok : goal.returns-in-Ok-clause-ok
returns-in-Ok-clause-ok c = λ before holds at.
    let open_yet : slice_get (closes_in before) 0 ≡ None = search (rules, holds.close, c.if-is_some.ensures) in
    let (r, asked, number, list) = c.in-Ok.ensures.kept in
    let no_close : close_of (fields_in c.args.fields) ≡ None = search rules in
    let long : length c.args.self.now.list.items ≡ vec_len c.args.self.now.list = search rules in
    let total = counted c.args.self.now before holds in
    let count : c.args.self.now.earlier + c.len.result ≡ length (requests_in before) = omega (arith, total, c.len.ensures, long) in
    let in_order : order_fault (length before + 2) (requests_in before) r.number ≡ None =
    rw (number, ← at) (search (rules, c.order_fault.ensures.fault (requests_in before) holds.last count)) in
    let s = request_row before (fields_in c.args.fields) c.args.fields r refl open_yet no_close asked in_order in (
      s.0,
      listed_request c.args.self.now _ before (fields_in c.args.fields) r holds s.1 s.2 list (c.in-Ok.ensures.last
          ∙ sym number) c.keep.ensures.same.0 c.keep.ensures.same.1,
    )
