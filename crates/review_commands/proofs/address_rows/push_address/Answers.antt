use Rattle.std.proofs.Common.{◌∙◌, ◌<◌, ◌+◌, ◌++◌, ◌∷◌, [], List, length, ap, sym, arith, length-append}
use Rattle.csv.specs.Records.{fields_of}
use Rattle.audit_files.proofs.RequestRecords.{stating_row}
use Rattle.review_commands.specs.Addresses.{host_address_of}
use Rattle.review_commands.proofs.address_rows.push_address.Goals as goal

pub returns-in-Ok-keep-clause-ok : goal.returns-in-Ok-keep-clause-ok
returns-in-Ok-keep-clause-ok c = λ before holds at.
    let list = c.args.list.now.items in
    let p = c.in-Some.address in
    let fields = fields_of c.args.record.now in
    let below : length before < 100000 = omega (arith, holds.1, c.len.ensures) in
    let s = stating_row host_address_of before fields p (sym c.in-Ok.ensures ∙ c.in-Some.is) below in (
      s.0,
      (
        c.in-Ok-keep.ensures ∙ ap (λ (l : List _). l ++ p ∷ []) holds.0 ∙ sym s.1,
        ap length c.in-Ok-keep.ensures ∙ length-append list (p ∷ []) ∙ ap (λ n. n + 1) holds.1 ∙ sym s.2,
      ),
    )
