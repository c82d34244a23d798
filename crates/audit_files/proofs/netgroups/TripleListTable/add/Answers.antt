use Rattle.std.proofs.Common.{◌∙◌, ◌<◌, ◌+◌, ◌++◌, ◌∷◌, [], List, length, ap, sym, arith, length-append}
use Rattle.csv.specs.Records.{fields_of}
use Rattle.audit_files.specs.Netgroups.{triple_of}
use Rattle.audit_files.proofs.RequestRecords.{stating_row}
use Rattle.audit_files.proofs.netgroups.TripleListTable.add.Goals as goal

pub returns-in-Ok-keep-clause-ok : goal.returns-in-Ok-keep-clause-ok
returns-in-Ok-keep-clause-ok c = λ before holds at.
    let list = c.args.self.now.list.items in
    let p = c.in-Some.triple in
    let fields = fields_of c.args.record.now in
    let below : length before < 100000 = omega (arith, holds.1, c.len.ensures) in
    let s = stating_row triple_of before fields p (sym c.in-Ok.ensures ∙ c.in-Some.is) below in (
      s.0,
      (
        c.in-Ok-keep.ensures ∙ ap (λ (l : List _). l ++ p ∷ []) holds.0 ∙ sym s.1,
        ap length c.in-Ok-keep.ensures ∙ length-append list (p ∷ []) ∙ ap (λ n. n + 1) holds.1 ∙ sym s.2,
      ),
    )
