use Rattle.std.proofs.Common.{◌≡◌, ◌<◌, ◌%◌, length, refl, sym, ap, ◌∙◌, arith}
use Rattle.std.proofs.lemmas.Bool.{eqb-true}
use Rattle.std.specs.Prelude.{slice_get, Some}
use Rattle.std.proofs.lemmas.Option.{slice_get_read}
use Rattle.sudo_verdict.proofs.Misses.{row-there, row-within, posted_none, bit-outside}
use Rattle.sudo_verdict.proofs.index.rows.Rows.is_empty.Goals as goal

pub returns : goal.returns
returns c empty rule =
    let rows = c.args.self.now.rows.items in
    let within : c.row_index.result < length rows = row-within rows c.args.number c.row_index.result c.row_index.ensures c.requires in
    let there : slice_get rows (c.args.number % length rows) ≡ Some c.index.result.now =
    row-there rows c.args.number c.row_index.result c.index.result.now c.row_index.ensures
    (slice_get_read rows (length rows) c.row_index.result c.index.result.now refl within c.index.ensures) in
    let none = eqb-true (length c.as_slice.result.now) 0 (sym c.is_empty.ensures ∙ empty) in
    let same = ap length c.as_slice.ensures.value in
    posted_none rows c.args.number rule c.index.result.now there (bit-outside c.index.result.now.items rule (omega (arith, none, same)))
