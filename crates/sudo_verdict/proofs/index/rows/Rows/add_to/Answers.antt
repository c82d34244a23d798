use Rattle.std.proofs.Common.{◌≡◌, ◌<◌, ◌%◌, ◌*◌, ◌+◌, ◌-◌, length, drop, take, refl, sym, ap, ◌∙◌, arith}
use Rattle.std.specs.Prelude.{slice_get, Some}
use Rattle.std.proofs.lemmas.Option.{slice_get_read}
use Rattle.sudo_verdict.specs.Postings.{bit}
use Rattle.sudo_verdict.proofs.Misses.{row-there, row-within, posted_none, bit-drop, bit-past}
use Rattle.sudo_verdict.proofs.index.rows.Rows.add_to.Goals as goal

pub returns-then-first-row-clause-adds : goal.returns-then-first-row-clause-adds
returns-then-first-row-clause-adds c i none =
    let rows = c.args.self.now.rows.items in
    let within : c.row_index.result < length rows = row-within rows c.args.number c.row_index.result c.row_index.ensures c.requires in
    let there : slice_get rows (c.args.number % length rows) ≡ Some c.index.result.now =
    row-there rows c.args.number c.row_index.result c.index.result.now c.row_index.ensures
    (slice_get_read rows (length rows) c.row_index.result c.index.result.now refl within c.index.ensures) in
    let added = c.or_words.ensures.adds i none in (
      added.0,
      λ h. posted_none rows c.args.number (64 * c.args.first + i) c.index.result.now there
          (sym (bit-drop c.index.result.now.items c.args.first i)
          ∙ ap (λ ws. bit (take (length ws - c.args.first) (drop c.args.first ws)) i) (sym c.as_slice-row.ensures.value) ∙ added.1 h),
    )

pub returns-else-first-row-clause-adds : goal.returns-else-first-row-clause-adds
returns-else-first-row-clause-adds c i none =
    let rows = c.args.self.now.rows.items in
    let within : c.row_index.result < length rows = row-within rows c.args.number c.row_index.result c.row_index.ensures c.requires in
    let there : slice_get rows (c.args.number % length rows) ≡ Some c.index.result.now =
    row-there rows c.args.number c.row_index.result c.index.result.now c.row_index.ensures
    (slice_get_read rows (length rows) c.row_index.result c.index.result.now refl within c.index.ensures) in
    let past = c.if-first-row.false in
    let same = ap length c.as_slice-row.ensures.value in (
      none,
      λ h. posted_none rows c.args.number (64 * c.args.first + i) c.index.result.now there
          (bit-past c.index.result.now.items c.args.first i (omega (arith, past, same))),
    )
