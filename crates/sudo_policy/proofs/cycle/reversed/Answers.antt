use Rattle.std.proofs.Common.{◌≡◌, ◌+◌, ℕ, List, Option, Some, drop, length, refl, sym, ap, ◌∙◌, subst, arith}
use Rattle.std.specs.Prelude.{slice_get}
use Rattle.std.proofs.lemmas.Option.{slice_get_read}
use lib.Seq.{take_at}
use Rattle.sudo_policy.specs.Body.Marking.{ReversesUpTo, ReversesRow}
use Rattle.sudo_policy.proofs.MarkingLemmas.{row-inside, ReversesUpTo-next}
use Rattle.sudo_policy.proofs.cycle.reversed.Goals as goal

pub turn_row-requires : goal.turn_row-requires
turn_row-requires c =
    let g = c.args.links.now in
    let at : slice_get g c.loop-from.from ≡ Some c.as_slice.result.now =
    slice_get_read g (length g) c.loop-from.from c.index-links-from.result refl c.loop-from-test.true
    c.index-links-from.is ∙ ap Some (sym c.as_slice.ensures) in
    let long = c.as_mut_slice.ensures.len in
    let held = c.loop-from.back.ok.0 in
    let same = c.loop-from.invariant.same_length in
    record {
      inside = λ i h. (let less = row-inside g c.loop-from.from c.as_slice.result.now c.requires.closed at i
          h in omega (arith, less, long, held, same));
    }

pub loop-from-preserved : goal.loop-from-preserved
loop-from-preserved c =
    let g = c.args.links.now in
    let at : slice_get g c.loop-from.from ≡ Some c.as_slice.result.now =
    slice_get_read g (length g) c.loop-from.from c.index-links-from.result refl c.loop-from-test.true
    c.index-links-from.is ∙ ap Some (sym c.as_slice.ensures) in
    let new = c.turn_row.new.back in
    let row : ReversesRow c.loop-from.from c.as_slice.result.now c.loop-from.back.items new =
    subst (λ (xs : List (List (Option ℕ))). ReversesRow c.loop-from.from c.as_slice.result.now xs new)
    c.as_mut_slice.ensures.value c.in_ok-turn_row.ensures in
    let same = row.same_length in
    let held = c.loop-from.back.ok.0 in
    subst (λ (back : List (List (Option ℕ))). ReversesUpTo g (c.loop-from.from + 1) back)
    (sym (take_at new (drop (length new) c.loop-from.back.items) c.loop-from.back.len (omega (arith, same, held))))
    (ReversesUpTo-next g c.loop-from.back.items new c.loop-from.from c.as_slice.result.now at c.loop-from.invariant row)
