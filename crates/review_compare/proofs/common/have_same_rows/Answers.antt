use Rattle.std.proofs.Common.{◌∙◌, ap, append-nil, map, sym}
use Rattle.review_compare.specs.Cells.{ruling_by}
use Rattle.review_compare.specs.Body.Chosen.{deciders_at}
use Rattle.review_compare.specs.Body.Shown.{ruling_of, shown}
use Rattle.review_grants.proofs.ListSteps.{map-twice}
use Rattle.review_compare.proofs.common.have_same_rows.Goals as goal

pub returns : goal.returns
returns c = λ e.
    let own = c.in_ok-own.own.items in
    let others = c.in_ok-others.others.items in
    let rows = c.in_ok-own.ensures ∙ append-nil (deciders_at c.args.old.now c.args.index) in
    let more = c.in_ok-others.ensures ∙ append-nil (deciders_at c.args.new.now c.args.other) in
    ap (map ruling_by) (sym rows) ∙ map-twice ruling_by shown own
    ∙ ap (map ruling_of) (sym c.deref.ensures.value) ∙ c.have_same_rulings.ensures e ∙ ap (map ruling_of) c.deref-2.ensures.value
    ∙ sym (map-twice ruling_by shown others) ∙ ap (map ruling_by) more
