use Rattle.std.proofs.Common.{◌∷◌, [], ℕ, List, Option, None, length, take, get_or, sym, subst}
use Rattle.std.proofs.lemmas.List.{take_more}
use Rattle.sudo_policy.specs.Body.Graph.{IsInside}
use Rattle.sudo_policy.specs.Body.Marking.{MarksRow}
use Rattle.sudo_policy.proofs.MarkingLemmas.{inside_row, MarksRow-append}
use Rattle.sudo_policy.proofs.reach.mark_row.Goals as goal

pub mark_link-requires : goal.mark_link-requires
mark_link-requires c = record {
  inside = subst (IsInside (get_or c.args.row.now c.loop-link.link-index None ∷ [])) (sym c.loop-link.invariant.same_length)
      (inside_row c.args.row.now (length c.args.marks.now) c.loop-link.link-index None c.requires.inside c.loop-link-test.true);
}

pub loop-link-preserved : goal.loop-link-preserved
loop-link-preserved c =
    let row = c.args.row.now in
    let at = c.loop-link.link-index in
    subst (λ (r : List (Option ℕ)). MarksRow r c.args.marks.now c.args.work.now.items c.mark_link.new.marks
    c.mark_link.new.work.items) (sym (take_more row at None c.loop-link-test.true))
    (MarksRow-append (take at row) (get_or row at None ∷ []) c.args.marks.now c.loop-link.marks c.mark_link.new.marks
    c.args.work.now.items c.loop-link.work.items c.mark_link.new.work.items c.loop-link.invariant c.in_ok-mark_link.ensures)
