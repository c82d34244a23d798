use Rattle.std.proofs.Common.{◌∷◌, [], ℕ, List, Option, None, length, take, get_or, sym, subst}
use Rattle.std.proofs.lemmas.List.{take_more}
use Rattle.sudo_policy.specs.Body.Graph.{IsInside}
use Rattle.sudo_policy.specs.Body.Marking.{ReversesRow}
use Rattle.sudo_policy.proofs.MarkingLemmas.{inside_row, ReversesRow-append}
use Rattle.sudo_policy.proofs.cycle.turn_row.Goals as goal

pub turn_link-requires : goal.turn_link-requires
turn_link-requires c = record {
  inside = subst (IsInside (get_or c.args.row.now c.loop-link.link-index None ∷ [])) (sym c.loop-link.invariant.same_length)
      (inside_row c.args.row.now (length c.args.back.now) c.loop-link.link-index None c.requires.inside c.loop-link-test.true);
}

pub loop-link-preserved : goal.loop-link-preserved
loop-link-preserved c =
    let row = c.args.row.now in
    let at = c.loop-link.link-index in
    subst (λ (r : List (Option ℕ)). ReversesRow c.args.from r c.args.back.now c.turn_link.new.back)
    (sym (take_more row at None c.loop-link-test.true))
    (ReversesRow-append (take at row) (get_or row at None ∷ []) c.args.from c.args.back.now c.loop-link.back
    c.turn_link.new.back c.loop-link.invariant c.in_ok-turn_link.ensures)
