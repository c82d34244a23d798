use Rattle.std.proofs.Common.{◌≡◌, ◌<◌, ◌≤◌, ◌∙◌, ◌+◌, ◌++◌, List, ap, get_or, length, map, subst}
use Rattle.std.proofs.Math.ListN.{drop_of_length-le}
use Rattle.std.proofs.lemmas.List.{take_all}
use Rattle.sudo_grammar.specs.declared.kind.Atom.{Atom}
use Rattle.review_compare.specs.declared.block.BlockRow.{BlockRow}
use Rattle.review_compare.specs.Blocks.{block_wide}
use Rattle.review_compare.specs.Cells.{Wide, lined}
use Rattle.review_compare.specs.Lines.{Line}
use Rattle.review_compare.specs.Body.LineAtoms.{IsWalk, kept_row, line_behind, row_atom, turned}
use Rattle.review_compare.proofs.LineLemmas.{first_wides, other-next, other_atoms, row-behind, row-lined}
use Rattle.review_compare.proofs.lines.walked_rows.Goals as goal

pub loop-row-preserved : goal.loop-row-preserved
loop-row-preserved c = λ l rest walk.
    let b = c.args.block.now in
    let i = c.loop-row.row-index in
    let r = c.row-item.result in
    let same = c.deref-row-items.ensures.value in
    let less : i < length b.rows.items = subst (λ (rs : List BlockRow). i < length rs) same c.loop-row-test.true in
    let is : r ≡ get_or b.rows.items i r = c.row-item.is ∙ ap (λ (rs : List BlockRow). get_or rs i r) same in
    let so_far = c.loop-row.invariant l rest walk in
    let here : Line = turned (line_behind l (first_wides b i)) b.place in
    let next = other-next b i r rest less is in
    let at = c.at_line-walk.ensures (line_behind l (first_wides b i)) (other_atoms b i rest) so_far.1 in
    let before = c.before-in-loop-row.ensures here (other_atoms b i rest) at in (
      row-lined b i r l c.loop-row.rows.items c.push_row.new.rows.items less is so_far.0
          (c.in_ok-push_row.ensures b
          ∙ ap (λ (atoms : List Atom). map (block_wide b) c.loop-row.rows.items ++ kept_row b atoms r) before),
      row-behind b i r l c.behind-walk.result rest less is
          (c.behind-walk.ensures here r.shape.atom (other_atoms b (i + 1) rest) c.is_note.ensures
          (subst (λ (atoms : List Atom). IsWalk c.at_line-walk.result here atoms) next at)),
    )

pub returns : goal.returns
returns c = λ l rest walk.
    let b = c.args.block.now in
    let i = c.loop-row.row-index in
    let same = c.deref-row-items.ensures.value in
    let so_far = c.loop-row.invariant l rest walk in
    let all : length b.rows.items ≤ i = subst (λ (rs : List BlockRow). length rs ≤ i) same c.loop-row-test.false in
    let whole : first_wides b i ≡ map (block_wide b) b.rows.items = ap (map (block_wide b)) (take_all i b.rows.items all) in
    let none : other_atoms b i rest ≡ rest =
    ap (λ (rs : List BlockRow). map row_atom rs ++ rest) (drop_of_length-le b.rows.items all) in
    record {
      rows = so_far.0 ∙ ap (lined l) whole;
      walk = subst (λ (ws : List Wide). IsWalk c.loop-row.walk (line_behind l ws) rest) whole
          (subst (λ (atoms : List Atom). IsWalk c.loop-row.walk (line_behind l (first_wides b i)) atoms) none so_far.1);
    }
