use Rattle.std.proofs.Common.{◌≡◌, ◌∙◌, ◌+◌, ◌++◌, List, ap, drop, flat_map, subst, sym, take}
use Rattle.sudo_grammar.specs.declared.kind.Atom.{Atom}
use Rattle.review_grants.proofs.ListSteps.{all-there, flat-one, take-more}
use Rattle.review_compare.specs.Blocks.{block_resolves, block_wides}
use Rattle.review_compare.specs.Cells.{Wide, lined}
use Rattle.review_compare.specs.Lines.{nowhere}
use Rattle.review_compare.specs.Body.LineAtoms.{IsWalk, line_behind}
use Rattle.review_compare.proofs.LineLemmas.{atoms-next, atoms_of, behind-append, lined-append}
use Rattle.review_compare.proofs.lines.walked_blocks.Goals as goal

pub loop-block-preserved : goal.loop-block-preserved
loop-block-preserved c =
    let bs = c.args.blocks.now in
    let i = c.loop-block.block-index in
    let b = c.block-item.result in
    let so_far : List Wide = flat_map block_wides (take i bs) in
    let line = line_behind nowhere so_far in
    let rest = atoms_of (drop (i + 1) bs) in
    let more : flat_map block_wides (take (i + 1) bs) ≡ so_far ++ block_wides b =
    ap (flat_map block_wides) (take-more bs i b c.loop-block-test.true c.block-item.is) ∙ flat-one block_wides (take i bs) b in
    let walk =
    subst (λ (atoms : List Atom). IsWalk c.loop-block.walk line atoms) (atoms-next bs i b c.loop-block-test.true c.block-item.is)
    c.loop-block.invariant.walk in
    record {
      walk = subst (λ l. IsWalk c.in_ok-walk.walk l rest)
          (sym (ap (line_behind nowhere) more ∙ behind-append nowhere so_far (block_wides b)))
          (c.in_ok-walk.ensures.walk line rest walk);
      rows = c.in_ok-walk.ensures.rows line rest walk
          ∙ ap (λ (ws : List Wide). ws ++ lined line (block_wides b)) c.loop-block.invariant.rows
          ∙ sym (ap (lined nowhere) more ∙ lined-append nowhere so_far (block_wides b));
      resolve = λ p all. c.in_ok-walk.ensures.resolve p (all-there (block_resolves p) bs i b c.loop-block-test.true c.block-item.is all)
          (c.loop-block.invariant.resolve p all);
    }
