use Rattle.std.proofs.Common.{◌∙◌, ◌++◌, List, ap, sym}
use Rattle.sudo_grammar.specs.declared.kind.Atom.{Atom}
use Rattle.review_compare.specs.Body.LineAtoms.{block_atoms}
use Rattle.review_compare.proofs.LineLemmas.{atoms-push}
use Rattle.review_compare.proofs.lines.all_atoms.Goals as goal

pub loop-block-preserved : goal.loop-block-preserved
loop-block-preserved c =
    let i = c.loop-block.block-index in
    let b = c.block-item.result in
    c.in_ok-push_atoms.ensures ∙ ap (λ (atoms : List Atom). atoms ++ block_atoms b) c.loop-block.invariant
    ∙ sym (atoms-push c.args.blocks.now i b c.loop-block-test.true c.block-item.is)
