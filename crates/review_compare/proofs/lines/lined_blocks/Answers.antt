use Rattle.std.proofs.Common.{◌∙◌, List, ap, flat_map, refl, sym}
use Rattle.sudo_verdict.specs.Grants.{grants}
use Rattle.review_compare.specs.declared.block.Block.{Block}
use Rattle.review_compare.specs.Blocks.{block_wides}
use Rattle.review_compare.specs.Lines.{nowhere}
use Rattle.review_compare.specs.Body.LineAtoms.{has_note}
use Rattle.review_compare.proofs.LineLemmas.{unnoted-lined}
use Rattle.review_compare.proofs.lines.lined_blocks.Goals as goal

pub returns-then-not-has_note-clause-rows : goal.returns-then-not-has_note-clause-rows
returns-then-not-has_note-clause-rows c =
    c.requires.grants
    ∙ sym (unnoted-lined nowhere (grants c.args.checked.now) refl
    (sym (ap has_note c.requires.grants)
    ∙ sym (ap (λ (bs : List Block). has_note (flat_map block_wides bs)) c.deref.ensures.value)
    ∙ sym c.has_note.ensures ∙ c.if-not-has_note.true))
