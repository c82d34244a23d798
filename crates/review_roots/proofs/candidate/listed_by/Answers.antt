use Rattle.std.proofs.Common.{◌∙◌, Bool, List, ap, false, sym}
use Rattle.std.specs.List.{slice_index_or}
use Rattle.review_roots.proofs.NamingLemmas.{beside-any}
use Rattle.review_roots.proofs.candidate.listed_by.Goals as goal

pub listed_beside-requires : goal.listed_beside-requires
listed_beside-requires c = λ k b at none.
    let ground = c.args.ground in
    ap (λ (xs : List Bool). slice_index_or xs k false) c.deref.ensures.value
    ∙ beside-any ground.checked.now ground.directory.now ground.blocks.now ground.groups.now c.args.state c.args.base.now c.requires.base
    c.requires.user c.args.person.now c.requires.person c.args.rows.now c.requires.rows k b at
    (sym (ap (λ (xs : List Bool). slice_index_or xs k false) c.row_for.ensures) ∙ none)
