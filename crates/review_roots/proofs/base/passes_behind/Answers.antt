use Rattle.std.proofs.Common.{◌∙◌}
use Rattle.review_roots.specs.Blocks.{lists}
use Rattle.review_roots.specs.Body.Alike.{HaveAlike, user_list}
use Rattle.review_roots.proofs.SoleLemmas.{like-at, users-alike}
use Rattle.review_roots.proofs.base.passes_behind.Goals as goal

pub returns-in-Some : goal.returns-in-Some
returns-in-Some c =
    let ground = c.args.ground in
    let p = ground.checked.now in
    let u = c.args.person.now in
    let first = c.earlier.ensures c.in-Some.first c.in-Some.is in
    c.is_at.ensures
    ∙ like-at (lists p u) (HaveAlike user_list) ground.blocks.now ground.alike.now c.args.passes.now c.args.index c.in-Some.first
    (users-alike p u) ground.likened first.0 first.1 c.requires.inside c.requires.known
