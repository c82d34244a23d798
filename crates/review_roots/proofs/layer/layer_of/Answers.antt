use Rattle.std.proofs.Common.{◌∙◌, List, ap}
use Rattle.std.specs.Prelude.{fold}
use Rattle.review_roots.specs.declared.layer.Aimed.{Aimed}
use Rattle.review_roots.specs.Body.Firsts.{with_blocks, with_user}
use Rattle.review_roots.proofs.NotedLemmas.{aims-noted, in-order}
use Rattle.review_roots.proofs.layer.layer_of.Goals as goal

pub returns-clause-layer : goal.returns-clause-layer
returns-clause-layer c =
    let start = c.args.start in
    let aims = c.in_ok-aims.aims.items in
    let users = c.args.firsts.now.users.items in
    let blocks = c.args.firsts.now.blocks.items in
    let order = in-order c.args.sought c.args.level start c.args.found.now aims c.in_ok-aims.ensures.aims in
    record {
      aimed = c.in_ok-aims.ensures.aimed;
      like = c.in_ok-aims.ensures.like;
      order = order;
      noted = aims-noted start users blocks c.note_aims.new.self aims
          (c.note_aims.ensures.users ∙ ap (λ (xs : List Aimed). fold (with_user start) users xs) c.deref.ensures.value)
          (c.note_aims.ensures.blocks ∙ ap (λ (xs : List Aimed). fold (with_blocks start) blocks xs) c.deref.ensures.value) order;
    }
