use Rattle.std.proofs.Common.{◌≡◌, length, rules}
use Rattle.sudo_grammar.specs.Tags.{pairs}
use Rattle.review_grants.proofs.TagSteps.{later-at}
use Rattle.review_roots.proofs.blocks.with_later.Goals as goal

pub returns : goal.returns
returns c =
    let whole : length c.args.tags.choices ≡ length pairs = search (rules, c.well_formed) in
    later-at c.args.tags c.args.tag c.position.result whole c.position.ensures
