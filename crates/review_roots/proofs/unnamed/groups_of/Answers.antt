use Rattle.std.proofs.Common.{◌&&◌, option_copied}
use Rattle.std.proofs.lemmas.Bool.{and_parts}
use Rattle.sudo_grammar.specs.declared.kind.Kind.TheVariants as kind
use Rattle.sudo_policy.specs.Resolving.{resolves, runas_resolves}
use Rattle.review_roots.specs.Blocks.{block_resolves}
use Rattle.review_grants.proofs.ListSteps.{all-there}
use Rattle.review_roots.proofs.unnamed.groups_of.Goals as goal

pub push_runas_groups-requires : goal.push_runas_groups-requires
push_runas_groups-requires c =
    let p = c.args.checked.now in
    let b = c.block-item.result in
    (and_parts (resolves kind.User p b.users.now && resolves kind.Host p b.hosts.now) (runas_resolves p (option_copied b.runas))
    (all-there (block_resolves p) c.args.blocks.now c.loop-block.block-index b c.loop-block-test.true c.block-item.is c.requires)).1
