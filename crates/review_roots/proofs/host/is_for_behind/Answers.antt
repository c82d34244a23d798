use Rattle.std.proofs.Common.{◌∙◌, ◌&&◌, ap, get_or, option_copied, sym}
use Rattle.std.proofs.lemmas.Bool.{and_parts}
use Rattle.sudo_grammar.specs.declared.kind.Kind.TheVariants as kind
use Rattle.sudo_policy.specs.Resolving.{resolves, runas_resolves}
use Rattle.review_roots.specs.Blocks.{block_resolves, is_for}
use Rattle.review_roots.specs.Body.Alike.{HaveAlike, host_list}
use Rattle.review_roots.specs.Body.Raising.{passes}
use Rattle.review_grants.proofs.ListSteps.{all-there, index-there}
use Rattle.review_roots.proofs.LoopLemmas.{there}
use Rattle.review_roots.proofs.SoleLemmas.{hosts-alike, like-at}
use Rattle.review_roots.proofs.host.is_for_behind.Goals as goal

pub returns-in-Some : goal.returns-in-Some
returns-in-Some c =
    let p = c.args.checked.now in
    let m = c.args.host.now in
    let first = c.earlier.ensures c.in-Some.first c.in-Some.is in
    c.is_at.ensures
    ∙ like-at (is_for p m) (HaveAlike host_list) c.args.blocks.now c.args.alike.now c.args.on.now c.args.index c.in-Some.first
    (hosts-alike p m) c.requires.alike first.0 first.1 c.requires.inside c.requires.known

pub lists_host-requires : goal.lists_host-requires
lists_host-requires c =
    let p = c.args.checked.now in
    let bs = c.args.blocks.now in
    let other = c.index-blocks-index.result in
    let b = get_or bs c.args.index other in
    (and_parts (resolves kind.User p b.users.now) (resolves kind.Host p b.hosts.now)
    (and_parts (resolves kind.User p b.users.now && resolves kind.Host p b.hosts.now) (runas_resolves p (option_copied b.runas))
    (all-there (block_resolves p) bs c.args.index b c.requires.inside (index-there bs c.args.index other c.requires.inside)
    c.requires.resolve)).0).1

pub returns-in-None : goal.returns-in-None
returns-in-None c =
    c.lists_host.ensures
    ∙ sym (ap (passes (is_for c.args.checked.now c.args.host.now))
    (there c.args.blocks.now c.args.index c.index-blocks-index.result c.requires.inside))
