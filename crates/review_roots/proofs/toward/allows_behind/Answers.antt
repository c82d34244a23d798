use Rattle.std.proofs.Common.{◌∙◌, ◌&&◌, ap, get_or, option_copied, sym}
use Rattle.std.proofs.lemmas.Bool.{and_parts}
use Rattle.sudo_grammar.specs.declared.kind.Kind.TheVariants as kind
use Rattle.sudo_policy.specs.Resolving.{resolves, runas_resolves}
use Rattle.sudo_verdict.specs.Questions.{question_as}
use Rattle.review_roots.specs.Blocks.{block_resolves}
use Rattle.review_roots.specs.Body.Alike.{HaveAlikeRunas}
use Rattle.review_roots.specs.Body.Raising.{passes}
use Rattle.review_roots.specs.Body.Towards.{asker_allowed}
use Rattle.review_grants.proofs.ListSteps.{all-there, index-there}
use Rattle.review_roots.proofs.LoopLemmas.{there}
use Rattle.review_roots.proofs.SoleLemmas.{like-at}
use Rattle.review_roots.proofs.toward.allows_behind.Goals as goal

pub returns-in-Some : goal.returns-in-Some
returns-in-Some c =
    let ground = c.args.ground in
    let p = ground.checked.now in
    let d = ground.directory.now in
    let a = c.args.asker in
    let first = c.earlier.ensures c.in-Some.first c.in-Some.is in
    c.is_at.ensures
    ∙ like-at (asker_allowed p d a) HaveAlikeRunas ground.blocks.now ground.runas.now c.args.allowed.now c.args.index c.in-Some.first
    (λ f b same. same p (question_as d a.user.now a.host.now (option_copied a.target) (option_copied a.group)))
    ground.alike_runas first.0 first.1 c.requires.inside c.requires.known

pub allows_runas-requires : goal.allows_runas-requires
allows_runas-requires c =
    let p = c.args.ground.checked.now in
    let bs = c.args.ground.blocks.now in
    let other = c.index-ground-index.result in
    let b = get_or bs c.args.index other in
    (and_parts (resolves kind.User p b.users.now && resolves kind.Host p b.hosts.now) (runas_resolves p (option_copied b.runas))
    (all-there (block_resolves p) bs c.args.index b c.requires.inside (index-there bs c.args.index other c.requires.inside)
    c.args.ground.resolve)).1

pub returns-in-None : goal.returns-in-None
returns-in-None c =
    c.allows_runas.ensures
    ∙ sym (ap (passes (asker_allowed c.args.ground.checked.now c.args.ground.directory.now c.args.asker))
    (there c.args.ground.blocks.now c.args.index c.index-ground-index.result c.requires.inside))
