use Rattle.std.proofs.Common.{◌&&◌, ◌∙◌, ap, false, length, option_copied, refl, sym}
use Rattle.std.specs.List.{slice_index_or}
use Rattle.std.proofs.lemmas.Bool.{and_parts}
use Rattle.std.proofs.lemmas.Option.{slice_get_past, slice_get_read}
use Rattle.sudo_grammar.specs.declared.kind.Kind.TheVariants as kind
use Rattle.sudo_policy.specs.Resolving.{resolves, runas_resolves}
use Rattle.review_roots.specs.Blocks.{block_resolves}
use Rattle.review_roots.specs.Body.Raising.{passes}
use Rattle.review_roots.specs.Body.Towards.{asker_allowed}
use Rattle.review_grants.proofs.ListSteps.{all-there}
use Rattle.review_roots.proofs.steps.stands_at.Goals as goal

pub allows_runas-requires : goal.allows_runas-requires
allows_runas-requires c =
    let p = c.args.checked.now in
    let b = c.in-Some.block.now in
    (and_parts (resolves kind.User p b.users.now && resolves kind.Host p b.hosts.now) (runas_resolves p (option_copied b.runas))
    (all-there (block_resolves p) c.args.blocks.now c.args.index b c.in-Some.ensures.lookup.3.0 c.in-Some.ensures.lookup.1 c.requires)).1

pub returns-then-is_at : goal.returns-then-is_at
returns-then-is_at c =
    let p = c.args.checked.now in
    let d = c.args.directory.now in
    let bs = c.args.blocks.now in
    let on = c.args.on.now in
    let i = c.args.index in
    let b = c.in-Some.block.now in
    c.allows_runas.ensures
    ∙ sym (ap (λ a. a && asker_allowed p d c.args.asker b) (sym c.is_at.ensures ∙ c.if-is_at.true))
    ∙ sym (ap (passes (λ b. slice_index_or on i false && asker_allowed p d c.args.asker b))
    (slice_get_read bs (length bs) i b refl c.in-Some.ensures.lookup.3.0 c.in-Some.ensures.lookup.1))

pub returns-in-None : goal.returns-in-None
returns-in-None c =
    let p = c.args.checked.now in
    let d = c.args.directory.now in
    let on = c.args.on.now in
    let i = c.args.index in
    sym (ap (passes (λ b. slice_index_or on i false && asker_allowed p d c.args.asker b))
    (slice_get_past c.args.blocks.now i c.in-None.ensures.lookup.3))
