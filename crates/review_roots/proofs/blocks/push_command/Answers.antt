use Rattle.review_roots.proofs.BlockLemmas.{block-pushed}
use Rattle.sudo_grammar.specs.declared.kind.Kind.TheVariants as kind
use Rattle.std.proofs.Common.{◌∷◌, []}
use Rattle.sudo_policy.specs.Written.{written_form}
use Rattle.review_roots.proofs.blocks.push_command.Goals as goal

pub returns-clause-rows : goal.returns-clause-rows
returns-clause-rows c =
    block-pushed c.args.head c.args.in_force c.in_ok-signs.signs _ _ (written_form kind.Cmnd c.args.checked.now (c.args.command.now ∷ []))
    c.args.blocks.now.items c.push.new.self.items c.in_ok-push.ensures.items c.in_ok-signs.ensures
