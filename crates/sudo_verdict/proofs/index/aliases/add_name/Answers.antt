use Rattle.std.proofs.Common.{sym, ◌∙◌, refl}
use Rattle.sudo_verdict.proofs.RememberedDecisions.{numbering_more}
use Rattle.sudo_verdict.proofs.index.aliases.add_name.Goals as goal

pub returns-in_ok-insert-in-None : goal.returns-in_ok-insert-in-None
returns-in_ok-insert-in-None c =
    numbering_more c.args.names.now c.insert.new.self c.args.count.now _ c.args.name.now c.requires
    (sym c.get.ensures ∙ c.in-None.is) c.in_ok-insert-in-None.ensures.ok refl
