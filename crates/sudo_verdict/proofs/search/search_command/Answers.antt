use Rattle.sudo_verdict.proofs.SearchLaw.{runas_before-resolves}
use Rattle.sudo_verdict.proofs.search.search_command.Goals as goal

pub runas_allows-requires : goal.runas_allows-requires
runas_allows-requires c = rw c.runas_before_end.ensures (runas_before-resolves c.args.lists.checked.now c.args.commands.now c.requires.all)
