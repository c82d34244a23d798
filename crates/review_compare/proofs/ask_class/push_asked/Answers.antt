use Rattle.sudo_base.proofs.Options.{on_ok}
use Rattle.review_compare.proofs.AskLemmas.{ask-added}
use Rattle.review_compare.proofs.ask_class.push_asked.Goals as goal

pub returns : goal.returns
returns c =
    on_ok c.push_target.result
    (λ adds. ask-added c.args.pair.now c.args.asked.now.items c.push_target.new.asked.items c.args.ask adds)
    c.push_target.ensures
