use Rattle.sudo_base.proofs.Options.{on_ok}
use Rattle.review_compare.proofs.trials.try_blocks.Goals as goal

pub returns : goal.returns
returns c = on_ok c.try_paths_of.result (λ kept all. kept (c.in_ok-try_own_of.ensures all)) c.try_paths_of.ensures
