use Rattle.review_files.proofs.Below.{paths_stay_below}
use Rattle.review_files.proofs.laws.resolved_paths_stay_below.Goals as goal

pub returns : goal.returns
returns g c = paths_stay_below (g.T.Tree.shows c.args.tree.now)
